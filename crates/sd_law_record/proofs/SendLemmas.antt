-- What sends on a wire leave there, and how many failed.
use Rattle.std.proofs.Common.{◌≡◌, ◌∙◌, ℕ, zero, suc, ◌+◌, Bool, true, false, not, cond, List, [], ◌∷◌, ◌++◌, map, filter, get_or, refl, sym, ap, subst, arith, append-nil, append_assoc}
use Rattle.std.proofs.lemmas.List.Sums.{sum_by-cons}
use Rattle.sd_model_outside.specs.Outside.{Object, Packets}
use Rattle.sd_model_outside.proofs.DeliveryLemmas.{Counts, joined_counts, same_counts}
use Rattle.sd_model_outside.specs.Uses.{AfterSends, WireSend, Sending}
use Rattle.sd_law_record.specs.Sends.{failed_among, packets_of}
use Rattle.sd_model_record.proofs.WireLemmas.{before, one_count, one_content, packets_by}
use Rattle.sd_model_outside.proofs.Short.{sends_on}

packets_of-cons : (s : WireSend) (sends : List WireSend) → packets_of (s ∷ sends) ≡ packets_by s.is_failed s.packet ++ packets_of sends
packets_of-cons s sends = go s.is_failed refl
  where
    go : (failed : Bool) → s.is_failed ≡ failed → packets_of (s ∷ sends) ≡ packets_by failed s.packet ++ packets_of sends
    go true is = ap (λ f. map (λ (x : WireSend). x.packet) (cond (not f) (s ∷ filter (λ (x : WireSend). not x.is_failed) sends) (filter (λ (x : WireSend). not x.is_failed) sends))) is
    go false is = ap (λ f. map (λ (x : WireSend). x.packet) (cond (not f) (s ∷ filter (λ (x : WireSend). not x.is_failed) sends) (filter (λ (x : WireSend). not x.is_failed) sends))) is

-- what a wire tells after sends
pub sends_content : (sends : List WireSend) (packets : List (List ℕ)) (old new : Object) → old.content ≡ Packets packets → AfterSends sends old new → new.content ≡ Packets (packets ++ packets_of sends)
sends_content [] packets old new content h = ap (λ (o : Object). o.content) h ∙ content ∙ ap Packets (sym (append-nil packets))
sends_content (s ∷ sends) packets old new content h =
    sends_content sends (packets ++ packets_by s.is_failed s.packet) h.0 new (one_content s.packet s.is_failed packets old h.0 content h.1) h.2
    ∙ ap Packets (append_assoc packets (packets_by s.is_failed s.packet) (packets_of sends) ∙ ap (λ ps. packets ++ ps) (sym (packets_of-cons s sends)))

-- what sends do to a wire's count of faults, and that it stays where it was opened
pub sends_count : (sends : List WireSend) (old new : Object) → AfterSends sends old new → Counts (failed_among sends) old new
sends_count [] old new h = same_counts old new 0 refl (ap (λ (o : Object). o.faults) h) (ap (λ (o : Object). o.opened_at) h)
sends_count (s ∷ sends) old new h =
    subst (λ n. Counts n old new) (sym (sum_by-cons (λ (x : WireSend). cond x.is_failed 1 0) s sends))
    (joined_counts _ _ old h.0 new (one_count s.packet s.is_failed old h.0 h.1) (sends_count sends h.0 new h.2))

-- how many sends on a wire failed, with one of a packet more
failed_before : (packet : List ℕ) (failed : List Bool) (i : ℕ) (sends : List WireSend) → failed_among (before packet failed i sends) ≡ cond (get_or failed i false) 1 0 + failed_among sends
failed_before packet [] i sends = omega arith
failed_before packet (f ∷ failed) zero sends = sum_by-cons (λ (s : WireSend). cond s.is_failed 1 0) (record { packet = packet; is_failed = f }) sends
failed_before packet (f ∷ failed) (suc i) sends = failed_before packet failed i sends

pub failed_among-sends_on : (packet : List ℕ) (failed : List Bool) (rest : List Sending) (i : ℕ) → failed_among (sends_on i (record { packet = packet; failed = failed } ∷ rest)) ≡ cond (get_or failed i false) 1 0 + failed_among (sends_on i rest)
failed_among-sends_on packet failed rest i = failed_before packet failed i (sends_on i rest)

-- Reads of streams that were looked for and sent, some behind others.
use Rattle.std.proofs.Common.{◌≡◌, ◌∙◌, ℕ, ◌≤◌, List, [], ◌∷◌, ◌++◌, append_assoc, codes, map, refl, sym, ap, subst, arith}
use Rattle.std.specs.Prelude.{Some, fold, slice_get}
use Rattle.std.specs.List.{AllZip}
use Rattle.std.proofs.lemmas.List.{map-append}
use Rattle.std.proofs.lemmas.List.Sums.{fold-append}
use Rattle.sd_model_outside.specs.Outside.{Object}
use Rattle.sd_model_record.specs.Desk.{counted}
use Rattle.sd_model_record.specs.Totals.{Total, number_in}
use Rattle.sd_model_settings.specs.Entries.{Node}
use Rattle.sd_model_proxy.specs.Routes.{add_totals, no_totals, Read}
use Rattle.sd_model_live.specs.Port.{CountsFor, CountsRead, ProxyEvent}
use Rattle.sd_live.specs.Looks.{HaveAnswered}
use Rattle.sd_live.proofs.LookLemmas.{answered_more}
use Rattle.sd_proxy.specs.Forwarding.{Forwards}
use Rattle.sd_proxy.specs.Looking.{Counted, Looked, PassSeen, SendsByLooks}
use Rattle.sd_proxy_desk.specs.Views.{totals_view}
use Rattle.sd_proxy_desk.specs.declared.totals.ProxyTotals.{ProxyTotals}
use Rattle.sd_proxy.proofs.ForwardLemmas.{Forwards-apart, Forwards-next, Forwards-none, nothing_more}
use Rattle.sd_proxy.proofs.RelayLemmas.{One, looked-next, looked-none, reported_on}
use Rattle.sd_proxy.proofs.WaitingLemmas.{steady}
use Rattle.sd_model_shard.specs.Shard.{last_number}

-- lists that agree place by place, some behind others
pub zip_append : {A B : Type 0} (R : A → B → Type 0) (xs us : List A) (ys vs : List B) → AllZip R xs ys → AllZip R us vs
    → AllZip R (xs ++ us) (ys ++ vs)
zip_append R [] us [] vs a b = b
zip_append R (x ∷ xs) us (y ∷ ys) vs a b = (a.0, zip_append R xs us ys vs a.1 b)
zip_append R [] us (y ∷ ys) vs a b = absurd a
zip_append R (x ∷ xs) us [] vs a b = absurd a

-- the totals of a proxy with these numbers by name
abbrev named : (List ℕ → ℕ) → List Total
named number = map (λ t. (t.0, number t.0)) no_totals

-- totals that are added twice
added_twice : (f g : List ℕ → ℕ) (c : List Total) → add_totals (named f) (add_totals (named g) c)
    ≡ add_totals (add_totals (named f) (named g)) c
added_twice f g c = λ i.
    (codes "packets", by (codes "packets") i) ∷ (codes "lines", by (codes "lines") i) ∷ (codes "bad", by (codes "bad") i)
    ∷ (codes "sent", by (codes "sent") i)
    ∷ (codes "unowned", by (codes "unowned") i) ∷ (codes "send_faults", by (codes "send_faults") i) ∷ []
  where
    by : (name : List ℕ) → counted (f name) (counted (g name) (number_in c name)) ≡ counted (counted (f name) (g name)) (number_in c name)
    by name = omega arith

-- totals with those added that others make, one after another
added_on : (f g : List ℕ → ℕ) (cs : List (List Total))
    → add_totals (named f) (fold add_totals (named g) cs) ≡ fold add_totals (add_totals (named f) (named g)) cs
added_on f g [] = refl
added_on f g (c ∷ cs) =
    added_on f (λ name. counted (g name) (number_in c name)) cs ∙ ap (λ (t : List Total). fold add_totals t cs) (added_twice f g c)

-- totals with nothing added
with_none : (t : ProxyTotals) → add_totals (totals_view t) no_totals ≡ totals_view t
with_none t = λ i.
    (codes "packets", sym (steady t.packets t.few_packets) i) ∷ (codes "lines", sym (steady t.lines t.few_lines) i)
    ∷ (codes "bad", sym (steady t.bad t.few_bad) i) ∷ (codes "sent", sym (steady t.sent t.few_sent) i)
    ∷ (codes "unowned", sym (steady t.unowned t.few_unowned) i) ∷ (codes "send_faults", sym (steady t.send_faults t.few_send_faults) i) ∷ []

-- totals that nothing was before
behind_none : (t : ProxyTotals) → totals_view t ≡ add_totals no_totals (totals_view t)
behind_none t = λ i.
    (codes "packets", alone t.packets t.few_packets i) ∷ (codes "lines", alone t.lines t.few_lines i)
    ∷ (codes "bad", alone t.bad t.few_bad i) ∷ (codes "sent", alone t.sent t.few_sent i)
    ∷ (codes "unowned", alone t.unowned t.few_unowned i) ∷ (codes "send_faults", alone t.send_faults t.few_send_faults i) ∷ []
  where
    alone : (n : ℕ) → n ≤ last_number → n ≡ counted 0 n
    alone n few = omega (arith, few)

-- totals of counts, and those of counts behind them
added_up : (s t : ProxyTotals) (cs ds : List (List Total)) → totals_view s ≡ fold add_totals no_totals cs
    → totals_view t ≡ fold add_totals no_totals ds
    → add_totals (totals_view s) (totals_view t) ≡ fold add_totals no_totals (cs ++ ds)
added_up s t cs ds first second =
    ap (add_totals (totals_view s)) second ∙ added_on (number_in (totals_view s)) (λ name. 0) ds
    ∙ ap (λ (x : List Total). fold add_totals x ds) (with_none s ∙ first)
    ∙ sym (fold-append add_totals no_totals cs ds)

module _ (packets most : ℕ) (nodes : List Node) where
  -- reads that were counted behind others
  Counted-next : (old mid now : List ProxyEvent) (xs ys : List Read) (s t : ProxyTotals)
      → Counted packets most nodes old mid xs (totals_view s) → Counted packets most nodes mid now ys (totals_view t)
      → Counted packets most nodes old now (xs ++ ys) (add_totals (totals_view s) (totals_view t))
  Counted-next old mid now xs ys s t first second = record {
    counts = first.counts ++ second.counts;
    are = second.are ∙ ap (λ (l : List ProxyEvent). l ++ map CountsRead second.counts) first.are
        ∙ append_assoc old (map CountsRead first.counts) (map CountsRead second.counts)
        ∙ ap (λ (l : List ProxyEvent). old ++ l) (sym (map-append CountsRead first.counts second.counts));
    each = zip_append (CountsFor packets most nodes) xs ys first.counts second.counts first.each second.each;
    sum = added_up s t first.counts second.counts first.sum second.sum;
  }

  -- reads that were looked for behind others
  Looked-next : (old mid now : PassSeen) (xs ys : List Read) (s t : ProxyTotals) → Looked packets most nodes old mid xs (totals_view s)
      → Looked packets most nodes mid now ys (totals_view t)
      → Looked packets most nodes old now (xs ++ ys) (add_totals (totals_view s) (totals_view t))
  Looked-next old mid now xs ys s t first second = record {
    each = record {
      places = first.each.places ++ second.each.places;
      made = second.each.made ∙ ap (λ (l : List ℕ). l ++ second.each.places) first.each.made
          ∙ append_assoc old.looks first.each.places second.each.places;
      reported = map-append (λ p. slice_get now.history p) first.each.places second.each.places
          ∙ (λ i. reported_on mid.history now.history second.answered.goes_on first.each.places xs first.each.reported i ++ second.each.reported i)
          ∙ sym (map-append (λ (r : Read). Some r.up) xs ys);
    };
    answered = subst (HaveAnswered old.history now.history) (sym (map-append (λ (r : Read). r.up) xs ys))
        (answered_more old.history mid.history now.history (map (λ (r : Read). r.up) xs)
        (map (λ (r : Read). r.up) ys) first.answered second.answered);
    counts = Counted-next old.events mid.events now.events xs ys s t first.counts second.counts;
  }

module _ (most : ℕ) (nodes : List Node) where
  -- no read
  pub SendsByLooks-none : (own : PassSeen) (wires : List Object) (t : List Total) → t ≡ no_totals
      → SendsByLooks most nodes own own [] wires wires t
  SendsByLooks-none own wires t none = record {
    looked = looked-none 0 most nodes own t none;
    forwards = Forwards-none most nodes wires no_totals t (none ∙ nothing_more nodes);
  }

  -- one read
  pub SendsByLooks-one : (old now : PassSeen) (read : Read) (wires wires_now : List Object) (none : List Total) (t : ProxyTotals)
      → One 0 most nodes old now read wires wires_now none (totals_view t)
      → SendsByLooks most nodes old now (read ∷ []) wires wires_now (totals_view t)
  SendsByLooks-one old now read wires wires_now none t one = record {
    looked = looked-next 0 most nodes old old now read wires wires_now none (totals_view t) no_totals (totals_view t) one
        (behind_none t) [] (looked-none 0 most nodes old no_totals refl);
    forwards = subst (λ (before : List Total). Forwards most nodes 0 (read ∷ []) wires wires_now before (totals_view t))
        one.nothing one.forwards;
  }

  -- reads behind reads
  pub SendsByLooks-next : (old mid now : PassSeen) (xs ys : List Read) (u v w : List Object) (s t : ProxyTotals) (both : List Total)
      → both ≡ add_totals (totals_view s) (totals_view t)
      → SendsByLooks most nodes old mid xs u v (totals_view s) → SendsByLooks most nodes mid now ys v w (totals_view t)
      → SendsByLooks most nodes old now (xs ++ ys) u w both
  SendsByLooks-next old mid now xs ys u v w s t both is first second = record {
    looked = subst (Looked 0 most nodes old now (xs ++ ys)) (sym is)
        (Looked-next 0 most nodes old mid now xs ys s t first.looked second.looked);
    forwards = Forwards-next most nodes 0 0 xs ys u v w no_totals (totals_view s) both first.forwards
        (Forwards-apart most nodes 0 ys v w s no_totals (totals_view t) both refl is second.forwards);
  }

-- Sends on a wire, and on several, one list of them after another.
use Rattle.std.proofs.Common.{◌≡◌, ◌≢◌, ◌∙◌, ℕ, ◌<◌, Bool, true, false, cond, List, [], ◌∷◌, ◌++◌, length, set, get_or, refl, sym, ap, subst, arith, append-nil, inl, inr}
use Rattle.std.specs.Prelude.{option_map, slice_get}
use Rattle.std.specs.List.{cons_option}
use Rattle.std.proofs.lemmas.Bool.{cases_eq}
use Rattle.std.proofs.lemmas.List.{length-set, get_or-set_same, get_or-set_other, get_or_default}
use Rattle.std.proofs.lemmas.List.Elements.{filter_map-append}
use Rattle.sd_model_outside.specs.Outside.{Object, Packets, Content, Unknown, fresh, object_at}
use Rattle.sd_model_outside.specs.Uses.{HasSent, AfterSends, AfterSendsOn, WireSend, AreRepeated, Sending}
use Rattle.sd_model_outside.proofs.DeliveryLemmas.{Counts, same_counts}
use Rattle.sd_model_outside.proofs.Short.{sent, sends_on}

-- the packets of one send
abbrev pub packets_by : Bool → List ℕ → List (List ℕ)
packets_by is_failed packet = cond is_failed [] (packet ∷ [])

pub one_content : (packet : List ℕ) (is_failed : Bool) (packets : List (List ℕ)) (old new : Object) → old.content ≡ Packets packets → HasSent packet is_failed old new → new.content ≡ Packets (packets ++ packets_by is_failed packet)
one_content packet true packets old new content h = ap (λ (o : Object). o.content) h.same ∙ content ∙ ap Packets (sym (append-nil packets))
one_content packet false packets old new content h = ap (λ (o : Object). o.content) h ∙ ap (λ (t : Content). (sent packet (record old { content = t })).content) content

pub one_count : (packet : List ℕ) (is_failed : Bool) (old new : Object) → HasSent packet is_failed old new → Counts (cond is_failed 1 0) old new
one_count packet true old new h = record { used = h.used; rose = h.rose; steady = λ none. absurd (omega (arith, none)) }
one_count packet false old new h = same_counts old new 0 refl (ap (λ (o : Object). o.faults) h) (ap (λ (o : Object). o.opened_at) h)

AfterSends-next : (xs ys : List WireSend) (old mid new : Object) → AfterSends xs old mid → AfterSends ys mid new → AfterSends (xs ++ ys) old new
AfterSends-next [] ys old mid new first second = subst (λ o. AfterSends ys o new) first second
AfterSends-next (x ∷ xs) ys old mid new first second = (first.0, first.1, AfterSends-next xs ys first.0 mid new first.2 second)

-- no sends leave wires as they are
pub AfterSendsOn-none : (sends : ℕ → List WireSend) (wires : List Object) → ((i : ℕ) → sends i ≡ []) → AfterSendsOn sends wires wires
AfterSendsOn-none sends wires none = record {
  each = λ i. subst (λ ss. AfterSends ss (object_at i wires) (object_at i wires)) (sym (none i)) refl;
  no_others = λ i past. none i;
  count = refl;
}

-- sends after sends
pub AfterSendsOn-next : (xs ys both : ℕ → List WireSend) (old mid new : List Object) → ((i : ℕ) → both i ≡ xs i ++ ys i) → AfterSendsOn xs old mid → AfterSendsOn ys mid new → AfterSendsOn both old new
AfterSendsOn-next xs ys both old mid new are first second = record {
  each = λ i. subst (λ ss. AfterSends ss (object_at i old) (object_at i new)) (sym (are i)) (AfterSends-next (xs i) (ys i) (object_at i old) (object_at i mid) (object_at i new) (first.each i) (second.each i));
  no_others = λ i past. are i ∙ (λ t. first.no_others i past t ++ second.no_others i (omega (arith, past, first.count)) t);
  count = second.count ∙ first.count;
}

-- one send, on the wire in a place
pub AfterSendsOn-one : (sends : ℕ → List WireSend) (place : ℕ) (s : WireSend) (wires : List Object) (old new : Object) → sends place ≡ s ∷ [] → ((i : ℕ) → i ≢ place → sends i ≡ []) → place < length wires → get_or wires place old ≡ old → HasSent s.packet s.is_failed old new
    → AfterSendsOn sends wires (set wires place new)
AfterSendsOn-one sends place s wires old new here elsewhere inside there has = record {
  each = λ i. by_place i;
  no_others = λ i past. elsewhere i (λ same. omega (arith, same, past, inside));
  count = length-set wires place new;
}
  where
    by_place : (i : ℕ) → AfterSends (sends i) (object_at i wires) (object_at i (set wires place new))
    by_place i = elim (cases_eq i place) [
      | inl same ↦
          let was : object_at place wires ≡ old = get_or_default wires place (fresh Unknown) old inside ∙ there in
          let is : object_at place (set wires place new) ≡ new = get_or-set_same wires place new (fresh Unknown) inside in
          let one : AfterSends (s ∷ []) (object_at place wires) (object_at place (set wires place new)) = (new, subst (λ (w : Object). HasSent s.packet s.is_failed w new) (sym was) has, is) in
          subst (λ k. AfterSends (sends k) (object_at k wires) (object_at k (set wires place new))) (sym same)
          (subst (λ ss. AfterSends ss (object_at place wires) (object_at place (set wires place new))) (sym here) one)
      | inr other ↦ subst (λ ss. AfterSends ss (object_at i wires) (object_at i (set wires place new))) (sym (elsewhere i other)) (get_or-set_other wires place i new (fresh Unknown) other)
    ]

-- the send of a packet on a wire, where it has one, before others
abbrev pub before : List ℕ → List Bool → ℕ → List WireSend → List WireSend
before packet failed i sends = cons_option (option_map (λ (f : Bool). record { packet = packet; is_failed = f }) (slice_get failed i)) sends

pub AreRepeated-none : (wires : List Object) → AreRepeated [] wires wires
AreRepeated-none wires = AfterSendsOn-none (λ i. []) wires (λ i. refl)

pub AreRepeated-next : (xs ys : List Sending) (old mid new : List Object) → AreRepeated xs old mid → AreRepeated ys mid new → AreRepeated (xs ++ ys) old new
AreRepeated-next xs ys old mid new first second =
    AfterSendsOn-next (λ i. sends_on i xs) (λ i. sends_on i ys) (λ i. sends_on i (xs ++ ys)) old mid new
    (λ i. filter_map-append (λ (s : Sending). option_map (λ (f : Bool). record { packet = s.packet; is_failed = f }) (slice_get s.failed i)) xs ys) first second

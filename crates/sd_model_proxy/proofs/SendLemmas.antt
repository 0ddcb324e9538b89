-- Packets to nodes, some after others, and their sends on wires.
use Rattle.std.proofs.Common.{◌≡◌, ◌≢◌, ◌∙◌, ℕ, ◌<◌, Bool, true, false, cond, List, [], ◌∷◌, ◌++◌, length, map, refl, sym, ap, subst, arith, set, get_or, eq-eqb, ne_eqb}
use Rattle.std.specs.Prelude.{◌==◌}
use Rattle.std.proofs.lemmas.List.{map-append, length-set, get_or-set_same, set-get_or, set-set}
use Rattle.sd_model_outside.specs.Outside.{Object}
use Rattle.sd_model_outside.specs.Uses.{AfterSends, AfterSendsOn, WireSend}
use Rattle.sd_model_record.proofs.WireLemmas.{AfterSendsOn-next, AfterSendsOn-none, AfterSendsOn-one}
use Rattle.sd_model_proxy.specs.Routes.{Batch, Batched}
use Rattle.sd_model_proxy.proofs.Short.{AreForwarded, send_of}

-- packets, and after them others to the same nodes
abbrev pub behind : Batched → Batched → Batched
behind first second = λ place. first place ++ second place

-- these packets to the node in a place, and none to another
abbrev pub only : ℕ → List Batch → Batched
only place batches = λ at. cond (place == at) batches []

pub only-here : (place : ℕ) (batches : List Batch) → only place batches place ≡ batches
only-here place batches = ap (λ here. cond here batches []) (eq-eqb place place refl)

pub only-elsewhere : (place : ℕ) (batches : List Batch) (at : ℕ) → at ≢ place → only place batches at ≡ []
only-elsewhere place batches at other = ap (λ here. cond here batches []) (ne_eqb place at (λ same. other (sym same)))

-- sends after sends
pub AreForwarded-next : (first second : Batched) (old mid new : List Object) → AreForwarded first old mid → AreForwarded second mid new → AreForwarded (behind first second) old new
AreForwarded-next first second old mid new sends more =
    AfterSendsOn-next (λ place. map send_of (first place)) (λ place. map send_of (second place)) (λ place. map send_of (first place ++ second place)) old mid new (λ place. map-append send_of (first place) (second place)) sends more

-- no packet leaves the wires as they are
pub AreForwarded-none : (wires : List Object) → AreForwarded (λ place. []) wires wires
AreForwarded-none wires = AfterSendsOn-none (λ place. []) wires (λ place. refl)

-- packets to one node are sent on its wire, and the others stay
pub AreForwarded-only : (place : ℕ) (batches : List Batch) (wires : List Object) (old new : Object) → place < length wires → get_or wires place old ≡ old → AfterSends (map send_of batches) old new → AreForwarded (only place batches) wires (set wires place new)
AreForwarded-only place [] wires old new inside there sent =
    let same : set wires place new ≡ wires = ap (set wires place) (sent ∙ sym there) ∙ set-get_or wires place old in
    AfterSendsOn-stay (λ at. map send_of (only place [] at)) wires (set wires place new) same (λ at. none (place == at))
  where
    none : (here : Bool) → map send_of (cond here [] []) ≡ []
    none true = refl
    none false = refl

    AfterSendsOn-stay : (sends : ℕ → List WireSend) (wires now : List Object) → now ≡ wires → ((i : ℕ) → sends i ≡ []) → AfterSendsOn sends wires now
    AfterSendsOn-stay sends wires now same without = subst (AfterSendsOn sends wires) (sym same) (AfterSendsOn-none sends wires without)
AreForwarded-only place (b ∷ batches) wires old new inside there sent =
    let mid : Object = sent.0 in
    let one = AfterSendsOn-one (λ at. map send_of (only place (b ∷ []) at)) place (send_of b) wires old mid
    (ap (map send_of) (only-here place (b ∷ []))) (λ at other. ap (map send_of) (only-elsewhere place (b ∷ []) at other)) inside there sent.1 in
    let rest = AreForwarded-only place batches (set wires place mid) mid new (omega (arith, inside, length-set wires place mid)) (get_or-set_same wires place mid mid inside) sent.2 in
    subst (AreForwarded (only place (b ∷ batches)) wires) (set-set wires place mid new)
    (AfterSendsOn-next (λ at. map send_of (only place (b ∷ []) at)) (λ at. map send_of (only place batches at)) (λ at. map send_of (only place (b ∷ batches) at)) wires (set wires place mid) (set (set wires place mid) place new)
    (λ at. both (place == at)) one rest)
  where
    both : (here : Bool) → map send_of (cond here (b ∷ batches) []) ≡ map send_of (cond here (b ∷ []) []) ++ map send_of (cond here batches [])
    both true = refl
    both false = refl

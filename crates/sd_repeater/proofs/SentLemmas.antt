-- Packets that are repeated on all wires.
use Rattle.std.proofs.Common.{◌≡◌, ℕ, zero, suc, Bool, List, [], ◌∷◌, ◌++◌, length, refl, ap, arith, length-append}
use Rattle.std.specs.Prelude.{option_map}
use Rattle.std.specs.List.{cons_option}
use Rattle.std.proofs.lemmas.Option.{slice_get_past}
use Rattle.sd_model_outside.specs.Outside.{Object, object_at}
use Rattle.sd_repeater.specs.Sent.{AreSent}
use Rattle.sd_model_outside.specs.Uses.{AfterSends, AreRepeated}
use Rattle.sd_model_record.proofs.WireLemmas.{before}

-- there is a send of a packet on each of the wires
pub length-sent : (packet : List ℕ) (failed : List Bool) (old new : List Object) → AreSent packet failed old new → length failed ≡ length old
length-sent packet [] [] [] h = refl
length-sent packet [] [] (n ∷ new) h = absurd h
length-sent packet [] (o ∷ old) new h = absurd h
length-sent packet (f ∷ failed) [] new h = absurd h
length-sent packet (f ∷ failed) (o ∷ old) [] h = absurd h
length-sent packet (f ∷ failed) (o ∷ old) (n ∷ new) h = ap suc (length-sent packet failed old new h.1)

length-now : (packet : List ℕ) (failed : List Bool) (old new : List Object) → AreSent packet failed old new → length new ≡ length old
length-now packet [] [] [] h = refl
length-now packet [] [] (n ∷ new) h = absurd h
length-now packet [] (o ∷ old) new h = absurd h
length-now packet (f ∷ failed) [] new h = absurd h
length-now packet (f ∷ failed) (o ∷ old) [] h = absurd h
length-now packet (f ∷ failed) (o ∷ old) (n ∷ new) h = ap suc (length-now packet failed old new h.1)

packet_at : (packet : List ℕ) (failed : List Bool) (old new behind : List Object) (i : ℕ) → AreSent packet failed old new → AfterSends (before packet failed i []) (object_at i (old ++ behind)) (object_at i (new ++ behind))
packet_at packet [] [] [] behind i h = refl
packet_at packet [] [] (n ∷ new) behind i h = absurd h
packet_at packet [] (o ∷ old) new behind i h = absurd h
packet_at packet (f ∷ failed) [] new behind i h = absurd h
packet_at packet (f ∷ failed) (o ∷ old) [] behind i h = absurd h
packet_at packet (f ∷ failed) (o ∷ old) (n ∷ new) behind zero h = (n, h.0, refl)
packet_at packet (f ∷ failed) (o ∷ old) (n ∷ new) behind (suc i) h = packet_at packet failed old new behind i h.1

-- a packet that is sent on the first wires, whatever stands behind them
pub AreRepeated-one : (packet : List ℕ) (failed : List Bool) (old new behind : List Object) → AreSent packet failed old new → AreRepeated (record { packet = packet; failed = failed } ∷ []) (old ++ behind) (new ++ behind)
AreRepeated-one packet failed old new behind h = record {
  each = λ i. packet_at packet failed old new behind i h;
  no_others = λ i past. ap (λ f. cons_option (option_map (λ (b : Bool). record { packet = packet; is_failed = b }) f) []) (slice_get_past failed i (omega (arith, past, length-sent packet failed old new h, length-append old behind)));
  count = omega (arith, length-append old behind, length-append new behind, length-now packet failed old new h);
}

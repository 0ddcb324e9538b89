-- A packet that was sent on wires.
use Rattle.std.specs.Prelude.{ℕ, ⊤, Bool, List, [], ◌∷◌}
use Rattle.sd_model_outside.specs.Outside.{Object}
use Rattle.sd_model_outside.specs.Uses.{HasSent}

-- what a packet's sends left of wires, one on each, by which of them failed
abbrev pub AreSent : List ℕ → List Bool → List Object → List Object → Type 0
AreSent packet [] [] [] = ⊤
AreSent packet (f ∷ failed) (o ∷ old) (n ∷ new) = HasSent packet f o n × AreSent packet failed old new
AreSent packet failed old new = ⊥

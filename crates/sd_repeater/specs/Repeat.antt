-- A packet that is sent on each of some wires.
use Rattle.std.specs.Prelude.{◌≡◌, ℕ, Bool, List, count_by}
use Rattle.sd_model_outside.specs.Outside.{Object}
use Rattle.sd_repeater.specs.Sent.{AreSent}

-- a packet was sent on each wire, in order, and so many of the sends failed
pub record HasRepeated (packet : List ℕ) (old new : List Object) (faults : ℕ) : Type 0 where
  pub failed : List Bool
  pub sends : AreSent packet failed old new
  pub count : count_by (λ f. f) failed ≡ faults

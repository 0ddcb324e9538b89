-- A packet that was repeated and counted.
use Rattle.std.specs.Prelude.{◌≡◌, ℕ, Bool, List}
use Rattle.sd_model_outside.specs.Outside.{Object}
use Rattle.sd_repeater.specs.Sent.{AreSent}
use Rattle.sd_model_record.specs.Record.{Tally}
use Rattle.sd_model_record.specs.Desk.{Desk}
use Rattle.sd_model_outside.specs.Uses.{failures}
use Rattle.sd_desk.specs.Steps.{with_tally, with_repeater_faults}

-- The packet was sent on each wire, the desk counted it with this tally at this moment, and then the sends that failed.
pub record IsPlayed (packet : List ℕ) (tally : Tally) (moment : ℕ) (old new : List Object) (desk_before desk : Desk) : Type 0 where
  pub failed : List Bool
  pub sends : AreSent packet failed old new
  pub counted : desk ≡ with_repeater_faults (with_tally desk_before tally moment) (failures failed)

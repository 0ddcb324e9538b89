-- The totals of a replay's shards and desk.
use Rattle.std.specs.Prelude.{List, length}
use Rattle.sd_model_record.specs.Desk.{Desk}
use Rattle.sd_model_record.specs.Totals.{Total, totals_of}
use Rattle.sd_model_replay.specs.AccountingTheorem.{summed}
use Rattle.sd_shards.specs.Shards.{Group, state_at}

-- the totals of shards and a desk
abbrev pub totals_of_group : Group → Desk → List Total
totals_of_group group desk = totals_of (summed (length group.states) (state_at group)) desk.facts

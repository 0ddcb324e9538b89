use Rattle.std.proofs.Common.{ℕ, ◌<◌, get_or}
use Rattle.sd_record.specs.Placed.{IsPlaced, GoesBefore}
use Rattle.sd_record.specs.declared.placed.Place.{Place}
use Rattle.sd_record.proofs.placed.are_rising.Given as goal

-- the places so far are right
abbrev pub invariant-loop-i : goal.invariant-loop-i
invariant-loop-i l = record {
  placed : (k : ℕ) (d : Place) → k < l.i → IsPlaced l.tables (get_or l.places k d);
  rising : (j k : ℕ) (d : Place) → j < k → k < l.i → GoesBefore l.tables (get_or l.places j d) (get_or l.places k d);
}

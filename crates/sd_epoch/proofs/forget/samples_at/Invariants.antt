use Rattle.std.proofs.Common.{◌≡◌, length, get_or, take}
use Rattle.std.specs.Prelude.{sum_by}
use Rattle.sd_epoch.specs.Since.{no_tally}
use Rattle.sd_epoch.proofs.forget.samples_at.Given as goal

-- the samples of the places so far
abbrev pub invariant-loop-at : goal.invariant-loop-at
invariant-loop-at l = record {
  so_far : l.samples ≡ sum_by (λ p. (get_or l.rows.tallies p no_tally).samples) (take l.at l.places);
  all : l.at-end ≡ length l.places;
}

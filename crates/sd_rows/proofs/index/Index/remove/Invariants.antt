use Rattle.std.proofs.Common.{◌≡◌, ◌<◌, set, None, vec_capacity}
use Rattle.sd_rows.specs.Index.{hashes_in, HasHole}
use Rattle.sd_rows.proofs.index.Index.remove.Given as goal

abbrev pub invariant-loop-cell : goal.invariant-loop-cell
invariant-loop-cell l = record {
  hole : HasHole l.self l.hole l.cell;
  before : l.hole < l.cell;
  hashes : hashes_in l.self.spots.items ≡ set (hashes_in l.fn.self.spots.items) l.place None;
  homes : l.self.homes ≡ l.fn.self.homes;
  capacity : vec_capacity l.self.spots ≡ vec_capacity l.fn.self.spots;
}

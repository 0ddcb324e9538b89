use Rattle.std.proofs.Common.{◌≡◌, ◌≤◌, length, ◌+◌, arith}
use Rattle.std.proofs.lemmas.Grind.{common_steps}
use Rattle.std.proofs.lemmas.List.{length-map}
use Rattle.sd_rows.specs.Index.{taken_count, place_in, places_in, hash_in}
use Rattle.sd_rows.proofs.IndexLemmas.{taken_count-run}
use Rattle.sd_rows.proofs.index.Index.free_cell.Goals as goal

pub end-end-requires : goal.end-end-requires
end-end-requires c =
    let x = c.args.self.now in
    omega (arith, c.requires.index.cells_len, c.requires.index.small, length-map x.cells.items place_in)

-- with all cells from the home on taken, there would be more of them than places
pub returns-clause-within : goal.returns-clause-within
returns-clause-within c =
    let x = c.args.self.now in
    let cells = places_in x.cells.items in
    let lc : length cells ≡ length x.cells.items = length-map x.cells.items place_in in
    let all : length cells ≤ c.args.home + taken_count cells = taken_count-run cells c.args.home (λ d l m. c.loop-cell.invariant d l (grind (arith, common_steps, m, lc, c.end-end.ensures, c.loop-cell-test.false))) in
    absurd (omega (arith, all, c.requires.index.counts, c.requires.index.cells_len, c.requires.index.few, length-map x.spots.items hash_in, c.requires.low, c.requires.room))

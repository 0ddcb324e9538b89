use Rattle.std.proofs.Common.{None, arith}
use Rattle.std.proofs.lemmas.List.{length-map}
use Rattle.sd_rows.specs.Index.{place_in, places_in}
use Rattle.sd_rows.proofs.IndexLemmas.{get_or_past, end_index}
use Rattle.sd_rows.proofs.index.Index.remove.Goals as goal

pub end-end-requires : goal.end-end-requires
end-end-requires c =
    let y = c.empty_cell-hole.new.self in
    omega (arith, c.empty_cell-hole.ensures.hole.cells_len, c.empty_cell-hole.ensures.hole.small, length-map y.cells.items place_in)

pub place_at-requires : goal.place_at-requires
place_at-requires c =
    let x = c.loop-cell.self in
    let y = c.empty_cell-hole.new.self in
    omega (
      arith,
      c.loop-cell.invariant.hole.cells_len,
      c.loop-cell.invariant.homes,
      c.empty_cell-hole.ensures.hole.cells_len,
      c.empty_cell-hole.ensures.homes,
      length-map x.cells.items place_in,
      length-map y.cells.items place_in,
      c.end-end.ensures,
      c.loop-cell-test.true,
    )

pub returns-clause-index : goal.returns-clause-index
returns-clause-index c =
    let x = c.loop-cell.self in
    let y = c.empty_cell-hole.new.self in
    let past = get_or_past (places_in x.cells.items) c.loop-cell.cell None
    (omega (
      arith,
      c.loop-cell.invariant.hole.cells_len,
      c.loop-cell.invariant.homes,
      c.empty_cell-hole.ensures.hole.cells_len,
      c.empty_cell-hole.ensures.homes,
      length-map y.cells.items place_in,
      c.end-end.ensures,
      c.loop-cell-test.false,
    )) in
    end_index _ _ _ _ x.homes c.loop-cell.hole c.loop-cell.cell c.loop-cell.invariant.hole c.loop-cell.invariant.before past

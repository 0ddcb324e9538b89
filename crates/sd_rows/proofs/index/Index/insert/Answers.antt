use Rattle.std.proofs.Common.{◌≡◌, set, ap, ◌∙◌, sym, arith}
use Rattle.std.proofs.lemmas.List.{length-map, map-set}
use Rattle.sd_rows.specs.Index.{place_in, hash_in, hashes_in, home_by}
use Rattle.sd_rows.proofs.IndexLemmas.{taken_count-lt, put_indexed}
use Rattle.sd_rows.proofs.index.Index.insert.Goals as goal

pub free_cell-cell-requires-clause-room : goal.free_cell-cell-requires-clause-room
free_cell-cell-requires-clause-room c =
    let x = c.args.self.now in
    let lh = length-map x.spots.items hash_in in
    omega (arith, taken_count-lt (hashes_in x.spots.items) c.args.place (omega (arith, lh, c.requires.within)) c.requires.empty, lh)

pub free_cell-cell-requires-clause-low : goal.free_cell-cell-requires-clause-low
free_cell-cell-requires-clause-low c =
    let x = c.args.self.now in
    c.home.ensures.within (omega (arith, c.requires.index.few, c.requires.within, length-map x.spots.items hash_in))

pub of-requires : goal.of-requires
of-requires c =
    let x = c.args.self.now in
    omega (arith, c.requires.index.few, c.requires.index.small, c.requires.within, length-map x.spots.items hash_in)

pub at-requires : goal.at-requires
at-requires c =
    let x = c.args.self.now in
    omega (arith, c.requires.index.cells_len, c.requires.index.small, c.free_cell-cell.ensures.within, length-map x.cells.items place_in)

pub returns-clause-index : goal.returns-clause-index
returns-clause-index c =
    let x = c.args.self.now in
    let from : home_by x.homes c.args.hash ≡ c.home.result = sym c.home.ensures.home in
    put_indexed x.cells.items x.spots.items x.homes c.args.place c.args.hash c.free_cell-cell.result c.of.result c.at.result c.requires.index c.requires.within c.requires.empty
    (omega (arith, from, c.home.ensures.within (omega (arith, c.requires.index.few, c.requires.within, length-map x.spots.items hash_in))))
    (omega (arith, from, c.free_cell-cell.ensures.from)) c.free_cell-cell.ensures.within c.free_cell-cell.ensures.empty
    (λ d l m. c.free_cell-cell.ensures.before d (omega (arith, from, l)) m)
    c.of.ensures.place c.of.ensures.hash c.at.ensures.cell c.at.ensures.hash

pub returns-clause-hashes : goal.returns-clause-hashes
returns-clause-hashes c =
    let x = c.args.self.now in
    map-set hash_in x.spots.items c.args.place c.at.result ∙ ap (λ o. set (hashes_in x.spots.items) c.args.place o) c.at.ensures.hash

use Rattle.std.proofs.Common.{◌<◌, length, arith}
use Rattle.std.proofs.lemmas.Grind.{common_steps}
use Rattle.std.proofs.lemmas.List.{length-map, map-set}
use Rattle.sd_rows.specs.Index.{place_in, places_in, hash_in, hashes_in, no_spot}
use Rattle.sd_rows.proofs.IndexLemmas.{present_within, own_cell_is, empty_indexed}
use Rattle.sd_rows.proofs.index.Index.empty_cell.Goals as goal

pub cell_at-cell-requires : goal.cell_at-cell-requires
cell_at-cell-requires c =
    let x = c.args.self.now in
    omega (arith, present_within (hashes_in x.spots.items) c.args.place c.requires.live, length-map x.spots.items hash_in)

pub index_mut-requires : goal.index_mut-requires
index_mut-requires c =
    let x = c.args.self.now in
    let e = own_cell_is _ _ _ _ x.homes c.args.place c.cell_at-cell.result c.requires.index c.requires.live c.cell_at-cell.ensures in
    let inside : c.cell_at-cell.result < length (places_in x.cells.items) = present_within (places_in x.cells.items) c.cell_at-cell.result (λ n. grind (arith, n, e)) in
    grind (arith, common_steps, inside, length-map x.cells.items place_in)

pub returns-clause-hole : goal.returns-clause-hole
returns-clause-hole c =
    let x = c.args.self.now in
    empty_indexed x.cells.items x.spots.items x.homes c.args.place c.cell_at-cell.result c.requires.index c.requires.live
    (own_cell_is _ _ _ _ x.homes c.args.place c.cell_at-cell.result c.requires.index c.requires.live c.cell_at-cell.ensures)

pub returns-clause-hashes : goal.returns-clause-hashes
returns-clause-hashes c = map-set hash_in c.args.self.now.spots.items c.args.place no_spot

pub returns-clause-within : goal.returns-clause-within
returns-clause-within c =
    let x = c.args.self.now in
    let e = own_cell_is _ _ _ _ x.homes c.args.place c.cell_at-cell.result c.requires.index c.requires.live c.cell_at-cell.ensures in
    let inside : c.cell_at-cell.result < length (places_in x.cells.items) = present_within (places_in x.cells.items) c.cell_at-cell.result (λ n. grind (arith, n, e)) in
    grind (arith, common_steps, inside, length-map x.cells.items place_in)

use Rattle.std.proofs.Common.{◌≡◌, get_or, set, Some, None, sym, ap, ◌∙◌, arith}
use Rattle.std.proofs.lemmas.Grind.{common_steps}
use Rattle.std.proofs.lemmas.List.{length-map, map-set, set-get_or, get_or-map}
use Rattle.sd_rows.specs.Index.{place_in, tag_of, tags_in, hash_in, hashes_in, home_in}
use Rattle.sd_rows.proofs.IndexLemmas.{present_within, skip_index, move_indexed}
use Rattle.sd_rows.proofs.index.Index.close_up.Goals as goal

pub returns-then-hole-home-clause-hole : goal.returns-then-hole-home-clause-hole
returns-then-hole-home-clause-hole c =
    let x = c.args.self.now in
    let tag : get_or (tags_in x.cells.items) c.args.cell 0 ≡ c.index-moved.result.now.hash =
    get_or-map tag_of x.cells.items c.args.cell c.index-moved.result.now 0 c.requires.within ∙ sym (ap tag_of c.index-moved.ensures) in
    let hashed : get_or (hashes_in x.spots.items) c.args.place None ≡ Some c.index-moved.result.now.hash =
    c.requires.hole.tagged c.args.cell c.args.place c.requires.named ∙ ap Some tag in
    skip_index _ _ _ _ x.homes c.args.hole c.args.cell c.args.place c.home.result c.requires.hole c.requires.named
    (ap (home_in x.homes) hashed ∙ ap Some (sym c.home.ensures.home)) c.if-hole-home.true

pub at-requires : goal.at-requires
at-requires c =
    let x = c.args.self.now in
    omega (arith, c.requires.hole.cells_len, c.requires.hole.small, c.requires.before, c.requires.within, length-map x.cells.items place_in)

pub index_mut-requires-3 : goal.index_mut-requires-3
index_mut-requires-3 c =
    let x = c.args.self.now in
    let e = c.requires.hole.tagged c.args.cell c.args.place c.requires.named in
    let live = present_within (hashes_in x.spots.items) c.args.place (λ n. grind (arith, n, e)) in
    grind (arith, common_steps, live, length-map x.spots.items hash_in)

pub returns-clause-hole : goal.returns-clause-hole
returns-clause-hole c =
    let x = c.args.self.now in
    move_indexed x.cells.items x.spots.items x.homes c.args.hole c.args.cell c.args.place c.index-moved.result.now c.at.result
    c.requires.hole c.requires.named c.index-moved.ensures c.requires.within (omega (arith, c.home.ensures.home, c.if-hole-home.false)) c.requires.before
    c.at.ensures.cell c.at.ensures.hash

pub returns-clause-hashes : goal.returns-clause-hashes
returns-clause-hashes c =
    let x = c.args.self.now in
    let tag : get_or (tags_in x.cells.items) c.args.cell 0 ≡ c.index-moved.result.now.hash =
    get_or-map tag_of x.cells.items c.args.cell c.index-moved.result.now 0 c.requires.within ∙ sym (ap tag_of c.index-moved.ensures) in
    let hashed : get_or (hashes_in x.spots.items) c.args.place None ≡ Some c.index-moved.result.now.hash =
    c.requires.hole.tagged c.args.cell c.args.place c.requires.named ∙ ap Some tag in
    map-set hash_in x.spots.items c.args.place c.at.result ∙ ap (λ o. set (hashes_in x.spots.items) c.args.place o) (c.at.ensures.hash ∙ sym hashed)
    ∙ set-get_or (hashes_in x.spots.items) c.args.place None

use Rattle.std.proofs.Common.{◌≡◌, ◌*◌, [], length, replicate, rules, ap, ◌∙◌}
use Rattle.std.proofs.lemmas.List.{length-map, length-replicate}
use Rattle.sd_rows.specs.Index.{place_in, places_in, tag_of, tags_in, cells_of, hashes_in, no_cell}
use Rattle.sd_rows.proofs.IndexLemmas.{map_replicate, open_index}
use Rattle.sd_rows.proofs.index.Index.open.Goals as goal

pub returns-clause-index : goal.returns-clause-index
returns-clause-index c =
    let cells = c.in_ok-vec.field-0.items in
    let spots = c.in_ok-with_capacity.field-0.items in
    let cs : cells ≡ replicate (3 * c.args.n) no_cell = search rules in
    let ss : spots ≡ [] = search rules in
    open_index (places_in cells) (tags_in cells) (cells_of spots) (hashes_in spots) c.args.n
    (ap places_in cs ∙ map_replicate place_in (3 * c.args.n) no_cell)
    (length-map cells tag_of ∙ ap length cs ∙ length-replicate (3 * c.args.n) no_cell) (ap cells_of ss) (ap hashes_in ss) c.requires

use Rattle.std.proofs.Common.{◌≡◌, [], ◌∷◌, ◌++◌, None, ap, ◌∙◌, arith}
use Rattle.std.proofs.lemmas.List.{length-map, map-append}
use Rattle.sd_rows.specs.Index.{cell_of, cells_of, hash_in, hashes_in, no_spot}
use Rattle.sd_rows.proofs.IndexLemmas.{push_index}
use Rattle.sd_rows.proofs.index.Index.push.Goals as goal

pub returns-clause-index : goal.returns-clause-index
returns-clause-index c =
    let x = c.args.self.now in
    let new = c.push_reserved.new.self.items in
    let S : cells_of new ≡ cells_of x.spots.items ++ 0 ∷ [] = ap cells_of c.push_reserved.ensures.items ∙ map-append cell_of x.spots.items (no_spot ∷ []) in
    let H : hashes_in new ≡ hashes_in x.spots.items ++ None ∷ [] = ap hashes_in c.push_reserved.ensures.items ∙ map-append hash_in x.spots.items (no_spot ∷ []) in
    rw (S, H) (push_index _ _ _ _ _ c.requires.index (omega (arith, c.requires.few, length-map x.spots.items hash_in)))

use Rattle.std.proofs.Common.{◌≡◌, ◌++◌, [], ◌∷◌, take, map}
use Rattle.md5.specs.Md5.{word_at}
use Rattle.sd_ring.proofs.points.push_digest.Given as goal
use Rattle.sd_model_ring.proofs.Short.{points_at}

abbrev pub invariant-loop-at : goal.invariant-loop-at
invariant-loop-at l = l.points.items ≡ l.initial.points.items ++ points_at l.place (map (word_at l.digest) (take l.at-index (0 ∷ 4 ∷ 8 ∷ 12 ∷ [])))

-- Points in order.
use Rattle.std.specs.Prelude.{◌≡◌, ℕ, true, List, [], ◌∷◌, map, Option, option_map, nat_lt, nat_le, ◌==◌, ◌&&◌, ◌||◌}
use Rattle.std.specs.List.{All, find}
use Rattle.md5.specs.Md5.{word_at}
use Rattle.sd_model_ring.specs.Ring.{Point, is_up}

-- each point comes before those behind it, or is equal to them
abbrev pub Ascends : List Point → Type 0
Ascends [] = Unit {0}
Ascends (p ∷ ps) = All (λ q. (nat_lt p.at q.at || (p.at == q.at && nat_le p.node q.node)) ≡ true) ps × Ascends ps

-- the node of the first point that is up
abbrev pub first_up : ℕ → List Point → Option ℕ
first_up up ps = option_map (λ p. p.node) (find (λ p. is_up up p.node) ps)

-- the four words of a digest
abbrev pub words_of : List ℕ → List ℕ
words_of digest = map (word_at digest) (0 ∷ 4 ∷ 8 ∷ 12 ∷ [])

-- The ring: where nodes and keys stand on it, and which node owns a key.
use Rattle.std.specs.{Prelude.{ℕ, ◌+◌, ◌/◌, ◌%◌, ◌^◌, ◌==◌, ◌&&◌, ◌||◌, Bool, nat_lt, nat_le, if◌then◌else◌, List, [], ◌∷◌, ◌++◌, map, filter, codes, Option, Some, None, option_map}, List.{concat, range_with_len}, Option.{option_or, option_map_or}, Fmt.{decimal}}
use Rattle.md5.specs.Md5.{md5, word_at}
use Rattle.sd_model_settings.specs.Entries.{Node}

-- the 160 numbers of a node: the words of the digests MD5 (RFC 1321), each with its low byte first, of its 40 texts
unfoldable pub numbers_of_node : Node → List ℕ
numbers_of_node node = concat (map (λ i. map (word_at (md5 (node.host ++ codes ":" ++ decimal node.port ++ codes "-" ++ decimal i))) (0 ∷ 4 ∷ 8 ∷ 12 ∷ [])) (range_with_len 0 40))

-- A point of the ring: a number, and the place of its node among the nodes.
pub record Point : Type 0 where
  pub at : ℕ
  pub node : ℕ

-- the points of nodes that stand from a place on
abbrev pub points_from : ℕ → List Node → List Point
points_from place [] = []
points_from place (node ∷ nodes) = map (λ at. record { at = at; node = place }) (numbers_of_node node) ++ points_from (place + 1) nodes

-- whether the node in a place is up: the bit of this place is 1
abbrev pub is_up : ℕ → ℕ → Bool
is_up up node = up / 2 ^ node % 2 == 1

-- the least of points, and of equal ones that of the earliest node
abbrev pub least : List Point → Option Point
least [] = None
least (p ∷ ps) = Some (option_map_or (λ q. if nat_lt p.at q.at || (p.at == q.at && nat_le p.node q.node) then p else q) (least ps) p)

-- the least point that isn't below a number, else the least of all
abbrev pub next_point : ℕ → List Point → Option Point
next_point number ps = option_or (least (filter (λ p. nat_le number p.at) ps)) (least ps)

-- The owner of a key among the nodes that are up: the node of the next point from the key's number on, or none where no node is up.
abbrev pub owner : List ℕ → List Node → ℕ → Option ℕ
owner key nodes up = option_map (λ p. p.node) (next_point (word_at (md5 key) 0) (filter (λ p. is_up up p.node) (points_from 0 nodes)))

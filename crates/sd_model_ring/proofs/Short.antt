-- Short names that proofs have for parts of definitions.
use Rattle.std.specs.Prelude.{if◌then◌else◌, List, ℕ, map, ◌∷◌, [], filter, nat_le, codes, ◌++◌, Bool, nat_lt, ◌&&◌, ◌==◌, ◌||◌}
use Rattle.std.specs.List.{concat, range_with_len}
use Rattle.sd_model_ring.specs.Ring.{Point, numbers_of_node, points_from, is_up}
use Rattle.md5.specs.Md5.{word_at, md5}
use Rattle.sd_model_settings.specs.Entries.{Node}
use Rattle.std.specs.Fmt.{decimal}

-- whether a point is less than another, or equal to it and of no later node
abbrev pub comes_first : Point → Point → Bool
comes_first p q = nat_lt p.at q.at || (p.at == q.at && nat_le p.node q.node)

-- the number of a key: the first of the numbers of its text
abbrev pub number_of_key : List ℕ → ℕ
number_of_key key = word_at (md5 key) 0

-- the text `HOST:PORT-i` of a node
abbrev pub node_text : Node → ℕ → List ℕ
node_text node i = node.host ++ codes ":" ++ decimal node.port ++ codes "-" ++ decimal i

-- the points with these numbers of the node in a place
abbrev pub points_at : ℕ → List ℕ → List Point
points_at place numbers = map (λ at. record { at = at; node = place }) numbers

-- the points of the nodes that are up
abbrev pub points_up : ℕ → List Point → List Point
points_up up ps = filter (λ p. is_up up p.node) ps

-- the points of all nodes
abbrev pub points : List Node → List Point
points nodes = points_from 0 nodes

-- the points of the node in a place
abbrev pub points_of : ℕ → Node → List Point
points_of place node = points_at place (numbers_of_node node)

-- of two points the lesser, and of equal ones that of the earlier node
abbrev pub lesser : Point → Point → Point
lesser p q = if comes_first p q then p else q

-- the four numbers of a text: the words of its digest MD5 (RFC 1321), each with its low byte first
abbrev pub numbers_of : List ℕ → List ℕ
numbers_of text = map (word_at (md5 text)) (0 ∷ 4 ∷ 8 ∷ 12 ∷ [])

-- the numbers of a node: those of its first texts, so many of them, from `HOST:PORT-0` on
abbrev pub numbers_of_texts : Node → ℕ → List ℕ
numbers_of_texts node texts = concat (map (λ i. (map (word_at (md5 (node_text node i))) (0 ∷ 4 ∷ 8 ∷ 12 ∷ []))) (range_with_len 0 texts))

-- the points that aren't below a number
abbrev pub points_not_below : ℕ → List Point → List Point
points_not_below number ps = filter (λ p. nat_le number p.at) ps

-- Rows whose keys stand apart from the rest of them.
use Rattle.std.specs.Prelude.{◌≡◌, ℕ, ◌-◌, List, [], ◌∷◌, ◌++◌, length, map, replicate, get_or, Option, None, option_map, pos}
use Rattle.sd_rows.specs.Hash.{hash_of}
use Rattle.sd_rows.specs.Rows.{no_tally}
use Rattle.sd_rows.specs.declared.head.Head.{Head}
use Rattle.sd_rows.specs.declared.row.Row.{Row}
use Rattle.sd_rows.specs.declared.tally.Tally.{Tally}

-- the head of a place that was never in use
abbrev pub no_head : Head
no_head = record { tally = no_tally; base = record { 0 = pos 0 }; swaps = 0; kind = None }

-- the row that a head has with its key
abbrev pub row_with : Head → List ℕ → Option Row
row_with head key = option_map (λ kind. record { kind = kind; key = key; base = head.base; swaps = head.swaps }) head.kind

-- the rows that heads have with their keys
abbrev pub rows_with : List Head → List (List ℕ) → List (Option Row)
rows_with [] keys = []
rows_with (head ∷ heads) [] = row_with head [] ∷ rows_with heads []
rows_with (head ∷ heads) (key ∷ keys) = row_with head key ∷ rows_with heads keys

-- the tallies in them
abbrev pub tallies_in : List Head → List Tally
tallies_in heads = map (λ head. head.tally) heads

-- a list, and behind it the same thing up to so many
abbrev pub padded : {X : Type 0} → X → ℕ → List X → List X
padded x n xs = xs ++ replicate (n - length xs) x

-- the hash of the row in a place, where it has one
abbrev pub hash_at : ℕ → Option Row → Option ℕ
hash_at seed row = option_map (λ r. hash_of seed r.kind r.key) row

-- the hashes by which places are found are those of their rows
abbrev pub AreHashed : ℕ → List (Option ℕ) → List (Option Row) → Type 0
AreHashed seed hashes rows = (p : ℕ) → get_or hashes p None ≡ hash_at seed (get_or rows p None)

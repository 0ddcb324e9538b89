-- Shards that are swapped one after another.
use Rattle.std.proofs.Common.{◌≡◌, ◌≢◌, ℕ, zero, suc, ◌+◌, ◌<◌, ◌≤◌, List, [], ◌∷◌, ◌++◌, length, map, refl, sym, ap, ◌∙◌, ◌⊎◌, inl, inr, append-nil, arith}
use Rattle.std.specs.Prelude.{get_or}
use Rattle.std.specs.FinMap.{empty}
use Rattle.std.specs.List.{range_with_len}
use Rattle.std.proofs.lemmas.Bool.{cases_lt}
use Rattle.std.proofs.lemmas.List.{map-append, length-map, same_lists, get_or_append_left, get_or_at}
use Rattle.std.proofs.lemmas.List.FromFn.{length-map-range_with_len, get_or-map-range_with_len}
use Rattle.sd_model_shard.specs.Shard.{Table}
use Rattle.sd_model_shard.specs.History.{History}
use Rattle.sd_flush.specs.Made.{table_at}
use Rattle.sd_epoch.specs.Table.{Listing, table_of}
use Rattle.sd_shard.specs.Spares.{Stock}
use Rattle.sd_flush.specs.Swapping.{swap_at}
use Rattle.sd_model_serve.proofs.Short.{swap_of}

-- a table where none is told
abbrev no_table : Table
no_table = record { live = empty }

push_tables : (tables : List Listing) (t : Listing) → map table_of (tables ++ t ∷ []) ≡ map table_of tables ++ table_of t ∷ []
push_tables tables t = map-append table_of tables (t ∷ [])

table_before : (tables : List Listing) (t : Listing) (j : ℕ) → j < length tables → table_at (map table_of (tables ++ t ∷ [])) j ≡ table_at (map table_of tables) j
table_before tables t j below =
    ap (λ (ts : List Table). table_at ts j) (push_tables tables t)
    ∙ get_or_append_left (map table_of tables) (table_of t ∷ []) no_table j (omega (arith, below, length-map tables table_of))

table_last : (tables : List Listing) (t : Listing) → table_at (map table_of (tables ++ t ∷ [])) (length tables) ≡ table_of t
table_last tables t =
    ap (λ (ts : List Table). table_at ts (length tables)) (push_tables tables t)
    ∙ get_or_at (map table_of tables) (table_of t) [] no_table (length tables) (length-map tables table_of)

-- one shard more was swapped
pub swaps_next : (old mid new : ℕ → History) (tables : List Listing) (t : Listing) (i : ℕ) → length tables ≡ i
    → ((j : ℕ) → j < i → mid j ≡ old j ++ swap_at tables j) → mid i ≡ old i
    → new i ≡ mid i ++ swap_of (table_of t) ∷ [] → ((j : ℕ) → j ≢ i → new j ≡ mid j)
    → (j : ℕ) → j < i + 1 → new j ≡ old j ++ swap_at (tables ++ t ∷ []) j
swaps_next old mid new tables t i count done left here others j below = by_place (cases_lt j i) where
  by_place : (j < i) ⊎ (i ≤ j) → new j ≡ old j ++ swap_at (tables ++ t ∷ []) j
  by_place (inl before) =
      others j (λ at. omega (arith, before, at)) ∙ done j before
      ∙ ap (λ (u : Table). old j ++ swap_of u ∷ []) (sym (table_before tables t j (omega (arith, before, count))))
  by_place (inr behind) =
      let at : j ≡ i = omega (arith, below, behind) in
      let last : table_at (map table_of (tables ++ t ∷ [])) i ≡ table_of t = ap (table_at (map table_of (tables ++ t ∷ []))) (sym count) ∙ table_last tables t in
      ap new at ∙ here ∙ ap (λ (acts : History). acts ++ swap_of (table_of t) ∷ []) left
      ∙ ap (λ (u : Table). old i ++ swap_of u ∷ []) (sym last)
      ∙ ap (λ (n : ℕ). old n ++ swap_at (tables ++ t ∷ []) n) (sym at)

-- the tables, each at its place
pub tables_all : (ts : List Table) (n : ℕ) → length ts ≡ n → map (table_at ts) (range_with_len 0 n) ≡ ts
tables_all ts n same =
    same_lists (map (table_at ts) (range_with_len 0 n)) ts (length-map-range_with_len (table_at ts) 0 n ∙ sym same)
    (λ k d below.
    let few : k < n = omega (arith, length-map-range_with_len (table_at ts) 0 n, below) in
    get_or-map-range_with_len (table_at ts) 0 n k k d few (omega arith) ∙ by_default ts k d (omega (arith, few, same))) where
      by_default : (ts : List Table) (k : ℕ) (d : Table) → k < length ts → table_at ts k ≡ get_or ts k d
      by_default [] k d h = absurd (omega (arith, h))
      by_default (t ∷ ts) zero d h = refl
      by_default (t ∷ ts) (suc k) d h = by_default ts k d (omega (arith, h))

-- the tables that were swapped out are the next spares
pub turned_out : (stock swapped new : Stock) → swapped ≡ record stock { waiting = []; swapped = swapped.swapped }
    → new ≡ record swapped { waiting = map (λ (t : Listing). t.places) swapped.swapped ++ swapped.waiting; swapped = [] }
    → new.waiting ≡ map (λ (t : Listing). t.places) swapped.swapped
turned_out stock swapped new kept reclaimed =
    let places = map (λ (t : Listing). t.places) swapped.swapped in
    ap (λ (s : Stock). s.waiting) reclaimed ∙ ap (λ (w : _). places ++ w) (ap (λ (s : Stock). s.waiting) kept) ∙ append-nil places

-- Rows at home, in shards of the code and in their tables.
use Rattle.std.proofs.Common.{◌≡◌, ℕ, zero, suc, ◌+◌, ◌<◌, ◌≤◌, false, eqb, List, [], ◌∷◌, length, map, sym, ap, ◌∙◌, ◌⊎◌, inl, inr, arith}
use Rattle.std.specs.Prelude.{All, is_some, None}
use Rattle.std.specs.List.{range_with_len}
use Rattle.std.specs.FinMap.{get, get-empty, contains_key}
use Rattle.std.proofs.lemmas.Bool.{cases_lt, ne_eqb}
use Rattle.std.proofs.lemmas.List.{length-map, get_or_past}
use Rattle.std.proofs.lemmas.List.Elements.{All-nil, All-cons}
use Rattle.sd_model_text.specs.Names.{shard}
use Rattle.sd_model_shard.specs.Rows.{row_cmp}
use Rattle.sd_model_shard.specs.Shard as model
use Rattle.sd_model_shard.specs.Shard.{State, empty_state}
use Rattle.sd_law_shards.specs.Shards.{AtHome}
use Rattle.sd_law_shards.proofs.HomeLemmas.{home_of_row}
use Rattle.sd_epoch.specs.Table.{Listing, table_of}
use Rattle.sd_record.specs.Rows.{AreDisjoint, ShareNone}
use Rattle.sd_shard.specs.Shard.{Standing, state_of}
use Rattle.sd_shards.specs.Standings.{state_in}

-- shards that are in states whose rows are at home
pub AtHome-states : (n : ℕ) (states : ℕ → State) (shards : List Standing) → length shards ≡ n → ((i : ℕ) → i < n → state_in shards i ≡ states i) → AtHome n states → AtHome (length shards) (state_in shards)
AtHome-states n states shards len same home i id away = by_place (cases_lt i n) where
  by_place : (i < n) ⊎ (n ≤ i) → get (state_in shards i).live id ≡ None
  by_place (inl below) = ap (λ (state : State). get state.live id) (same i below) ∙ home i id (ap (λ m. eqb i (shard id.key m)) (sym len) ∙ away)
  by_place (inr past) =
      ap (λ (state : State). get state.live id) (get_or_past (map state_of shards) i empty_state (omega (arith, length-map shards state_of, len))) ∙ get-empty row_cmp id

-- no row of a shard stands in the tables of those behind it
module _ (n : ℕ) (states : ℕ → State) (home : AtHome n states) where
  elsewhere : (i j : ℕ) (a b : Listing) → i < j → table_of a ≡ model.table_of (states i) → table_of b ≡ model.table_of (states j) → ShareNone a b
  elsewhere i j a b below from to id has =
      let own : shard id.key n ≡ i = home_of_row n states home i id (ap (λ (t : model.Table). contains_key t.live id) (sym from) ∙ has) in
      let away : eqb j (shard id.key n) ≡ false = ne_eqb j (shard id.key n) (λ at. omega arith) in
      ap (λ (t : model.Table). contains_key t.live id) to ∙ ap is_some (home j id away)

  share_none : (i : ℕ) (t : Listing) → table_of t ≡ model.table_of (states i) → (tables : List Listing) (start count : ℕ) → i < start
      → map table_of tables ≡ map (λ j. model.table_of (states j)) (range_with_len start count) → All (ShareNone t) tables
  share_none i t from [] start count below same = All-nil (ShareNone t)
  share_none i t from (u ∷ tables) start zero below same = absurd (cc)
  share_none i t from (u ∷ tables) start (suc count) below same =
      let first : table_of u ≡ model.table_of (states start) = cc in
      let rest : map table_of tables ≡ map (λ j. model.table_of (states j)) (range_with_len (start + 1) count) = cc in
      All-cons (ShareNone t) u tables (elsewhere i start t u below from first) (share_none i t from tables (start + 1) count (omega arith) rest)

  disjoint_from : (tables : List Listing) (start count : ℕ) → map table_of tables ≡ map (λ i. model.table_of (states i)) (range_with_len start count) → AreDisjoint tables
  disjoint_from [] start count same = tt
  disjoint_from (t ∷ tables) start zero same = absurd (cc)
  disjoint_from (t ∷ tables) start (suc count) same =
      let first : table_of t ≡ model.table_of (states start) = cc in
      let rest : map table_of tables ≡ map (λ i. model.table_of (states i)) (range_with_len (start + 1) count) = cc in
      (share_none start t first tables (start + 1) count (omega arith) rest, disjoint_from tables (start + 1) count rest)

  -- the tables of shards whose rows are at home
  pub tables_disjoint : (tables : List Listing) → map table_of tables ≡ map (λ i. model.table_of (states i)) (range_with_len 0 n) → AreDisjoint tables
  tables_disjoint tables same = disjoint_from tables 0 n same

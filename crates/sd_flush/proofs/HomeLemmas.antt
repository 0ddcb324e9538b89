-- Tables with rows of one shard's keys each.
use Rattle.std.proofs.Common.{◌≡◌, ℕ, ◌+◌, ◌<◌, Bool, true, false, eqb, List, [], ◌∷◌, ◌++◌, length, refl, sym, ap, subst, ◌∙◌, arith}
use Rattle.std.specs.Prelude.{⊤, All, is_some}
use Rattle.std.specs.FinMap.{contains_key}
use Rattle.std.proofs.lemmas.Bool.{eqb-true, ne_eqb}
use Rattle.std.proofs.lemmas.List.Elements.{All-nil, All-cons}
use Rattle.sd_model_text.specs.Names.{shard}
use Rattle.sd_model_shard.specs.Rows.{RowId}
use Rattle.sd_epoch.specs.Table.{Listing, live_of}
use Rattle.sd_record.specs.Rows.{AreDisjoint, ShareNone}
use Rattle.sd_pool.specs.Setup.{OnlyOf}

-- each of the tables, from a shard's number on, has rows of that shard's keys alone
abbrev pub AreHome : ℕ → ℕ → List Listing → Type 0
AreHome shards start [] = ⊤
AreHome shards start (t ∷ tables) = OnlyOf start shards (live_of t) × AreHome shards (start + 1) tables

pub AreHome-push : (shards start i : ℕ) (tables : List Listing) (t : Listing) → i ≡ start + length tables → AreHome shards start tables → OnlyOf i shards (live_of t) → AreHome shards start (tables ++ t ∷ [])
AreHome-push shards start i [] t at home own = (subst (λ n. OnlyOf n shards (live_of t)) (let here : i ≡ start = omega (arith, at) in here) own, tt)
AreHome-push shards start i (u ∷ tables) t at home own = (home.0, AreHome-push shards (start + 1) i tables t (omega (arith, at)) home.1 own)

module _ (shards : ℕ) where
  -- the shard of a row's key
  home_of : (i : ℕ) (t : Listing) (id : RowId) → OnlyOf i shards (live_of t) → contains_key (live_of t) id ≡ true → i ≡ shard id.key shards
  home_of i t id own has = by_test (eqb i (shard id.key shards)) refl where
    by_test : (b : Bool) → eqb i (shard id.key shards) ≡ b → i ≡ shard id.key shards
    by_test true is = eqb-true i (shard id.key shards) is
    by_test false is = absurd (let both = sym (ap is_some (own id is)) ∙ has in cc)

  -- rows of two shards
  apart : (i j : ℕ) (a b : Listing) → i < j → OnlyOf i shards (live_of a) → OnlyOf j shards (live_of b) → ShareNone a b
  apart i j a b below own other id has =
      let here = home_of i a id own has in
      ap is_some (other id (ne_eqb j (shard id.key shards) (λ at. omega (arith, below, here, at))))

  all_apart : (i start : ℕ) (t : Listing) (tables : List Listing) → i < start → OnlyOf i shards (live_of t) → AreHome shards start tables → All (ShareNone t) tables
  all_apart i start t [] below own home = All-nil (ShareNone t)
  all_apart i start t (u ∷ tables) below own home =
      All-cons (ShareNone t) u tables (apart i start t u below own home.0) (all_apart i (start + 1) t tables (omega (arith, below)) own home.1)

  -- no row stands in two tables of different shards
  pub disjoint_home : (start : ℕ) (tables : List Listing) → AreHome shards start tables → AreDisjoint tables
  disjoint_home start [] home = tt
  disjoint_home start (t ∷ tables) home = (all_apart start (start + 1) t tables (omega arith) home.0 home.1, disjoint_home (start + 1) tables home.1)

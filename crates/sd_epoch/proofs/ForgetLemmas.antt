-- Rows and entries of which some are taken out.
use Rattle.std.proofs.Common.{◌≡◌, Bool, true, false, cond, not, List, [], ◌∷◌, filter, map, refl, sym, ap, ◌∙◌, Option, None}
use Rattle.std.specs.Cmp.{eq_by_cmp_equiv}
use Rattle.std.specs.FinMap.{get, remove, retain_keys, get-remove, get-retain_keys, same_map}
use Rattle.sd_model_shard.specs.Rows.{RowId, row_cmp, Rows, Kept, is_same_row}
use Rattle.sd_model_shard.proofs.RowLemmas.{rows_exact, rows_total}
use Rattle.sd_model_shard.proofs.EntryLemmas.{StandApart}
use Rattle.sd_model_shard.proofs.ListedLemmas.{StandApart-filter}
use Rattle.sd_epoch.specs.Table.{AreApart}

pub map-filter : {X A : Type 0} (v : X → A) (p : A → Bool) (xs : List X) → map v (filter (λ x. p (v x)) xs) ≡ filter p (map v xs)
map-filter v p [] = refl
map-filter v p (x ∷ xs) =
    elim (p (v x)) as (λ b. map v (cond b (x ∷ filter (λ y. p (v y)) xs) (filter (λ y. p (v y)) xs)) ≡ cond b (v x ∷ filter p (map v xs)) (filter p (map v xs))) [
      | true ↦ ap (λ ys. v x ∷ ys) (map-filter v p xs)
      | false ↦ map-filter v p xs
    ]

pub StandApart-rows : (es : List (RowId × Kept)) → AreApart es → StandApart row_cmp es
StandApart-rows [] a = tt
StandApart-rows (e ∷ es) a = (a.0, StandApart-rows es a.1)

AreApart-from : (es : List (RowId × Kept)) → StandApart row_cmp es → AreApart es
AreApart-from [] a = tt
AreApart-from (e ∷ es) a = (a.0, AreApart-from es a.1)

-- rows that are left stand apart
pub AreApart-filter : (p : RowId → Bool) (es : List (RowId × Kept)) → AreApart es → AreApart (filter (λ (e : RowId × Kept). p e.0) es)
AreApart-filter p es a = AreApart-from (filter (λ (e : RowId × Kept). p e.0) es) (StandApart-filter p es (StandApart-rows es a))

-- to keep all rows but one is to take it out
pub without_id : (m : Rows) (id : RowId) → retain_keys m (λ r. not (is_same_row id r)) ≡ remove m id
without_id m id =
    same_map rows_total rows_exact (retain_keys m (λ r. not (is_same_row id r))) (remove m id) (λ q.
    get-retain_keys m (λ r. not (is_same_row id r)) q (λ x tie. ap (λ (r : RowId). not (is_same_row id r)) (sym (rows_exact q x tie)))
    ∙ ap (λ b. cond (not b) (get m q) None) ((eq_by_cmp_equiv rows_total).symm id q)
    ∙ turned (is_same_row q id) (get m q) ∙ sym (get-remove rows_total m id q)) where
      turned : (b : Bool) (o : Option Kept) → cond (not b) o None ≡ cond b None o
      turned true o = refl
      turned false o = refl

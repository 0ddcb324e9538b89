-- Rows listed in some order, and the map that they make.
use Rattle.std.proofs.Common.{◌≡◌, ℕ, ◌+◌, Bool, true, false, cond, ◌||◌, List, [], ◌∷◌, ◌++◌, length, refl, ap, ◌∙◌, Option, Some, None, is_some, add-one, suc, ◌<◌, get_or, drop, sym}
use Rattle.std.proofs.Math.Seq.{drop-cons}
use Rattle.std.specs.declared.cmp.Ordering.TheVariants.{Less, Equal, Greater}
use Rattle.std.specs.Ordering.{is_eq}
use Rattle.std.specs.Cmp.{eq_by_cmp_equiv}
use Rattle.std.specs.FinMap.{find, insert, from_entries, len, contains_key, get-from_entries, len-insert, len-empty, from_entries_push}
use Rattle.sd_model_shard.specs.Rows.{RowId, row_cmp, Kept, is_same_row}
use Rattle.sd_model_shard.proofs.RowLemmas.{rows_exact, rows_total}
use Rattle.sd_epoch.specs.Table.{AreApart, listed_with}
use Rattle.std.specs.declared.cmp.Ordering.{Ordering}

pub same_itself : (id : RowId) → is_same_row id id ≡ true
same_itself id = (eq_by_cmp_equiv rows_total).refl id

pub found : (id : RowId) (es : List (RowId × Kept)) → is_some (find row_cmp id es) ≡ listed_with id es
found id [] = refl
found id (e ∷ es) = elim (is_same_row id e.0) as (λ b. is_some (cond b (Some e.1) (find row_cmp id es)) ≡ (b || listed_with id es)) [ true ↦ refl | false ↦ found id es ]

-- to push a row whose id is new is to insert it
pub from_entries-push : (id : RowId) (v : Kept) (es : List (RowId × Kept)) → find row_cmp id es ≡ None → from_entries {R = row_cmp} (es ++ (id, v) ∷ []) ≡ insert (from_entries es) id v
from_entries-push id v es none = from_entries_push rows_total rows_exact es id v none

or_false : (a b : Bool) → (a || b) ≡ false → (a ≡ false) × (b ≡ false)
or_false true b h = absurd (cc)
or_false false b h = (refl, h)

any-push : (r id : RowId) (v : Kept) (es : List (RowId × Kept)) → listed_with r es ≡ false → is_same_row r id ≡ false → listed_with r (es ++ (id, v) ∷ []) ≡ false
any-push r id v [] h f = ap (λ b. b || false) f
any-push r id v (e ∷ es) h f =
    let parts = or_false (is_same_row r e.0) (listed_with r es) h in
    ap (λ b. b || listed_with r (es ++ (id, v) ∷ [])) parts.0 ∙ any-push r id v es parts.1 f

pub AreApart-push : (id : RowId) (v : Kept) (es : List (RowId × Kept)) → listed_with id es ≡ false → AreApart es → AreApart (es ++ (id, v) ∷ [])
AreApart-push id v [] h a = (refl, tt)
AreApart-push id v (e ∷ es) h a =
    let parts = or_false (is_same_row id e.0) (listed_with id es) h in
    (any-push e.0 id v es a.0 ((eq_by_cmp_equiv rows_total).symm e.0 id ∙ parts.0), AreApart-push id v es parts.1 a.1)

not_some : (o : Option Kept) → is_some o ≡ false → o ≡ None
not_some None h = refl
not_some (Some x) h = absurd (cc)

pub not_found : (id : RowId) (es : List (RowId × Kept)) → listed_with id es ≡ false → find row_cmp id es ≡ None
not_found id es h = not_some _ (found id es ∙ h)

pub contains-listed : (id : RowId) (es : List (RowId × Kept)) → contains_key (from_entries {R = row_cmp} es) id ≡ listed_with id es
contains-listed id es = ap is_some (get-from_entries rows_total es id) ∙ found id es

-- where no row stands twice, the map has as many rows as the list
pub len-apart : (es : List (RowId × Kept)) → AreApart es → len (from_entries {R = row_cmp} es) ≡ length es
len-apart [] a = len-empty row_cmp Kept
len-apart (e ∷ es) a =
    let more = len-insert rows_total (from_entries es) e.0 e.1 in
    let absent = contains-listed e.0 es ∙ a.0 in
    more ∙ ap (λ b. cond b (len (from_entries {R = row_cmp} es)) (len (from_entries {R = row_cmp} es) + 1)) absent ∙ ap (λ n. n + 1) (len-apart es a.1) ∙ add-one (length es)

is_equal : (o : Ordering) → is_eq o ≡ true → o ≡ Equal
is_equal Less h = absurd (cc)
is_equal Equal h = refl
is_equal Greater h = absurd (cc)

-- rows that the test takes for one are one
pub same_row : (a b : RowId) → is_same_row a b ≡ true → a ≡ b
same_row a b h = rows_exact a b (is_equal (row_cmp a b) h)

-- what is left from a place on begins with what stands there
pub left_from : {A : Type 0} (xs : List A) (i : ℕ) (x : A) → i < length xs → x ≡ get_or xs i x → drop i xs ≡ x ∷ drop (i + 1) xs
left_from xs i x below is = rw (add-one) (drop-cons xs i x below ∙ ap (λ y. y ∷ drop (suc i) xs) (sym is))

-- The finite map that rows in places stand for.
use Rattle.std.proofs.Common.{◌≡◌, ◌≢◌, ◌↔◌, IsTrue, ℕ, zero, suc, ◌+◌, ◌<◌, Bool, true, false, cond, List, [], ◌∷◌, length, set, replicate, Option, Some, None, is_some, refl, sym, ap, subst, ◌∙◌, add-one, arith}
use Rattle.std.specs.declared.cmp.Ordering.{Ordering}
use Rattle.std.specs.declared.cmp.Ordering.TheVariants.{Less, Equal, Greater}
use Rattle.std.specs.Ordering.{is_eq}
use Rattle.std.specs.Cmp.{eq_by_cmp_equiv}
use Rattle.std.specs.FinMap.{find, get, insert, remove, empty, len, contains_key, from_entries, same_map, get-insert, get-remove, get-from_entries, len-insert, len-empty}
use Rattle.std.proofs.lemmas.List.{set-get_or}
use Rattle.sd_model_text.specs.Names as model
use Rattle.sd_model_shard.specs.Rows.{RowId, row_cmp, Kept, is_same_row}
use Rattle.sd_model_shard.proofs.RowLemmas.{rows_exact, rows_total}
use Rattle.sd_key.specs.Kind.{kind_of}
use Rattle.sd_key.specs.declared.kind.Kind.{Kind}
use Rattle.sd_key.specs.declared.kind.Kind.TheVariants.{Counter, Timer, Gauge, Set}
use Rattle.sd_rows.specs.declared.row.Row.{Row}
use Rattle.sd_rows.specs.Index.{taken_count}
use Rattle.sd_rows.specs.Rows.{row_at, Holds, IsAbsent, AreApart}
use Rattle.sd_rows.specs.RowMap.{id_of, kept_of, entries_of, rows_of, has_id}
use Rattle.sd_rows.proofs.IndexLemmas.{present_within}

both : (b : Bool) → b ≡ true → b ≡ false → ⊥
both true t f = absurd (cc)
both false t f = absurd (cc)

pub not_true : (b : Bool) → (b ≡ true → ⊥) → b ≡ false
not_true true h = absurd (h refl)
not_true false h = refl

pub true_by : (b : Bool) → (b ≡ false → ⊥) → b ≡ true
true_by true h = refl
true_by false h = absurd (h refl)

is_equal : (o : Ordering) → is_eq o ≡ true → o ≡ Equal
is_equal Less h = absurd (cc)
is_equal Equal h = refl
is_equal Greater h = absurd (cc)

same_id : (a b : RowId) → is_same_row a b ≡ true → a ≡ b
same_id a b h = rows_exact a b (is_equal (row_cmp a b) h)

same_itself : (id : RowId) → is_same_row id id ≡ true
same_itself id = (eq_by_cmp_equiv rows_total).refl id

-- kinds that the definitions take for one are one
code_kind : model.Kind → Kind
code_kind model.Counter = Counter
code_kind model.Timer = Timer
code_kind model.Gauge = Gauge
code_kind model.Set = Set

code_kind-of : (k : Kind) → code_kind (kind_of k) ≡ k
unfolding code_kind
code_kind-of Counter = refl
code_kind-of Timer = refl
code_kind-of Gauge = refl
code_kind-of Set = refl

same_kind : (a b : Kind) → kind_of a ≡ kind_of b → a ≡ b
same_kind a b e = sym (code_kind-of a) ∙ ap code_kind e ∙ code_kind-of b

-- a row that has the id of a kind and key is of that kind and key, and the other way round
pub has_holds : (kind : Kind) (key : List ℕ) (o : Option Row) → has_id (id_of kind key) o ≡ true → Holds kind key o
has_holds kind key None h = absurd (cc)
has_holds kind key (Some row) h =
    let same = same_id (id_of kind key) (id_of row.kind row.key) h in
    (same_kind row.kind kind (sym (ap (λ (id : RowId). id.kind) same)), sym (ap (λ (id : RowId). id.key) same))

pub holds_has : (kind : Kind) (key : List ℕ) (o : Option Row) → Holds kind key o → has_id (id_of kind key) o ≡ true
holds_has kind key None h = absurd h
holds_has kind key (Some row) h = rw (h.0, h.1) (same_itself (id_of kind key))

-- two places that have one id have one kind and key
shared : (q : RowId) (row : Row) (o : Option Row) → has_id q (Some row) ≡ true → has_id q o ≡ true → Holds row.kind row.key o
shared q row o h i =
    has_holds row.kind row.key o (subst (λ (id : RowId). has_id id o ≡ true) (same_id q (id_of row.kind row.key) h) i)

shared_two : (P : Type 0) (q : RowId) (o o' : Option Row) → has_id q o ≡ true → has_id q o' ≡ true → ((kind : Kind) (key : List ℕ) → Holds kind key o → Holds kind key o' → P) → P
shared_two P q None o' h i k = absurd (cc)
shared_two P q (Some row) o' h i k = k row.kind row.key (refl, refl) (shared q row o' h i)

pub one_place : (places : List (Option Row)) (q : RowId) (p at : ℕ) → AreApart places → has_id q (row_at places p) ≡ true → has_id q (row_at places at) ≡ true → p ≡ at
one_place places q p at w h i = shared_two (p ≡ at) q (row_at places p) (row_at places at) h i (λ kind key a b. w p at kind key a b)

-- what a place keeps
kept_in : Option Row → Option Kept
kept_in None = None
kept_in (Some row) = Some (kept_of row)

find-prefix : (q : RowId) (o : Option Row) (places : List (Option Row)) → find row_cmp q (entries_of (o ∷ places)) ≡ cond (has_id q o) (kept_in o) (find row_cmp q (entries_of places))
unfolding kept_in
find-prefix q None places = refl
find-prefix q (Some row) places = refl

pub find-absent : (q : RowId) (places : List (Option Row)) → ((p : ℕ) → has_id q (row_at places p) ≡ false) → find row_cmp q (entries_of places) ≡ None
find-absent q [] h = refl
find-absent q (o ∷ places) h =
    find-prefix q o places ∙ ap (λ b. cond b (kept_in o) (find row_cmp q (entries_of places))) (h 0) ∙ find-absent q places (λ p. h (suc p))

some_kept : (o : Option Row) (q : RowId) (r : Option Kept) → has_id q o ≡ true → is_some (cond (has_id q o) (kept_in o) r) ≡ true
unfolding kept_in
some_kept None q r h = absurd (cc)
some_kept (Some row) q r h = ap (λ b. is_some (cond b (Some (kept_of row)) r)) h

either_some : (b : Bool) (o : Option Row) (q : RowId) (r : Option Kept) → has_id q o ≡ b → is_some r ≡ true → is_some (cond (has_id q o) (kept_in o) r) ≡ true
either_some true o q r h s = some_kept o q r h
either_some false o q r h s = ap (λ b. is_some (cond b (kept_in o) r)) h ∙ s

-- a place that has the id is found, or another
pub find-present : (q : RowId) (places : List (Option Row)) (p : ℕ) → has_id q (row_at places p) ≡ true → is_some (find row_cmp q (entries_of places)) ≡ true
find-present q [] p h = absurd (cc)
find-present q (o ∷ places) zero h = ap is_some (find-prefix q o places) ∙ some_kept o q _ h
find-present q (o ∷ places) (suc p) h = ap is_some (find-prefix q o places) ∙ either_some (has_id q o) o q _ refl (find-present q places p h)

first_written : (a b : Bool) (K X F : Option Kept) → (a ≡ false → b ≡ true → F ≡ None) → cond a K F ≡ cond a K (cond b None (cond b X F))
first_written true b K X F h = refl
first_written false true K X F h = h refl refl
first_written false false K X F h = refl

later_written : (a b c : Bool) (K X F : Option Kept) → (c ≡ true → a ≡ true → ⊥) → (c ≡ true → b ≡ true → ⊥) → cond c X (cond a K (cond b None F)) ≡ cond a K (cond b None (cond c X F))
later_written true b true K X F h i = absurd (h refl refl)
later_written false true true K X F h i = absurd (i refl refl)
later_written false false true K X F h i = refl
later_written a b false K X F h i = refl

-- What is found after a place is written: what the place has now, where it is of this id; and what was found before, where the place didn't have it.
find-write :
    (q : RowId) (places : List (Option Row)) (at : ℕ) (o : Option Row) → at < length places
    → (has_id q o ≡ true → (p : ℕ) → p ≢ at → has_id q (row_at places p) ≡ false)
    → (has_id q (row_at places at) ≡ true → (p : ℕ) → p ≢ at → has_id q (row_at places p) ≡ false)
    → find row_cmp q (entries_of (set places at o)) ≡ cond (has_id q o) (kept_in o) (cond (has_id q (row_at places at)) None (find row_cmp q (entries_of places)))
find-write q [] at o lt new old = absurd (omega arith)
find-write q (x ∷ places) zero o lt new old =
    find-prefix q o places
    ∙ first_written (has_id q o) (has_id q x) (kept_in o) (kept_in x) (find row_cmp q (entries_of places)) (λ a b. find-absent q places (λ p. old b (suc p) (λ e. omega arith)))
    ∙ ap (λ r. cond (has_id q o) (kept_in o) (cond (has_id q x) None r)) (sym (find-prefix q x places))
find-write q (x ∷ places) (suc at) o lt new old =
    find-prefix q x (set places at o)
    ∙ ap (cond (has_id q x) (kept_in x)) (find-write q places at o (omega arith) (λ h p ne. new h (suc p) (λ e. ne (omega arith))) (λ h p ne. old h (suc p) (λ e. ne (omega arith))))
    ∙ later_written (has_id q o) (has_id q (row_at places at)) (has_id q x) (kept_in o) (kept_in x) (find row_cmp q (entries_of places))
    (λ c a. both (has_id q x) c (new a 0 (λ e. omega arith)))
    (λ c b. both (has_id q x) c (old b 0 (λ e. omega arith)))
    ∙ ap (λ r. cond (has_id q o) (kept_in o) (cond (has_id q (row_at places at)) None r)) (sym (find-prefix q x places))

-- an apart place's id is in no other
pub no_other : (places : List (Option Row)) (at : ℕ) (q : RowId) → AreApart places → has_id q (row_at places at) ≡ true → (p : ℕ) → p ≢ at → has_id q (row_at places p) ≡ false
no_other places at q w h p ne = not_true (has_id q (row_at places p)) (λ t. ne (one_place places q p at w t h))

pub none_has : (places : List (Option Row)) (row : Row) (q : RowId) → IsAbsent row.kind row.key places → has_id q (Some row) ≡ true → (p : ℕ) → has_id q (row_at places p) ≡ false
none_has places row q w h p = not_true (has_id q (row_at places p)) (λ t. w p (shared q row (row_at places p) h t))

-- the map of places in which nothing stands
entries-none : (n : ℕ) → entries_of (replicate n None) ≡ []
entries-none zero = refl
entries-none (suc n) = entries-none n

pub map-none : (n : ℕ) → rows_of (replicate n None) ≡ empty
map-none n = ap (λ (es : List (RowId × Kept)). from_entries {R = row_cmp} es) (entries-none n)

pub map-get : (places : List (Option Row)) (q : RowId) → get (rows_of places) q ≡ find row_cmp q (entries_of places)
map-get places q = get-from_entries rows_total (entries_of places) q

overwritten : (a b : Bool) (K F : Option Kept) → (b ≡ true → a ≡ true) → cond a K (cond b None F) ≡ cond a K F
overwritten true b K F h = refl
overwritten false true K F h = absurd (cc (h refl))
overwritten false false K F h = refl

-- a row that takes the place of nothing, or of a row of its kind and key, is inserted
pub map-write :
    (places : List (Option Row)) (at : ℕ) (row : Row) → at < length places
    → ((q : RowId) → has_id q (row_at places at) ≡ true → has_id q (Some row) ≡ true)
    → ((q : RowId) → has_id q (Some row) ≡ true → (p : ℕ) → p ≢ at → has_id q (row_at places p) ≡ false)
    → ((q : RowId) → has_id q (row_at places at) ≡ true → (p : ℕ) → p ≢ at → has_id q (row_at places p) ≡ false)
    → rows_of (set places at (Some row)) ≡ insert (rows_of places) (id_of row.kind row.key) (kept_of row)
unfolding kept_in
map-write places at row within same new old =
    same_map rows_total rows_exact _ _ (λ q.
    map-get (set places at (Some row)) q ∙ find-write q places at (Some row) within (new q) (old q)
    ∙ overwritten (has_id q (Some row)) (has_id q (row_at places at)) (Some (kept_of row)) (find row_cmp q (entries_of places)) (same q)
    ∙ ap (cond (has_id q (Some row)) (Some (kept_of row))) (sym (map-get places q))
    ∙ sym (get-insert rows_total (rows_of places) (id_of row.kind row.key) (kept_of row) q))

pub map-add :
    (places : List (Option Row)) (at : ℕ) (row : Row) → at < length places → row_at places at ≡ None → IsAbsent row.kind row.key places
    → rows_of (set places at (Some row)) ≡ insert (rows_of places) (id_of row.kind row.key) (kept_of row)
map-add places at row within none absent =
    let not_here : (q : RowId) → has_id q (row_at places at) ≡ true → ⊥ = λ q h. both (has_id q (row_at places at)) h (ap (has_id q) none) in
    map-write places at row within (λ q h. absurd (not_here q h)) (λ q h p ne. none_has places row q absent h p) (λ q h. absurd (not_here q h))

pub live_within : (places : List (Option Row)) (at : ℕ) (row : Row) → row_at places at ≡ Some row → at < length places
live_within places at row is = present_within places at (λ e. grind (arith, e, is))

pub map-set :
    (places : List (Option Row)) (at : ℕ) (row new : Row) → AreApart places → row_at places at ≡ Some row → new.kind ≡ row.kind → new.key ≡ row.key
    → rows_of (set places at (Some new)) ≡ insert (rows_of places) (id_of new.kind new.key) (kept_of new)
map-set places at row new w is k x =
    let same : (q : RowId) → has_id q (row_at places at) ≡ has_id q (Some new) = λ q. ap (has_id q) is ∙ rw (k, x) refl in
    map-write places at new (live_within places at row is) (λ q h. sym (same q) ∙ h) (λ q h. no_other places at q w (same q ∙ h)) (λ q h. no_other places at q w h)

pub map-remove :
    (places : List (Option Row)) (at : ℕ) (row : Row) → AreApart places → row_at places at ≡ Some row
    → rows_of (set places at None) ≡ remove (rows_of places) (id_of row.kind row.key)
map-remove places at row w is =
    same_map rows_total rows_exact _ _ (λ q.
    map-get (set places at None) q ∙ find-write q places at None (live_within places at row is) (λ h. absurd (cc)) (no_other places at q w)
    ∙ ap (λ o. cond (has_id q o) None (find row_cmp q (entries_of places))) is
    ∙ ap (cond (has_id q (Some row)) None) (sym (map-get places q))
    ∙ sym (get-remove rows_total (rows_of places) (id_of row.kind row.key) q))

pub map-found : (places : List (Option Row)) (at : ℕ) (row : Row) → AreApart places → row_at places at ≡ Some row → get (rows_of places) (id_of row.kind row.key) ≡ Some (kept_of row)
unfolding kept_in
map-found places at row w is =
    let q = id_of row.kind row.key in
    let here : has_id q (Some row) ≡ true = same_itself q in
    let there : has_id q (row_at places at) ≡ true = ap (has_id q) is ∙ here in
    let unchanged : set places at (Some row) ≡ places = ap (set places at) (sym is) ∙ set-get_or places at None in
    map-get places q ∙ ap (λ l. find row_cmp q (entries_of l)) (sym unchanged)
    ∙ find-write q places at (Some row) (live_within places at row is) (λ h. no_other places at q w there) (no_other places at q w)
    ∙ ap (λ b. cond b (Some (kept_of row)) (cond (has_id q (row_at places at)) None (find row_cmp q (entries_of places)))) here

pub map-absent : (places : List (Option Row)) (kind : Kind) (key : List ℕ) → IsAbsent kind key places → get (rows_of places) (id_of kind key) ≡ None
map-absent places kind key w =
    map-get places (id_of kind key)
    ∙ find-absent (id_of kind key) places (λ p. not_true (has_id (id_of kind key) (row_at places p)) (λ t. w p (has_holds kind key (row_at places p) t)))

pub map-not_there : (places : List (Option Row)) (kind : Kind) (key : List ℕ) → contains_key (rows_of places) (id_of kind key) ≡ false → IsAbsent kind key places
map-not_there places kind key none p h =
    both (contains_key (rows_of places) (id_of kind key))
    (ap is_some (map-get places (id_of kind key)) ∙ find-present (id_of kind key) places p (holds_has kind key (row_at places p) h)) none

tail_apart : (o : Option Row) (places : List (Option Row)) → AreApart (o ∷ places) → AreApart places
tail_apart o places w p q kind key h i = omega (arith, w (suc p) (suc q) kind key h i)

absent_behind : (row : Row) (places : List (Option Row)) → AreApart (Some row ∷ places) → IsAbsent row.kind row.key places
absent_behind row places w p h = omega (arith, w (suc p) 0 row.kind row.key h (refl, refl))

-- where no kind and key stands twice, the map has as many rows as the places
pub map-count : (places : List (Option Row)) → AreApart places → len (rows_of places) ≡ taken_count places
map-count [] w = len-empty row_cmp Kept
map-count (None ∷ places) w = map-count places (tail_apart None places w)
map-count (Some row ∷ places) w =
    len-insert rows_total (rows_of places) (id_of row.kind row.key) (kept_of row)
    ∙ ap (λ o. cond (is_some o) (len (rows_of places)) (len (rows_of places) + 1)) (map-absent places row.kind row.key (absent_behind row places w))
    ∙ ap (λ n. n + 1) (map-count places (tail_apart (Some row) places w)) ∙ add-one (taken_count places)

-- what tests a place for a kind and key tests it for their id
pub has_by_test : (b : Bool) (kind : Kind) (key : List ℕ) (o : Option Row) → (IsTrue b ↔ Holds kind key o) → b ≡ has_id (id_of kind key) o
has_by_test true kind key o h = sym (holds_has kind key o (h.0 refl))
has_by_test false kind key o h = sym (not_true (has_id (id_of kind key) o) (λ t. both false (h.1 (has_holds kind key o t)) refl))

-- The rows of tables, each with its place.
use Rattle.std.proofs.Common.{◌≡◌, ℕ, ◌+◌, ◌<◌, ◌≤◌, List, [], ◌∷◌, ◌++◌, length, get_or, map, take, sym, ap, subst, ◌∙◌, append_assoc, Some, option_map, slice_get, sum_by, arith}
use Rattle.std.specs.Prelude.{All, option_and_then}
use Rattle.std.proofs.lemmas.List.{map-append, take_more, length-map, flat_map_more}
use Rattle.std.proofs.lemmas.List.Elements.{All-push}
use Rattle.std.proofs.lemmas.List.Concat.{length-flat_map}
use Rattle.std.proofs.lemmas.List.Folds.{length-flat_map-take}
use Rattle.std.proofs.lemmas.Option.{slice_get_within, get_or_from_slice_get, slice_get-get_or, slice_get-map}
use Rattle.sd_model_shard.specs.Rows.{RowId, Kept}
use Rattle.sd_epoch.specs.Table.{Listing, AreApart}
use Rattle.sd_record.specs.Rows.{TableRow, rows_in, all_rows}
use Rattle.sd_record.specs.Placed.{row_at, no_row}
use Rattle.sd_record.specs.declared.placed.Place.{Place}

-- one element more
pub more_mapped : {A B : Type 0} (f : A → B) (prefix xs : List B) (ys : List A) (i : ℕ) (y : A) → map f ys ≡ prefix ++ take i xs → slice_get xs i ≡ Some (f y) → map f (ys ++ y ∷ []) ≡ prefix ++ take (i + 1) xs
more_mapped f prefix xs ys i y so_far next =
    map-append f ys (y ∷ []) ∙ ap (λ es. es ++ f y ∷ []) so_far ∙ append_assoc prefix (take i xs) (f y ∷ [])
    ∙ ap (λ e. prefix ++ (take i xs ++ e ∷ [])) (sym (get_or_from_slice_get xs i (f y) (f y) next))
    ∙ ap (λ es. prefix ++ es) (sym (take_more xs i (f y) (slice_get_within xs i (f y) next)))

-- how many rows a table has
pub rows_as_listed : (t : Listing) → length (rows_in t) ≡ length t.listed
rows_as_listed t =
    let made : RowId × Kept → TableRow = λ e. record { id = e.0; kept = e.1 } in
    length-map t.listed made

-- the row at a place of a table
pub row_placed : (tables : List Listing) (t : Listing) (place : Place) → slice_get tables place.table ≡ Some t → place.row < length t.listed → slice_get (map Some (rows_in t)) place.row ≡ Some (row_at tables place)
row_placed tables t place here below =
    let rows = rows_in t in
    let got = slice_get-get_or rows place.row no_row (omega (arith, rows_as_listed t)) in
    slice_get-map Some rows place.row ∙ ap (option_map Some) got ∙ ap Some (sym (ap (option_and_then (λ s. slice_get (rows_in s) place.row)) here ∙ got))

-- there is room for the rows of the next table
pub room_for_next :
    (tables : List Listing) (places : List Place) (i room : ℕ) (t : Listing) → i < length tables → t ≡ get_or tables i t → map (row_at tables) places ≡ map Some (all_rows (take i tables))
    → sum_by (λ t. length t.listed) tables ≤ room → length places + length t.listed ≤ room
room_for_next tables places i room t below is so_far fits =
    let first : length places ≡ length (all_rows (take i tables)) =
    sym (length-map places (row_at tables)) ∙ ap length so_far ∙ length-map (all_rows (take i tables)) Some in
    let all : length (all_rows tables) ≡ sum_by (λ t. length t.listed) tables =
    length-flat_map rows_in tables ∙ ap (λ f. sum_by f tables) (λ i t. rows_as_listed t i) in
    let next : length (rows_in (get_or tables i t)) ≡ length t.listed =
    ap (λ (s : Listing). length (rows_in s)) (sym is) ∙ rows_as_listed t in
    omega (arith, length-flat_map-take rows_in tables i t below)

-- the rows of the tables so far, and those of the next
pub more_tables : (tables : List Listing) (i : ℕ) (t : Listing) → i < length tables → t ≡ get_or tables i t → map Some (all_rows (take i tables)) ++ map Some (rows_in t) ≡ map Some (all_rows (take (i + 1) tables))
more_tables tables i t below is =
    sym (map-append Some (all_rows (take i tables)) (rows_in t))
    ∙ ap (map Some) (flat_map_more rows_in [] (take i tables) t ∙ ap all_rows (ap (λ s. take i tables ++ s ∷ []) is ∙ sym (take_more tables i t below)))

-- no row of the tables so far, nor of the next, stands twice there
pub next_apart : (tables : List Listing) (i : ℕ) (t : Listing) → i < length tables → t ≡ get_or tables i t → All (λ s. AreApart s.listed) (take i tables) → AreApart t.listed → All (λ s. AreApart s.listed) (take (i + 1) tables)
next_apart tables i t below is so_far apart =
    subst (All (λ s. AreApart s.listed)) (ap (λ s. take i tables ++ s ∷ []) is ∙ sym (take_more tables i t below)) (All-push (λ s. AreApart s.listed) (take i tables) t so_far apart)

-- How the parts of the console's text stand together.
use Rattle.std.proofs.Common.{◌≡◌, ℕ, ℤ, ◌<◌, List, [], ◌∷◌, ◌++◌, length, map, sym, ap, ◌∙◌, append-nil, append_assoc, slice_get, Some, option_map, arith, codes}
use Rattle.std.proofs.lemmas.List.{length-map}
use Rattle.std.proofs.lemmas.Option.{slice_get-map}
use Rattle.std.specs.List.{concat}
use Rattle.std.specs.Fmt.{decimal}
use Rattle.sd_model_settings.specs.Entries.{sends}
use Rattle.sd_model_record.specs.Record.{Row, CounterRow, TimerRow, GaugeRow, SetRow, TimerFigures, Record, Figure, figures_of}
use Rattle.sd_model_record.specs.Backends.{console_row, console_count, console_text}
use Rattle.sd_record.specs.RowTexts.{rows_text}
use Rattle.sd_record.proofs.RowLemmas.{concat-sent, flat_map-same}
use Rattle.sd_console.specs.Texts.{counter_line, sent_line, gauge_line, set_line, row_texts, count_texts}
use Rattle.sd_model_record.proofs.Short.{console_figure}

-- the lines of a row, joined
row_texts-joined : (calculated : List (List ℕ)) (row : Row) → concat (row_texts calculated row) ≡ console_row calculated row
unfolding row_texts
row_texts-joined calculated (CounterRow key count rate) = append-nil (counter_line key count rate)
row_texts-joined calculated (TimerRow key timer) = concat-sent (λ f. sends calculated f.class) (console_figure key) (figures_of timer)
row_texts-joined calculated (GaugeRow key value) = append-nil (gauge_line key value)
row_texts-joined calculated (SetRow key count) = append-nil (set_line key count)

-- the lines of a row of each kind
module _ (calculated : List (List ℕ)) (row : Row) (key : List ℕ) where
  pub counter_texts : (count rate : ℤ) → row ≡ CounterRow key count rate → row_texts calculated row ≡ counter_line key count rate ∷ []
  unfolding row_texts
  counter_texts count rate is = ap (row_texts calculated) is

  pub gauge_texts : (value : ℤ) → row ≡ GaugeRow key value → row_texts calculated row ≡ gauge_line key value ∷ []
  unfolding row_texts
  gauge_texts value is = ap (row_texts calculated) is

  pub set_texts : (count : ℕ) → row ≡ SetRow key count → row_texts calculated row ≡ set_line key count ∷ []
  unfolding row_texts
  set_texts count is = ap (row_texts calculated) is

  module _ (timer : TimerFigures) (is : row ≡ TimerRow key timer) where
    timer_texts : row_texts calculated row ≡ map (sent_line calculated key) (figures_of timer)
    unfolding row_texts
    timer_texts = ap (row_texts calculated) is

    pub timer_count : length (row_texts calculated row) ≡ length (figures_of timer)
    timer_count = ap length timer_texts ∙ length-map (figures_of timer) (sent_line calculated key)

    pub timer_at : (place : ℕ) (f : Figure) → slice_get (figures_of timer) place ≡ Some f → slice_get (row_texts calculated row) place ≡ Some (sent_line calculated key f)
    timer_at place f there =
        ap (λ texts. slice_get texts place) timer_texts ∙ slice_get-map (sent_line calculated key) (figures_of timer) place
        ∙ ap (option_map (sent_line calculated key)) there

-- the line of a row that has one
pub lone_line : (texts : List (List ℕ)) (l made : List ℕ) (place : ℕ) → texts ≡ l ∷ [] → made ≡ l → place < length texts → slice_get texts place ≡ Some made
lone_line texts l made place is same inside =
    let first : place ≡ 0 = omega (arith, ap length is) in
    ap (λ ts. slice_get ts place) is ∙ ap (slice_get (l ∷ [])) first ∙ ap Some (sym same)

-- the line of a word and a Unix second
abbrev second_text : List ℕ → ℕ → List ℕ
second_text word ts = word ++ 32 ∷ decimal ts ++ 10 ∷ []

-- five lines between others, joined before they are put there
joined : (head rows a b c d e x y z : List ℕ) → head ++ rows ++ a ++ b ++ c ++ d ++ e ++ x ++ y ++ z ≡ head ++ rows ++ concat (a ∷ b ∷ c ∷ d ∷ e ∷ []) ++ (x ++ y ++ z)
joined head rows a b c d e x y z = simp (append_assoc, append-nil)

-- the text of a record, by its parts
of_record : (r : Record) → console_text r ≡ second_text (codes "flush") r.ts ++ rows_text (row_texts r.calculated) r.rows ++ concat (count_texts r) ++ second_text (codes "end") r.ts
of_record r =
    ap (λ (rows : List ℕ). second_text (codes "flush") r.ts ++ rows ++ console_count (codes "bad_lines_seen") r.tally.bad ++ console_count (codes "packets_received") r.tally.packets ++ console_count (codes "metrics_received") r.tally.lines ++ console_count (codes "samples_dropped") r.tally.dropped ++ console_count (codes "numStats") (length r.rows) ++ codes "end " ++ decimal r.ts ++ 10 ∷ [])
    (flat_map-same (console_row r.calculated) (λ row. concat (row_texts r.calculated row)) r.rows (λ row. sym (row_texts-joined r.calculated row)))
    ∙ joined (second_text (codes "flush") r.ts) (rows_text (row_texts r.calculated) r.rows) _ _ _ _ _ (codes "end ") (decimal r.ts) (10 ∷ [])

-- the same, where its lines are known by equations
pub console_text-parts : (r s : Record) (calculated : List (List ℕ)) (first last : ℕ) (head end : List ℕ) (counts : List (List ℕ)) → s ≡ r → calculated ≡ r.calculated → first ≡ r.ts → last ≡ s.ts → head ≡ second_text (codes "flush") first → counts ≡ count_texts s → end ≡ second_text (codes "end") last → console_text r ≡ head ++ rows_text (row_texts calculated) r.rows ++ concat counts ++ end
console_text-parts r s calculated first last head end counts same chosen begins ends is_head are_counts is_end =
    let rows = rows_text (row_texts r.calculated) r.rows in
    let at_head : head ≡ second_text (codes "flush") r.ts = is_head ∙ ap (second_text (codes "flush")) begins in
    let at_counts : concat counts ≡ concat (count_texts r) = ap concat (are_counts ∙ ap count_texts same) in
    let at_end : end ≡ second_text (codes "end") r.ts = is_end ∙ ap (second_text (codes "end")) (ends ∙ ap (λ (t : Record). t.ts) same) in
    of_record r ∙ ap (λ (xs : List ℕ). xs ++ rows ++ concat (count_texts r) ++ second_text (codes "end") r.ts) (sym at_head)
    ∙ ap (λ (xs : List ℕ). head ++ rows ++ xs ++ second_text (codes "end") r.ts) (sym at_counts)
    ∙ ap (λ (xs : List ℕ). head ++ rows ++ concat counts ++ xs) (sym at_end)
    ∙ ap (λ cs. head ++ rows_text (row_texts cs) r.rows ++ concat counts ++ end) (sym chosen)

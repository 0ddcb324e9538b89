-- How the parts of Graphite's text stand together.
use Rattle.std.proofs.Common.{◌≡◌, ℕ, ℤ, ◌<◌, List, [], ◌∷◌, ◌++◌, length, map, take, Bool, true, false, cond, ◌≢◌, refl, sym, ap, ◌∙◌, append-nil, append_assoc, slice_get, Option, Some, None, option_map, arith, codes}
use Rattle.std.proofs.lemmas.List.{length-map}
use Rattle.std.proofs.Math.Seq.{take-append_seam}
use Rattle.std.proofs.lemmas.Option.{slice_get-map}
use Rattle.std.specs.List.{concat}
use Rattle.std.specs.Fmt.{decimal}
use Rattle.sd_model_text.specs.Numbers.{per_second, number_text}
use Rattle.sd_model_settings.specs.Settings.{Names}
use Rattle.sd_model_settings.specs.Entries.{sends}
use Rattle.sd_model_record.specs.Record.{Row, CounterRow, TimerRow, GaugeRow, SetRow, TimerFigures, Tally, Record, Figure, whole_number, figures_of}
use Rattle.sd_model_record.specs.Backends.{dotted, path_prefix, suffix, graphite_line, row_lines, own_counter, tail_lines, graphite_text}
use Rattle.sd_graphite.specs.declared.path.Path.{Path}
use Rattle.sd_graphite.specs.Texts.{path_text, timer_prefix, BeginsWith, rate_line, count_line, sent_line, gauge_line, set_line, row_texts, row_text, own_text, rows_line, tail_text}
use Rattle.sd_record.specs.RowTexts.{rows_text}
use Rattle.sd_record.proofs.RowLemmas.{concat-sent, flat_map-same}
use Rattle.sd_model_record.proofs.Short.{rows_prefix, figure_line}

-- the text of a path by its parts
pub path_text-parts : (names : Names) (p : Path) (legacy prefix key back : List ℕ) → p.legacy.now ≡ legacy → p.prefix.now ≡ prefix → p.key.now ≡ key → p.back.now ≡ back → path_text names p ≡ path_prefix names legacy prefix ++ key ++ back
unfolding path_text
path_text-parts names p legacy prefix key back before of_kind of_key behind =
    ap (λ xs. path_prefix names xs p.prefix.now ++ p.key.now ++ p.back.now) before
    ∙ ap (λ xs. path_prefix names legacy xs ++ p.key.now ++ p.back.now) of_kind
    ∙ ap (λ (xs : List ℕ). path_prefix names legacy prefix ++ xs ++ p.back.now) of_key
    ∙ ap (λ (xs : List ℕ). path_prefix names legacy prefix ++ key ++ xs) behind

-- parts behind others that stand together
regrouped : (a b c d e f g : List ℕ) → a ++ (b ++ c) ++ d ++ e ++ f ++ g ≡ (a ++ b) ++ (c ++ d ++ e ++ f ++ g)
regrouped a b c d e f g = simp (append_assoc)

-- the line of a figure: what the path of each begins with, and the rest
figure_line-path_prefix : (names : Names) (ts : ℕ) (key : List ℕ) (f : Figure) → figure_line names ts key f ≡ timer_prefix names key ++ (f.name ++ suffix names ++ 32 ∷ number_text f.value ++ 32 ∷ decimal ts ++ 10 ∷ [])
unfolding timer_prefix
figure_line-path_prefix names ts key f =
    regrouped (path_prefix names (codes "stats.timers.") names.namespace.prefix_timer ++ key) (46 ∷ []) f.name (suffix names) (32 ∷ number_text f.value) (32 ∷ decimal ts) (10 ∷ [])

-- the line of a figure that is sent begins with what each does
sent_line-begins : (names : Names) (calculated : List (List ℕ)) (ts : ℕ) (key : List ℕ) (f : Figure) (text : List ℕ) → text ≡ sent_line names calculated ts key f → text ≢ [] → BeginsWith (timer_prefix names key) text
sent_line-begins names calculated ts key f text is some = by_class (sends calculated f.class) is where
  by_class : (b : Bool) → text ≡ cond b (figure_line names ts key f) [] → BeginsWith (timer_prefix names key) text
  by_class true same = ap (take (length (timer_prefix names key))) (same ∙ figure_line-path_prefix names ts key f) ∙ take-append_seam (timer_prefix names key) _
  by_class false none = absurd (some none)

-- the lines of a row, joined
pub row_texts-joined : (names : Names) (calculated : List (List ℕ)) (ts : ℕ) (row : Row) → concat (row_texts names calculated ts row) ≡ row_text names calculated ts row
unfolding row_texts row_text
row_texts-joined names calculated ts (CounterRow key count rate) = ap (λ (text : List ℕ). rate_line names ts key rate ++ text) (append-nil (count_line names ts key count))
row_texts-joined names calculated ts (TimerRow key timer) = concat-sent (λ f. sends calculated f.class) (figure_line names ts key) (figures_of timer)
row_texts-joined names calculated ts (GaugeRow key value) = append-nil (gauge_line names ts key value)
row_texts-joined names calculated ts (SetRow key count) = append-nil (set_line names ts key count)

-- the lines of a row of each kind, by their places
module _ (names : Names) (calculated : List (List ℕ)) (ts : ℕ) (row : Row) (key : List ℕ) where
  module _ (count rate : ℤ) (is : row ≡ CounterRow key count rate) where
    counter_texts : row_texts names calculated ts row ≡ rate_line names ts key rate ∷ count_line names ts key count ∷ []
    unfolding row_texts
    counter_texts = ap (row_texts names calculated ts) is

    pub counter_count : length (row_texts names calculated ts row) ≡ 2
    counter_count = ap length counter_texts

    pub counter_at : (place : ℕ) → slice_get (row_texts names calculated ts row) place ≡ slice_get (rate_line names ts key rate ∷ count_line names ts key count ∷ []) place
    counter_at place = ap (λ texts. slice_get texts place) counter_texts

  module _ (timer : TimerFigures) (is : row ≡ TimerRow key timer) where
    timer_texts : row_texts names calculated ts row ≡ map (sent_line names calculated ts key) (figures_of timer)
    unfolding row_texts
    timer_texts = ap (row_texts names calculated ts) is

    pub timer_count : length (row_texts names calculated ts row) ≡ length (figures_of timer)
    timer_count = ap length timer_texts ∙ length-map (figures_of timer) (sent_line names calculated ts key)

    pub timer_at : (place : ℕ) (f : Figure) → slice_get (figures_of timer) place ≡ Some f → slice_get (row_texts names calculated ts row) place ≡ Some (sent_line names calculated ts key f)
    timer_at place f there =
        ap (λ texts. slice_get texts place) timer_texts ∙ slice_get-map (sent_line names calculated ts key) (figures_of timer) place
        ∙ ap (option_map (sent_line names calculated ts key)) there

    -- a line that isn't empty begins with what each does
    pub timer_begins : (place : ℕ) (text : List ℕ) → slice_get (row_texts names calculated ts row) place ≡ Some text → text ≢ [] → BeginsWith (timer_prefix names key) text
    timer_begins place text there some =
        by_figure (slice_get (figures_of timer) place) (sym (slice_get-map (sent_line names calculated ts key) (figures_of timer) place) ∙ sym (ap (λ texts. slice_get texts place) timer_texts) ∙ there)
      where
        by_figure : (found : Option Figure) → option_map (sent_line names calculated ts key) found ≡ Some text → BeginsWith (timer_prefix names key) text
        by_figure None is = absurd (cc)
        by_figure (Some f) is = let same : text ≡ sent_line names calculated ts key f = cc in sent_line-begins names calculated ts key f text same some

  module _ (value : ℤ) (is : row ≡ GaugeRow key value) where
    gauge_texts : row_texts names calculated ts row ≡ gauge_line names ts key value ∷ []
    unfolding row_texts
    gauge_texts = ap (row_texts names calculated ts) is

    pub gauge_count : length (row_texts names calculated ts row) ≡ 1
    gauge_count = ap length gauge_texts

    pub gauge_at : (place : ℕ) → place < length (row_texts names calculated ts row) → slice_get (row_texts names calculated ts row) place ≡ Some (gauge_line names ts key value)
    gauge_at place inside =
        let first : place ≡ 0 = omega (arith, gauge_count) in
        ap (λ texts. slice_get texts place) gauge_texts ∙ ap (slice_get (gauge_line names ts key value ∷ [])) first

  module _ (count : ℕ) (is : row ≡ SetRow key count) where
    set_texts : row_texts names calculated ts row ≡ set_line names ts key count ∷ []
    unfolding row_texts
    set_texts = ap (row_texts names calculated ts) is

    pub set_count : length (row_texts names calculated ts row) ≡ 1
    set_count = ap length set_texts

    pub set_at : (place : ℕ) → place < length (row_texts names calculated ts row) → slice_get (row_texts names calculated ts row) place ≡ Some (set_line names ts key count)
    set_at place inside =
        let first : place ≡ 0 = omega (arith, set_count) in
        ap (λ texts. slice_get texts place) set_texts ∙ ap (slice_get (set_line names ts key count ∷ [])) first

-- the lines of one of the server's own counters are those of a row
pub own_text-row : (names : Names) (calculated : List (List ℕ)) (r : Record) (name : List ℕ) (number ts : ℕ) (row : Row) → ts ≡ r.ts → row ≡ CounterRow (names.prefix_stats ++ 46 ∷ name) (whole_number number) (per_second (whole_number number) r.interval_ms) → row_text names calculated ts row ≡ own_text names r name number
unfolding own_text row_text
own_text-row names calculated r name number ts row second is = ap (λ n. row_lines names calculated n row) second ∙ ap (row_lines names calculated r.ts) is

-- what stands before the number of rows has neither prefix nor key
pub rows_prefix-path_prefix : (names : Names) → path_prefix names [] [] ≡ rows_prefix names
rows_prefix-path_prefix names =
    elim names.namespace.legacy as (λ legacy. cond legacy [] (dotted names.namespace.global_prefix ++ []) ≡ cond legacy [] (dotted names.namespace.global_prefix)) [
      | true ↦ refl
      | false ↦ append-nil (dotted names.namespace.global_prefix)
    ]

-- the line of the number of rows, by its path and its number
pub rows_line-made : (names : Names) (path text : List ℕ) (rows ts : ℕ) → path ≡ path_prefix names [] [] ++ names.prefix_stats ++ codes ".numStats" → text ≡ decimal rows → graphite_line names path text ts ≡ rows_line names rows ts
unfolding rows_line
rows_line-made names path text rows ts place number =
    ap (λ p. graphite_line names p text ts) (place ∙ ap (λ (xs : List ℕ). xs ++ names.prefix_stats ++ codes ".numStats") (rows_prefix-path_prefix names))
    ∙ ap (λ n. graphite_line names (rows_prefix names ++ names.prefix_stats ++ codes ".numStats") n ts) number

-- the lines at the end of a record, by their numbers
pub tail_text-parts : (names : Names) (r : Record) (t : Tally) → t ≡ r.tally → (rows ts : ℕ) → rows ≡ length r.rows → ts ≡ r.ts → (last : List ℕ) → last ≡ rows_line names rows ts → tail_text names r ≡ own_text names r (codes "bad_lines_seen") t.bad ++ own_text names r (codes "packets_received") t.packets ++ own_text names r (codes "metrics_received") t.lines ++ own_text names r (codes "samples_dropped") t.dropped ++ last
unfolding tail_text own_text rows_line
tail_text-parts names r t counted rows ts all second last is =
    let own : Tally → List ℕ = λ n. own_counter names r (codes "bad_lines_seen") n.bad ++ own_counter names r (codes "packets_received") n.packets ++ own_counter names r (codes "metrics_received") n.lines ++ own_counter names r (codes "samples_dropped") n.dropped in
    let end : ℕ → ℕ → List ℕ = λ n s. graphite_line names (rows_prefix names ++ names.prefix_stats ++ codes ".numStats") (decimal n) s in
    ap (λ n. own r.tally ++ end n r.ts) (sym all) ∙ ap (λ s. own r.tally ++ end rows s) (sym second) ∙ ap (λ n. own n ++ end rows ts) (sym counted)
    ∙ ap (λ (xs : List ℕ). own t ++ xs) (sym is)

-- the text of a record: the lines of its rows, and those at its end
pub graphite_text-parts : (names : Names) (r : Record) (calculated : List (List ℕ)) (ts : ℕ) → calculated ≡ r.calculated → ts ≡ r.ts → graphite_text names r ≡ rows_text (row_texts names calculated ts) r.rows ++ tail_text names r
unfolding row_text tail_text
graphite_text-parts names r calculated ts chosen second =
    ap (λ (text : List ℕ). text ++ tail_lines names r)
    (flat_map-same (row_lines names r.calculated r.ts) (λ row. concat (row_texts names calculated ts row)) r.rows
    (λ row. ap (λ s. row_lines names r.calculated s row) (sym second) ∙ ap (λ cs. row_lines names cs ts row) (sym chosen) ∙ sym (row_texts-joined names calculated ts row)))

-- The backends that records are written to, and the text of a record for each. Graphite's has lines of a path, a value and a Unix
-- second (Graphite's plaintext protocol), under StatsD's names, the legacy ones or those of its namespace (docs/namespacing.md);
-- the console's has the flush, its rows, the server's own counts, and the end.
use Rattle.std.specs.Prelude.{ℕ, List, ℤ, [], ◌∷◌, ◌++◌, length, flat_map, if◌then◌else◌, codes, decimal}
use Rattle.sd_model_outside.specs.Backend.{Backend, Graphite, Console}
use Rattle.sd_model_settings.specs.Settings.{Names}
use Rattle.sd_model_record.specs.{Record.{Record, Row, CounterRow, TimerRow, GaugeRow, SetRow, Figure, whole_number, sent_figures}}
use Rattle.sd_model_text.specs.Numbers.{number_text, per_second}

-- the lines of a row, by the names of the classes of timers' lines that are chosen
abbrev pub console_row : List (List ℕ) → Row → List ℕ
console_row calculated (CounterRow key count rate) = codes "counter " ++ key ++ 32 ∷ number_text count ++ 32 ∷ number_text rate ++ 10 ∷ []
console_row calculated (TimerRow key timer) = flat_map (λ f. codes "timer " ++ key ++ 32 ∷ f.name ++ 32 ∷ number_text f.value ++ 10 ∷ []) (sent_figures calculated timer)
console_row calculated (GaugeRow key value) = codes "gauge " ++ key ++ 32 ∷ number_text value ++ 10 ∷ []
console_row calculated (SetRow key count) = codes "set " ++ key ++ 32 ∷ decimal count ++ 10 ∷ []

-- the line of one of the server's own counts
abbrev pub console_count : List ℕ → ℕ → List ℕ
console_count name n = codes "tail " ++ name ++ 32 ∷ decimal n ++ 10 ∷ []

-- the text of a record
abbrev pub console_text : Record → List ℕ
console_text r =
    codes "flush " ++ decimal r.ts ++ 10 ∷ []
    ++ flat_map (console_row r.calculated) r.rows
    ++ console_count (codes "bad_lines_seen") r.tally.bad
    ++ console_count (codes "packets_received") r.tally.packets
    ++ console_count (codes "metrics_received") r.tally.lines
    ++ console_count (codes "samples_dropped") r.tally.dropped
    ++ console_count (codes "numStats") (length r.rows)
    ++ codes "end " ++ decimal r.ts ++ 10 ∷ []

-- a part of a path, with the point after it; an empty one is left out with its point
abbrev pub dotted : List ℕ → List ℕ
dotted [] = []
dotted (b ∷ part) = (b ∷ part) ++ codes "."

-- what is after each path: the suffix after a point, where there is one
abbrev pub suffix : Names → List ℕ
suffix names = suffix_of names.namespace.global_suffix
  where
    suffix_of : List ℕ → List ℕ
    suffix_of [] = []
    suffix_of (b ∷ text) = 46 ∷ b ∷ text

-- what is before the key in a path: in the legacy namespace this, and otherwise the prefix of all, and this prefix
abbrev pub path_prefix : Names → List ℕ → List ℕ → List ℕ
path_prefix names legacy prefix = if names.namespace.legacy then legacy else dotted names.namespace.global_prefix ++ dotted prefix

-- a line: path and suffix, value and second
abbrev pub graphite_line : Names → List ℕ → List ℕ → ℕ → List ℕ
graphite_line names path value ts = path ++ suffix names ++ 32 ∷ value ++ 32 ∷ decimal ts ++ 10 ∷ []

-- a counter's two lines
abbrev pub counter_lines : Names → ℕ → List ℕ → ℤ → ℤ → List ℕ
counter_lines names ts key count rate =
    graphite_line names (path_prefix names (codes "stats.") names.namespace.prefix_counter ++ key ++ (if names.namespace.legacy then [] else codes ".rate")) (number_text rate) ts
    ++ graphite_line names (path_prefix names (codes "stats_counts.") names.namespace.prefix_counter ++ key ++ (if names.namespace.legacy then [] else codes ".count")) (number_text count) ts

-- the lines of a row, by the names of the classes of timers' lines that are chosen
abbrev pub row_lines : Names → List (List ℕ) → ℕ → Row → List ℕ
row_lines names calculated ts (CounterRow key count rate) = counter_lines names ts key count rate
row_lines names calculated ts (TimerRow key timer) = flat_map (λ f. graphite_line names (path_prefix names (codes "stats.timers.") names.namespace.prefix_timer ++ key ++ 46 ∷ f.name) (number_text f.value) ts) (sent_figures calculated timer)
row_lines names calculated ts (GaugeRow key value) =
    graphite_line names (path_prefix names (codes "stats.gauges.") names.namespace.prefix_gauge ++ key) (number_text value) ts
row_lines names calculated ts (SetRow key count) =
    graphite_line names (path_prefix names (codes "stats.sets.") names.namespace.prefix_set ++ key ++ codes ".count") (decimal count) ts

-- one of the server's own counters, by its name and number
abbrev pub own_counter : Names → Record → List ℕ → ℕ → List ℕ
own_counter names r name number =
    let count = whole_number number in
    counter_lines names r.ts (names.prefix_stats ++ 46 ∷ name) count (per_second count r.interval_ms)

-- the lines at the end of a record: the server's own counters, and the number of rows
abbrev pub tail_lines : Names → Record → List ℕ
tail_lines names r =
    own_counter names r (codes "bad_lines_seen") r.tally.bad
    ++ own_counter names r (codes "packets_received") r.tally.packets
    ++ own_counter names r (codes "metrics_received") r.tally.lines
    ++ own_counter names r (codes "samples_dropped") r.tally.dropped
    ++ graphite_line names ((if names.namespace.legacy then [] else dotted names.namespace.global_prefix) ++ names.prefix_stats ++ codes ".numStats") (decimal (length r.rows)) r.ts

-- the text of a record
abbrev pub graphite_text : Names → Record → List ℕ
graphite_text names r = flat_map (row_lines names r.calculated r.ts) r.rows ++ tail_lines names r

-- the text of a flush's record for a backend, with Graphite's names
abbrev pub text_of : Names → Backend → Record → List ℕ
text_of names Graphite r = graphite_text names r
text_of names Console r = console_text r

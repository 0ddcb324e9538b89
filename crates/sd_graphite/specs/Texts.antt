-- Graphite's text of a record, line by line.
use Rattle.std.specs.Prelude.{◌≡◌, ℕ, ℤ, List, [], ◌∷◌, ◌++◌, length, take, map, if◌then◌else◌, codes, decimal}
use Rattle.sd_model_text.specs.Numbers.{number_text}
use Rattle.sd_model_settings.specs.Settings.{Names}
use Rattle.sd_model_settings.specs.Entries.{sends}
use Rattle.sd_model_record.specs.Record.{Row, CounterRow, TimerRow, GaugeRow, SetRow, Record, Figure, figures_of}
use Rattle.sd_model_record.specs.Backends.{path_prefix, graphite_line, row_lines, own_counter, tail_lines, dotted}
use Rattle.sd_graphite.specs.declared.path.Path.{Path}

-- the text of a path
unfoldable pub path_text : Names → Path → List ℕ
path_text names p = path_prefix names p.legacy.now p.prefix.now ++ p.key.now ++ p.back.now

-- what the path of each figure of a timer begins with
unfoldable pub timer_prefix : Names → List ℕ → List ℕ
timer_prefix names key = path_prefix names (codes "stats.timers.") names.namespace.prefix_timer ++ key ++ 46 ∷ []

-- a text begins with another
abbrev pub BeginsWith : List ℕ → List ℕ → Type 0
BeginsWith start text = take (length start) text ≡ start

-- the line of a counter's count per second
abbrev pub rate_line : Names → ℕ → List ℕ → ℤ → List ℕ
rate_line names ts key rate =
    graphite_line names (path_prefix names (codes "stats.") names.namespace.prefix_counter ++ key ++ (if names.namespace.legacy then [] else (codes ".rate"))) (number_text rate) ts

-- the line of a counter's count
abbrev pub count_line : Names → ℕ → List ℕ → ℤ → List ℕ
count_line names ts key count =
    graphite_line names (path_prefix names (codes "stats_counts.") names.namespace.prefix_counter ++ key ++ (if names.namespace.legacy then [] else (codes ".count"))) (number_text count) ts

-- the line of a gauge
abbrev pub gauge_line : Names → ℕ → List ℕ → ℤ → List ℕ
gauge_line names ts key value =
    graphite_line names (path_prefix names (codes "stats.gauges.") names.namespace.prefix_gauge ++ key) (number_text value) ts

-- the line of a set
abbrev pub set_line : Names → ℕ → List ℕ → ℕ → List ℕ
set_line names ts key count =
    graphite_line names (path_prefix names (codes "stats.sets.") names.namespace.prefix_set ++ key ++ codes ".count") (decimal count) ts

-- the line of a timer's figure, or nothing where its class isn't sent
abbrev pub sent_line : Names → List (List ℕ) → ℕ → List ℕ → Figure → List ℕ
sent_line names calculated ts key f = if sends calculated f.class then graphite_line names (path_prefix names (codes "stats.timers.") names.namespace.prefix_timer ++ key ++ 46 ∷ f.name) (number_text f.value) ts else []

-- the lines of a row, one by one
unfoldable pub row_texts : Names → List (List ℕ) → ℕ → Row → List (List ℕ)
row_texts names calculated ts (CounterRow key count rate) = rate_line names ts key rate ∷ count_line names ts key count ∷ []
row_texts names calculated ts (TimerRow key timer) = map (sent_line names calculated ts key) (figures_of timer)
row_texts names calculated ts (GaugeRow key value) = gauge_line names ts key value ∷ []
row_texts names calculated ts (SetRow key count) = set_line names ts key count ∷ []

-- the lines of a row
unfoldable pub row_text : Names → List (List ℕ) → ℕ → Row → List ℕ
row_text names calculated ts row = row_lines names calculated ts row

-- the lines of one of the server's own counters, by its name and number
unfoldable pub own_text : Names → Record → List ℕ → ℕ → List ℕ
own_text names r name number = own_counter names r name number

-- the line of the number of rows
unfoldable pub rows_line : Names → ℕ → ℕ → List ℕ
rows_line names rows ts = graphite_line names ((if names.namespace.legacy then [] else dotted names.namespace.global_prefix) ++ names.prefix_stats ++ codes ".numStats") (decimal rows) ts

-- the lines at the end of a record
unfoldable pub tail_text : Names → Record → List ℕ
tail_text names r = tail_lines names r

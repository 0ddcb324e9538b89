-- The console's text of a record, line by line.
use Rattle.std.specs.Prelude.{ℕ, ℤ, List, [], ◌∷◌, ◌++◌, length, map, if◌then◌else◌, codes, decimal}
use Rattle.sd_model_text.specs.Numbers.{number_text}
use Rattle.sd_model_settings.specs.Entries.{sends}
use Rattle.sd_model_record.specs.Record.{Row, CounterRow, TimerRow, GaugeRow, SetRow, Record, Figure, figures_of}
use Rattle.sd_model_record.specs.Backends.{console_count}

-- the line of a counter
abbrev pub counter_line : List ℕ → ℤ → ℤ → List ℕ
counter_line key count rate = codes "counter " ++ key ++ 32 ∷ number_text count ++ 32 ∷ number_text rate ++ 10 ∷ []

-- the line of a gauge
abbrev pub gauge_line : List ℕ → ℤ → List ℕ
gauge_line key value = codes "gauge " ++ key ++ 32 ∷ number_text value ++ 10 ∷ []

-- the line of a set
abbrev pub set_line : List ℕ → ℕ → List ℕ
set_line key count = codes "set " ++ key ++ 32 ∷ decimal count ++ 10 ∷ []

-- the line of a timer's figure, or nothing where its class isn't sent
abbrev pub sent_line : List (List ℕ) → List ℕ → Figure → List ℕ
sent_line calculated key f = if sends calculated f.class then codes "timer " ++ key ++ 32 ∷ f.name ++ 32 ∷ number_text f.value ++ 10 ∷ [] else []

-- the lines of a row, one by one
unfoldable pub row_texts : List (List ℕ) → Row → List (List ℕ)
row_texts calculated (CounterRow key count rate) = counter_line key count rate ∷ []
row_texts calculated (TimerRow key timer) = map (sent_line calculated key) (figures_of timer)
row_texts calculated (GaugeRow key value) = gauge_line key value ∷ []
row_texts calculated (SetRow key count) = set_line key count ∷ []

-- the lines of the server's own counts
abbrev pub count_texts : Record → List (List ℕ)
count_texts r =
    console_count (codes "bad_lines_seen") r.tally.bad
    ∷ console_count (codes "packets_received") r.tally.packets
    ∷ console_count (codes "metrics_received") r.tally.lines
    ∷ console_count (codes "samples_dropped") r.tally.dropped
    ∷ console_count (codes "numStats") (length r.rows)
    ∷ []

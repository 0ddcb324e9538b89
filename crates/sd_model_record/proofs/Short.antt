-- Short names that proofs have for parts of definitions.
use Rattle.std.specs.Prelude.{List, map, Option, flat_map, ◌++◌, fold, Bool, codes, if◌then◌else◌, ℕ, sum_by, [], decimal, ◌∷◌}
use Rattle.std.specs.FinMap.{entries}
use Rattle.std.specs.Option.{option_map_or}
use Rattle.sd_model_settings.specs.Settings.{Plan, Names}
use Rattle.sd_model_shard.specs.Shard.{Table, Numbers}
use Rattle.sd_model_shard.specs.Rows.{RowId, Kept, DumpRow, in_key_order, statistics_by}
use Rattle.sd_model_record.specs.Record.{Row, TimerFigures, Figure, part_figures, whole_figures, row_of_kind, figure, bin_name, whole_number}
use Rattle.sd_model_shard.specs.Values.{WholeStatistics, bins, Bin}
use Rattle.sd_model_record.specs.Desk.{Desk, Marks, new_desk, Facts}
use Rattle.sd_model_record.specs.DeskHistory.{DeskHistory, desk_step, AnswersFrom, Take, Mark}
use Rattle.sd_model_settings.specs.ConfigText.{config_line}
use Rattle.sd_model_text.specs.Names.{Kind}
use Rattle.sd_model_record.specs.Replies.{shown_value, numbers_looked, keys_in, rows_in, shard_lines}
use Rattle.sd_model_shard.specs.Shard as shard
use Rattle.sd_model_record.specs.Backends.{dotted, graphite_line, path_prefix}
use Rattle.sd_model_settings.specs.Entries.{Count, CountPs, Histogram}
use Rattle.sd_model_shard.specs.History.{Flushed}
use Rattle.sd_model_record.specs.Totals.{known_before_end, total_line, totals_of}
use Rattle.sd_model_text.specs.Numbers.{number_text}

-- the line of a timer's figure
abbrev pub figure_line : Names → ℕ → List ℕ → Figure → List ℕ
figure_line names ts key f =
    graphite_line names (path_prefix names (codes "stats.timers.") names.namespace.prefix_timer ++ key ++ 46 ∷ f.name) (number_text f.value) ts

-- the line of a timer's figure
abbrev pub console_figure : List ℕ → Figure → List ℕ
console_figure key f = codes "timer " ++ key ++ 32 ∷ f.name ++ 32 ∷ number_text f.value ++ 10 ∷ []

-- the figure of a bin
abbrev pub bin_figure : Bin → Figure
bin_figure b = figure Histogram (bin_name b.below) (whole_number b.count)

-- the totals so far that are known before the end, and a line for each shard
abbrev pub totals_lines : (outlets : Bool) → Facts → List Numbers → List (List ℕ)
totals_lines outlets facts shards = map total_line (known_before_end outlets (totals_of (λ number. sum_by number shards) facts)) ++ shard_lines 0 shards

-- the rows of what a swap flushed, each with its id
abbrev pub documented_in : Plan → Flushed → List (RowId × Row)
documented_in plan f = map (λ e. (e.0, row_of_kind e.0.kind plan e.0.key (statistics_by e.0.kind e.0 e.1.base f.journal))) (entries f.table.live)

-- the figures of a timer without samples
abbrev pub idle_figures : TimerFigures → List Figure
idle_figures t = figure Count (codes "count") t.count ∷ figure CountPs (codes "count_ps") t.count_ps ∷ []

-- A history of the desk of a server that starts at this second is legal where each answer is the desk's as it is there.
abbrev pub IsDeskHistory : ℕ → DeskHistory → Type 0
IsDeskHistory start acts = AnswersFrom (new_desk start) acts

-- the rows that all shards tell of a dump
abbrev pub rows_reported : List shard.Reply → List DumpRow
rows_reported answers = in_key_order (λ row. row.key) (flat_map rows_in answers)

-- the keys that all shards tell as deleted
abbrev pub keys_reported : List shard.Reply → List (List ℕ)
keys_reported answers = in_key_order (λ key. key) (flat_map keys_in answers)

-- the line of shard i: how many rows it has, and how many samples it holds
abbrev pub shard_line : ℕ → Numbers → List ℕ
shard_line i n = codes "shard " ++ decimal i ++ codes " rows " ++ decimal n.rows ++ codes " held " ++ decimal n.held ++ 10 ∷ []

-- what is before the number of rows
abbrev pub rows_prefix : Names → List ℕ
rows_prefix names = if names.namespace.legacy then [] else dotted names.namespace.global_prefix

-- a number of shards, added up
abbrev pub added : List Numbers → (Numbers → ℕ) → ℕ
added shards number = sum_by number shards

-- the numbers that all shards tell, in their order
abbrev pub numbers_reported : List shard.Reply → List Numbers
numbers_reported answers = flat_map numbers_looked answers

-- the line of a row
abbrev pub row_line : Kind → DumpRow → List ℕ
row_line kind row = config_line row.key (shown_value kind row)

-- the line of the health
abbrev pub health_line : Bool → List ℕ
health_line up = config_line (codes "health") (if up then codes "up" else codes "down")

-- the row of a record for a row of a table
abbrev pub row_value : Plan → RowId → Kept → Row
row_value plan id kept = row_of_kind id.kind plan id.key kept.since

-- a desk after these acts
abbrev pub desk_left : Desk → DeskHistory → Desk
desk_left d acts = fold (λ d a. desk_step d a.call.event) d acts

-- after a flush, which takes the tally and leaves its marks
abbrev pub with_round : Desk → Marks → Desk
with_round d m = desk_step (desk_step d Take) (Mark m)

-- the rows of a table, each with its id
abbrev pub table_rows : Plan → Table → List (RowId × Row)
table_rows plan table = map (λ e. (e.0, row_value plan e.0 e.1)) (entries table.live)

-- the figures of a timer, by the statistics of its values
abbrev pub figures_with : TimerFigures → Option WholeStatistics → List Figure
figures_with t figures = option_map_or (λ w. flat_map part_figures t.parts ++ whole_figures w ++ map bin_figure t.bins) figures (idle_figures t)

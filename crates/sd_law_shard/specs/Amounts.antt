-- What entries come to, as a dump tells it.
use Rattle.std.specs.Prelude.{◌*◌, ℤ, pos, List}
use Rattle.sd_model_text.specs.Names.{Kind, Counter, Timer, Gauge, Set}
use Rattle.sd_model_shard.specs.Rows.{RowId, Entry, gauge_value, members_of, values_of, weight_of}
use Rattle.sd_model_shard.specs.Values.{total, distinct}

-- what the samples of a row of a kind come to: a counter's count, the sum of a timer's values, a gauge's value, or how many
-- members of a set differ, as whole units
abbrev pub entries_amount : Kind → RowId → ℤ → List Entry → ℤ
entries_amount Counter id base held = weight_of id held
entries_amount Timer id base held = total (values_of id held)
entries_amount Gauge id base held = gauge_value id base held
entries_amount Set id base held = pos (distinct (members_of id held) * 1000000)

-- what the samples of a row come to
abbrev pub amount_of : RowId → ℤ → List Entry → ℤ
amount_of id base held = entries_amount id.kind id base held

-- A row of the code, as the definitions have it.
use Rattle.std.specs.Prelude.{map, option_map}
use Rattle.sd_model_shard.specs.Values as values
use Rattle.sd_model_record.specs.Record as model
use Rattle.sd_stats.specs.Timer.{whole_of, part_of, limit_of}
use Rattle.sd_record.specs.declared.row.Bin.{Bin}
use Rattle.sd_record.specs.declared.row.TimerRow.{TimerRow}
use Rattle.sd_record.specs.declared.row.Row.{Row}
use Rattle.sd_record.specs.declared.row.Row.TheVariants.{Counter, Timer, Gauge, Set}

abbrev pub bin_view : Bin → values.Bin
bin_view b = record { below = limit_of b.below; count = b.count }

abbrev pub timer_view : TimerRow → model.TimerFigures
timer_view t =
    record {
      count = t.count.0;
      count_ps = t.count_ps.0;
      whole = option_map whole_of t.whole;
      parts = map part_of t.parts.items;
      bins = map bin_view t.bins.items;
    }

abbrev pub row_view : Row → model.Row
row_view (Counter key count rate) = model.CounterRow key count.0 rate.0
row_view (Timer key timer) = model.TimerRow key (timer_view timer)
row_view (Gauge key value) = model.GaugeRow key value.0
row_view (Set key count) = model.SetRow key count

use Rattle.std.proofs.Common.{ap, option_map, arith}
use Rattle.std.proofs.lemmas.List.{length-map}
use Rattle.sd_stats.specs.Timer.{part_of, whole_of}
use Rattle.sd_record.specs.Row.{bin_view, timer_view}
use Rattle.sd_record.proofs.FigureLemmas.{length-sampled}
use Rattle.sd_record.proofs.row.TimerRow.figures.Goals as goal

pub returns-in-Some : goal.returns-in-Some
returns-in-Some c =
    let t = timer_view c.args.self.now in
    omega (arith, length-sampled t (whole_of c.in-Some.field-0) (ap (option_map whole_of) c.in-Some.is), length-map c.args.self.now.parts.items part_of, length-map c.args.self.now.bins.items bin_view)

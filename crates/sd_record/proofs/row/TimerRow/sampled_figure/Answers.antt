use Rattle.std.proofs.Common.{◌-◌, ◌*◌, ◌/◌, length, slice_get, Some, ap, sym, ◌∙◌, arith}
use Rattle.std.proofs.lemmas.List.{length-map}
use Rattle.std.proofs.lemmas.Simd.{map-map}
use Rattle.sd_stats.specs.Timer.{part_of, whole_of}
use Rattle.sd_record.specs.Row.{bin_view, timer_view}
use Rattle.sd_record.proofs.FigureLemmas.{length-sampled, got_at, at_part, at_whole, at_bin}
use Rattle.sd_record.proofs.row.TimerRow.sampled_figure.Goals as goal
use Rattle.sd_model_record.proofs.Short.{bin_figure}

pub returns-then-i-of_parts : goal.returns-then-i-of_parts
returns-then-i-of_parts c =
    at_part (timer_view c.args.self.now) (whole_of c.args.whole.now) c.requires.some c.args.i _ (omega (arith, length-map c.args.self.now.parts.items part_of, ap length c.as_slice-parts.ensures.value))
    (got_at part_of c.as_slice-parts.result.now c.args.self.now.parts.items (c.args.i / 5) _ c.as_slice-parts.ensures.value (omega arith))
    ∙ c.part_figure.ensures

pub returns-then-place-lt-OF_WHOLE : goal.returns-then-place-lt-OF_WHOLE
returns-then-place-lt-OF_WHOLE c =
    let n = 5 * length c.as_slice-parts.result.now in
    at_whole (timer_view c.args.self.now) (whole_of c.args.whole.now) c.requires.some c.args.i n (omega (arith, length-map c.args.self.now.parts.items part_of, ap length c.as_slice-parts.ensures.value)) c.if-i-of_parts.false c.if-place-lt-OF_WHOLE.true
    ∙ c.whole_figure.ensures

pub offset_bounds-as_slice-place : goal.offset_bounds-as_slice-place
offset_bounds-as_slice-place c =
    omega (arith, c.requires.place, length-sampled (timer_view c.args.self.now) (whole_of c.args.whole.now) c.requires.some, length-map c.args.self.now.parts.items part_of, length-map c.args.self.now.bins.items bin_view, ap length c.as_slice-parts.ensures.value, ap length c.as_slice.ensures.value)

pub bounds-as_slice-place : goal.bounds-as_slice-place
bounds-as_slice-place c =
    omega (arith, c.requires.place, length-sampled (timer_view c.args.self.now) (whole_of c.args.whole.now) c.requires.some, length-map c.args.self.now.parts.items part_of, length-map c.args.self.now.bins.items bin_view, ap length c.as_slice-parts.ensures.value, ap length c.as_slice.ensures.value)

pub returns : goal.returns
returns c =
    let n = 5 * length c.as_slice-parts.result.now in
    at_bin (timer_view c.args.self.now) (whole_of c.args.whole.now) c.requires.some c.args.i n (omega (arith, length-map c.args.self.now.parts.items part_of, ap length c.as_slice-parts.ensures.value)) c.if-i-of_parts.false c.if-place-lt-OF_WHOLE.false
    ∙ ap (λ fs. slice_get fs (c.args.i - n - 9)) (map-map bin_figure bin_view c.args.self.now.bins.items)
    ∙ got_at (λ b. bin_figure (bin_view b)) c.as_slice.result.now c.args.self.now.bins.items (c.args.i - n - 9) _ c.as_slice.ensures.value (omega (arith, c.requires.place, length-sampled (timer_view c.args.self.now) (whole_of c.args.whole.now) c.requires.some, length-map c.args.self.now.parts.items part_of, length-map c.args.self.now.bins.items bin_view, ap length c.as_slice-parts.ensures.value, ap length c.as_slice.ensures.value))
    ∙ ap Some (sym c.bin_figure.ensures)

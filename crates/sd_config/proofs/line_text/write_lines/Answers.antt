use Rattle.std.proofs.Common.{◌∙◌, sym, ap, Some, option_map, rules, arith}
use Rattle.std.proofs.lemmas.Result.{err_from_is_err_and}
use Rattle.sd_model_outside.proofs.LineWrites.{line_written, line_failed, no_gap}
use Rattle.sd_config.proofs.line_text.write_lines.Goals as goal
use Rattle.sd_config.proofs.line_text.write_lines.Goals.{in-Some+in_ok-write_all, in_default}

pub loop-place-init : goal.loop-place-init
loop-place-init g c = search rules

pub returns-in_err-write_all-clause-failed : goal.returns-in_err-write_all-clause-failed
returns-in_err-write_all-clause-failed g c =
    let failed = err_from_is_err_and c.from_residual.result c.from_residual.ensures.1 in
    let there = sym c.line.ensures ∙ ap (option_map (λ l. l.items)) c.in-Some.is ∙ ap Some (sym c.as_slice.ensures.value) in
    rw failed.1 (line_failed (g.T.LineText.lines c.args.text.now) c.loop-place.place c.as_slice.result.now there _ _ c.loop-place.invariant.written _ c.in_err-write_all.ensures.failed)

pub loop-place-preserved : goal.loop-place-preserved
loop-place-preserved g c = elim c.match-line.branch [
  | in-Some+in_ok-write_all w ↦
      let there = sym c.line.ensures ∙ ap (option_map (λ l. l.items)) w.in-Some.is ∙ ap Some (sym w.as_slice.ensures.value) in
      record {
        written = ap g.K.Faulty.seen w.sink-is ∙ line_written (g.T.LineText.lines c.args.text.now) c.loop-place.place w.as_slice.result.now there _ _ c.loop-place.invariant.written _ w.in_ok-write_all.ensures.ok;
        all = c.loop-place.invariant.all;
      }
  | in_default w ↦
      no_gap (g.T.LineText.lines c.args.text.now) c.loop-place.place (omega (arith, c.loop-place-test.true, c.loop-place.invariant.all)) (sym c.line.ensures ∙ ap (option_map (λ l. l.items)) w.in_default.is)
]

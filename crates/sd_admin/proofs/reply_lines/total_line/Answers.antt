use Rattle.std.proofs.Common.{◌∙◌, ◌++◌, Some, sym, ap}
use Rattle.std.specs.Option.{option_map}
use Rattle.std.proofs.lemmas.Option.{slice_get-map}
use Rattle.sd_model_record.specs.Totals.{known_before_end, total_line}
use Rattle.sd_admin.specs.Totals.{total_seen, totals_view}
use Rattle.sd_admin.proofs.reply_lines.total_line.Goals as goal

pub returns : goal.returns
returns c =
    let totals = known_before_end c.args.outlets (totals_view c.args.totals.now) in
    ap Some (c.text_line.ensures ∙ c.as_slice.ensures.value ∙ c.push_total.ensures.text ∙ ap (λ text. text ++ total_line (total_seen c.in_ok-total.total)) c.new-line.ensures)
    ∙ sym (slice_get-map total_line totals c.args.place ∙ ap (option_map total_line) (sym c.known_at.ensures.total ∙ ap (option_map total_seen) c.in_ok-total.was))

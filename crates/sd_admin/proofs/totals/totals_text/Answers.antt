-- The lines that were appended are those of the totals.
use Rattle.std.proofs.Common.{◌≡◌, ◌∙◌, ◌<◌, ◌≤◌, [], ◌++◌, length, sym, ap, subst, arith}
use Rattle.std.specs.Prelude.{option_map, slice_get, IfSome, Some, None}
use Rattle.std.proofs.lemmas.Option.{slice_get-get_or}
use Rattle.sd_model_record.specs.Totals.{Total, total_line}
use Rattle.sd_admin.specs.Totals.{total_seen, totals_view}
use Rattle.sd_admin.proofs.TakeLemmas.{text-more}
use Rattle.sd_admin.proofs.totals.totals_text.Goals as goal
use Rattle.sd_admin.proofs.totals.totals_text.Goals.{in-Some, in_default}

clash : {t : Total} → None ≡ Some t → ⊥
clash h = absurd (cc)

pub loop-place-preserved : goal.loop-place-preserved
loop-place-preserved c =
    let totals = totals_view c.args.totals.now in
    let place = c.loop-place.place in
    let inv = c.loop-place.invariant in
    elim c.match-at.branch [
      | in-Some w ↦
          let found : slice_get totals place ≡ Some (total_seen w.in-Some.total) = sym c.at.ensures.total ∙ ap (option_map total_seen) w.in-Some.is in
          let short = subst (λ r. IfSome r (λ t. length t.name.now ≤ 15)) w.in-Some.is c.at.ensures.short in
          record {
            text = ap (λ line. line.items) w.line-is ∙ w.push_total.ensures.text ∙ ap (λ text. text ++ total_line (total_seen w.in-Some.total)) inv.text ∙ sym (text-more totals place (total_seen w.in-Some.total) found);
            len = omega (arith, ap (λ line. length line.items) w.line-is, w.push_total.ensures.len, short, inv.len);
          }
      | in_default w ↦
          let there : place < length totals = omega (arith, c.loop-place-test.true) in
          absurd (clash (sym (ap (option_map total_seen) w.in_default.is) ∙ c.at.ensures.total ∙ slice_get-get_or totals place ([], 0) there))
    ]

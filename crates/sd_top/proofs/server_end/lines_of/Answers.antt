-- Each turn appends the line of one outlet more.
use Rattle.std.proofs.Common.{◌≡◌, ◌∙◌, ◌<◌, ◌++◌, append_assoc, ap, sym, take, arith}
use Rattle.std.specs.Prelude.{Some, codes, length, slice_get}
use Rattle.std.proofs.lemmas.List.{get_or-map}
use Rattle.std.proofs.lemmas.Option.{slice_get-get_or}
use Rattle.sd_model_outside.specs.Backend.{backend_name, backends}
use Rattle.sd_model_record.specs.Totals.{Total, total_line, totals_text}
use Rattle.sd_model_record.proofs.TotalLemmas.{totals_text-append}
use Rattle.sd_outside.specs.Backends.{at, kind_of}
use Rattle.sd_outside.specs.declared.backends.TheConstants.{BACKENDS}
use Rattle.sd_outside.specs.declared.backends.BackendKind.{BackendKind}
use Rattle.sd_outside.specs.declared.backends.BackendKind.TheVariants.{Graphite}
use Rattle.sd_serve.specs.declared.outlets.OutCount.{OutCount}
use Rattle.sd_admin.specs.Totals.{totals_view}
use Rattle.sd_admin.proofs.TakeLemmas.{text-more}
use Rattle.sd_top.specs.Serving.{skips_in}
use Rattle.sd_top.proofs.server_end.lines_of.Goals as goal

pub loop-kind-preserved : goal.loop-kind-preserved
loop-kind-preserved c =
    let totals = totals_view c.args.totals.now in
    let outs = c.in-Some.outs in
    let skips = skips_in (Some outs) in
    let n = c.loop-kind.kind-index in
    let skip_of : BackendKind → Total = λ kind. (backend_name (kind_of kind) ++ codes "_skipped", (at outs (kind_of kind)).skipped) in
    let one : Total = (c.skipped_name.result.now, c.from-skipped.result) in
    let name = c.skipped_name.ensures.name in
    let there : n < length backends = c.loop-kind-test.true in
    let found : slice_get skips n ≡ Some one =
    slice_get-get_or skips n (skip_of Graphite) there ∙ ap Some (get_or-map skip_of BACKENDS n Graphite (skip_of Graphite) there ∙ (λ i. (sym name i, sym (c.from-skipped.ensures ∙ ap (λ (out : OutCount). out.skipped) c.at.ensures) i))) in
    record {
      text = c.push_total.ensures.text ∙ ap (λ text. text ++ total_line one) c.loop-kind.invariant.text ∙ append_assoc (totals_text totals) (totals_text (take n skips)) (total_line one) ∙ ap (λ text. totals_text totals ++ text) (sym (text-more skips n one found));
      len = omega (arith, c.push_total.ensures.len, c.skipped_name.ensures.short, c.loop-kind.invariant.len);
    }

pub returns-after-loop-kind : goal.returns-after-loop-kind
returns-after-loop-kind c =
    let totals = totals_view c.args.totals.now in
    let skips = skips_in (Some c.in-Some.outs) in
    let all : c.loop-kind.kind-index ≡ length backends = omega (arith, c.loop-kind-test.false, c.loop-kind.auto.kind-index-end) in
    c.loop-kind.invariant.text ∙ ap (λ n. totals_text totals ++ totals_text (take n skips)) all ∙ sym (totals_text-append totals skips) ∙ ap (λ outs. totals_text (totals ++ skips_in outs)) (sym c.in-Some.is)

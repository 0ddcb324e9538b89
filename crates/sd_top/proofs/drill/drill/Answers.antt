use Rattle.std.proofs.Math.Path.{fun_ext}
use Rattle.std.proofs.Common.{◌≡◌, ℕ, length, [], refl, sym, ap, subst, ◌∙◌, codes, arith}
use Rattle.sd_model_outside.specs.Outside.{HasFailedBehind, given}
use Rattle.sd_model_settings.specs.Settings as file
use Rattle.sd_model_replay.specs.Replay.{targets_of}
use Rattle.sd_model_record.specs.Totals.{total_line}
use Rattle.sd_replay.specs.Ends.{end_of}
use Rattle.sd_outside.specs.CountSink.{seen_of}
use Rattle.sd_admin.specs.Totals.{totals_view}
use Rattle.sd_top.proofs.DrillLemmas.{in_force, not_complete, by_failure, by_bytes, by_bytes_failed}
use Rattle.sd_top.proofs.drill.drill.Goals as goal

pub replay-requires-clause-uses : goal.replay-requires-clause-uses
replay-requires-clause-uses g c b = ap (λ used. used b) c.use_named.ensures.uses

pub replay-requires-clause-wires : goal.replay-requires-clause-wires
unfolding file.default_settings
replay-requires-clause-wires g c =
    let none : length (targets_of c.in-Ok.settings) ≡ 0 = ap (λ (values : file.Settings). length (targets_of values)) (in_force c.in-Ok.settings c.in-Ok.ensures.exact) in omega (arith, none)

pub returns-in-Ok-write_total : goal.returns-in-Ok-write_total
returns-in-Ok-write_total g c =
    let objects = fun_ext (λ b. ap seen_of (c.use_named.ensures.objects b) ∙ (c.from_fn-backs.ensures b).1) in
    by_bytes c.args.packets (omega (arith, c.requires.most)) c.in-Ok.settings (in_force c.in-Ok.settings c.in-Ok.ensures.exact) (g.O.Faulty.seen c.args.output.now) _ _
    (λ i. record { script = c.new-script.ensures i; output = g.O.Faulty.seen c.args.output.now; backs = objects i; wires = [] })
    refl (λ b. refl) _ c.in-Ok-replay.ensures.end (totals_view c.in-Ok-replay.field-0) refl c.count.result (ap (λ back. (seen_of back.object).content) (sym c.at.ensures) ∙ c.count.ensures) _
    (c.in-Ok-write_total.ensures.ok ∙ ap (λ n. given (total_line (codes "bytes", n)) (g.O.Faulty.seen c.replay.new.output)) c.from.ensures)

pub returns-in-Err : goal.returns-in-Err
returns-in-Err g c =
    let objects = fun_ext (λ b. ap seen_of (c.use_named.ensures.objects b) ∙ (c.from_fn-backs.ensures b).1) in
    by_bytes_failed c.args.packets (omega (arith, c.requires.most)) c.in-Ok.settings (in_force c.in-Ok.settings c.in-Ok.ensures.exact) (g.O.Faulty.seen c.args.output.now) _ _
    (λ i. record { script = c.new-script.ensures i; output = g.O.Faulty.seen c.args.output.now; backs = objects i; wires = [] })
    refl (λ b. refl) _ c.in-Ok-replay.ensures.end (totals_view c.in-Ok-replay.field-0) refl c.count.result (ap (λ back. (seen_of back.object).content) (sym c.at.ensures) ∙ c.count.ensures) _
    (subst (λ (n : ℕ). HasFailedBehind (total_line (codes "bytes", n)) (g.O.Faulty.seen c.replay.new.output) (g.O.Faulty.seen c.write_total.new.output)) c.from.ensures c.in-Err.ensures.failed)

pub returns-in_default-replay : goal.returns-in_default-replay
returns-in_default-replay g c =
    let objects = fun_ext (λ b. ap seen_of (c.use_named.ensures.objects b) ∙ (c.from_fn-backs.ensures b).1) in
    by_failure c.args.packets (omega (arith, c.requires.most)) c.in-Ok.settings (in_force c.in-Ok.settings c.in-Ok.ensures.exact) (g.O.Faulty.seen c.args.output.now) _ _
    (λ i. record { script = c.new-script.ensures i; output = g.O.Faulty.seen c.args.output.now; backs = objects i; wires = [] })
    refl (λ b. refl) (end_of c.replay.result) c.replay.ensures.end _ c.status_of.ensures (not_complete c.replay.result c.in_default-replay.not-Ok)

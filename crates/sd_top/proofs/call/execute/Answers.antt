use Rattle.std.proofs.Math.Path.{fun_ext}
use Rattle.std.proofs.Common.{Bool, [], length, refl, ap, ◌∙◌, inl, arith}
use Rattle.sd_model_outside.specs.Backend.{Backend}
use Rattle.sd_model_call.specs.Opening.{replay_openings}
use Rattle.sd_top.proofs.call.execute.Goals as goal

pub returns-in_default-clause-refused : goal.returns-in_default-clause-refused
returns-in_default-clause-refused g c = inl (refl, record { before = []; behind = replay_openings c.args.script.items c.args.settings.now; order = refl; opened = refl })

pub replay-requires-clause-wires : goal.replay-requires-clause-wires
replay-requires-clause-wires g c =
    let wires = ap length c.deref_mut.ensures.value in
    omega (arith, c.in_ok-open_replay.ensures.few, wires, c.in_ok-open_replay.ensures.count, c.requires.wires)

pub replay-requires-clause-uses : goal.replay-requires-clause-uses
replay-requires-clause-uses g c b = ap (λ (used : Backend → Bool). used b) (c.open_replay.ensures.same_use ∙ c.requires.uses)

pub returns-clause-same_use : goal.returns-clause-same_use
returns-clause-same_use g c = fun_ext c.replay.ensures.same_use ∙ c.open_replay.ensures.same_use

use Rattle.std.proofs.Common.{◌≡◌, ◌∙◌, ◌≤◌, ◌^◌, refl, arith}
use Rattle.sd_live.specs.Live.{nodes_of}
use Rattle.sd_proxy_desk.specs.declared.checked.CheckEnd.TheVariants.{End, Failed, Worn}
use Rattle.sd_proxy_desk.specs.Checking.{check_seen}
use Rattle.sd_proxy_desk.proofs.Run.{ran_none, ran_more, ran_length, ran_out, ends_spent, ends_failed, same_faults}
use Rattle.sd_proxy_desk.proofs.checker.check.Goals as goal

pub loop-made-init : goal.loop-made-init
loop-made-init g c = record {
  pass = c.requires.pass;
  seat = (c.requires.seat, refl);
  ran = ran_none _ _ (g.met.P.Beat.turns_fit c.args.beat.now);
}

pub ask_all-found-requires : goal.ask_all-found-requires
ask_all-found-requires g c = let few : nodes_of c.args.hub.now.cell.now ≤ 64 = c.requires.pass.0.2 in omega (arith, few, c.requires.nodes)

pub publish-requires-clause-count : goal.publish-requires-clause-count
publish-requires-clause-count g c =
    let len = ran_length _ _ _ _ _ c.loop-made.invariant.ran in
    omega (arith, len, c.requires.fresh, c.loop-made-test.true)

pub loop-made-preserved : goal.loop-made-preserved
loop-made-preserved g c = record {
  pass = c.publish.ensures.pass;
  seat = (c.count_check.ensures.seat.0, c.count_check.ensures.seat.1 ∙ c.loop-made.invariant.seat.1);
  ran = ran_more _ _ _ _ _ _ c.in-At.field-0 _ _ _ c.loop-made.invariant.ran c.in-At.ensures c.ask_all-found.ensures c.publish.ensures.seen c.count_check.ensures.did c.risen-probe_faults.ensures;
}

pub returns-in-End-clause-checks : goal.returns-in-End-clause-checks
returns-in-End-clause-checks g c =
    let old = check_seen c.args.own.now (g.P.Faulty.seen c.args.beat.now) (g.Q.Faulty.seen c.args.probe.now) in
    let now = check_seen c.loop-made.own (g.P.Faulty.seen c.loop-made.beat) (g.Q.Faulty.seen c.loop-made.probe) in
    let ran = c.loop-made.invariant.ran in
    ran_out _ old now _ _ _ End c.checked.result c.checked.ensures.ended c.checked.ensures.checks c.checked.ensures.faults ran (same_faults _ _ c.in-End.ensures.0)
    (ends_spent _ old now _ _ _ ran c.in-End.ensures.0 c.in-End.ensures.1 (omega arith))

pub returns-in-Failed-clause-checks : goal.returns-in-Failed-clause-checks
returns-in-Failed-clause-checks g c =
    let old = check_seen c.args.own.now (g.P.Faulty.seen c.args.beat.now) (g.Q.Faulty.seen c.args.probe.now) in
    let now = check_seen c.loop-made.own (g.P.Faulty.seen c.loop-made.beat) (g.Q.Faulty.seen c.loop-made.probe) in
    let ran = c.loop-made.invariant.ran in
    ran_out _ old now _ _ _ Failed c.checked-in-Failed.result c.checked-in-Failed.ensures.ended c.checked-in-Failed.ensures.checks c.checked-in-Failed.ensures.faults ran c.in-Failed.ensures.same
    (ends_failed _ old now _ _ _ ran c.in-Failed.ensures (omega arith))

pub returns-clause-checks : goal.returns-clause-checks
returns-clause-checks g c =
    let old = check_seen c.args.own.now (g.P.Faulty.seen c.args.beat.now) (g.Q.Faulty.seen c.args.probe.now) in
    let now = check_seen c.loop-made.own (g.P.Faulty.seen c.loop-made.beat) (g.Q.Faulty.seen c.loop-made.probe) in
    let ran = c.loop-made.invariant.ran in
    let all : 2 ^ 62 ≡ c.loop-made.made = omega arith in
    ran_out _ old now _ _ _ (Worn (2 ^ 62)) c.checked-2.result c.checked-2.ensures.ended (c.checked-2.ensures.checks ∙ all) c.checked-2.ensures.faults ran refl
    (refl, omega arith, ran.steady)

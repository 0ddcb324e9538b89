use Rattle.std.proofs.Common.{◌≡◌, ◌∙◌, true, false, refl, sym, ap, subst}
use Rattle.sd_model_outside.specs.Outside.{HasFailedBehind, given}
use Rattle.sd_model_live.specs.Port.{first_facts, PortExchange, leaves, port_command, port_reply}
use Rattle.sd_proxy_desk.specs.Shared.{events_of}
use Rattle.sd_proxy_desk.specs.Views.{facts_view}
use Rattle.sd_port.specs.Commands.{answer_view}
use Rattle.sd_port.proofs.AnswerSteps.{quits_so, executed_so}
use Rattle.sd_port.proofs.line.answer_line.Goals as goal

pub returns-then-asks_for_end-clause-answered : goal.returns-then-asks_for_end-clause-answered
returns-then-asks_for_end-clause-answered g c =
    let e : PortExchange = record { line = c.args.line.now; facts = first_facts; up = 0 } in
    let quits : leaves (port_command e.line) ≡ true = ap leaves (sym c.read-command.ensures) ∙ sym c.asks_for_end.ensures ∙ c.if-asks_for_end.true in
    (e, (refl, (quits, refl)), quits_so e c.args.own.now quits)

pub returns-in-Ok-clause-answered : goal.returns-in-Ok-clause-answered
returns-in-Ok-clause-answered g c =
    let e : PortExchange = record { line = c.args.line.now; facts = facts_view c.facts-facts.result; up = c.look.result } in
    let answer = answer_view c.read-command.result in
    let is : answer ≡ port_command e.line = c.read-command.ensures in
    let goes_on : leaves answer ≡ false = sym c.asks_for_end.ensures ∙ c.if-asks_for_end.false in (
      e,
      (
        refl,
        (
          ap leaves (sym is) ∙ goes_on,
          subst (λ command. g.O.Faulty.seen c.write_port_reply.new.output ≡ given (port_reply c.args.shared.now.settings.now e.facts e.up command) (g.O.Faulty.seen c.args.sink.now)) is c.in-Ok.ensures.ok,
        ),
      ),
      executed_so e answer c.args.own.now (record { pass = c.look.new.pass; seat = c.say_health.new.seat }) (events_of c.facts-facts.new.own)
          is goes_on c.facts-facts.ensures.did c.say_health.ensures.did (c.say_health.ensures.seat.1 ∙ c.facts-facts.ensures.seat.1) c.look.ensures.pass.1 c.look.ensures.looked,
    )

pub returns-in-Err-clause-answered : goal.returns-in-Err-clause-answered
returns-in-Err-clause-answered g c =
    let e : PortExchange = record { line = c.args.line.now; facts = facts_view c.facts-facts.result; up = c.look.result } in
    let answer = answer_view c.read-command.result in
    let is : answer ≡ port_command e.line = c.read-command.ensures in
    let goes_on : leaves answer ≡ false = sym c.asks_for_end.ensures ∙ c.if-asks_for_end.false in (
      e,
      (refl, subst (λ command. HasFailedBehind (port_reply c.args.shared.now.settings.now e.facts e.up command) (g.O.Faulty.seen c.args.sink.now) (g.O.Faulty.seen c.write_port_reply.new.output)) is c.in-Err.ensures.failed),
      executed_so e answer c.args.own.now (record { pass = c.look.new.pass; seat = c.say_health.new.seat }) (events_of c.facts-facts.new.own)
          is goes_on c.facts-facts.ensures.did c.say_health.ensures.did (c.say_health.ensures.seat.1 ∙ c.facts-facts.ensures.seat.1) c.look.ensures.pass.1 c.look.ensures.looked,
    )

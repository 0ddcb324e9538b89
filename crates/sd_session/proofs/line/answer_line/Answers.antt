use Rattle.std.proofs.Common.{◌≡◌, ◌∙◌, [], true, false, refl, sym}
use Rattle.sd_model_record.specs.Admin.{command}
use Rattle.sd_shared_desk.specs.Counts.{nothing}
use Rattle.sd_shared_desk.proofs.CountLemmas.{counted_none, counted_next}
use Rattle.sd_model_serve.specs.Sessions.{Exchange, is_quit}
use Rattle.sd_desk.specs.Facts.{facts_view}
use Rattle.sd_pool.specs.Pool.{own_at, shards_of}
use Rattle.sd_shared_desk.specs.Shared.{part_of}
use Rattle.sd_session.proofs.ExecutionLemmas.{Broadcasts-none}
use Rattle.sd_session.proofs.LineLemmas.{line_called, no_facts, quit_called}
use Rattle.sd_session.proofs.line.answer_line.Goals as goal

pub returns-then-asks_for_end-clause-answered : goal.returns-then-asks_for_end-clause-answered
returns-then-asks_for_end-clause-answered g c =
    let e : Exchange = record { line = c.args.line.now; now = 0; facts = no_facts; asked = [] } in
    let quits : is_quit (command e.line) ≡ true = sym c.asks_for_end.ensures ∙ c.if-asks_for_end.true in
    let part = part_of c.args.own.now in (
      e,
      (refl, ((quits, refl), refl)),
      record {
        asked = Broadcasts-none (shards_of c.args.shared.now.workers.now.pool.now) (own_at c.args.seat.now);
        called = quit_called e part quits;
        counted = counted_none part;
        number = refl;
      },
    )

pub returns-in-Ok-clause-answered : goal.returns-in-Ok-clause-answered
returns-in-Ok-clause-answered g c =
    let h = c.in-Ok.ensures.executed in
    let e : Exchange = record { line = c.args.line.now; now = c.now.result; facts = facts_view c.facts-facts.result; asked = h.broadcasts } in
    let goes_on : is_quit (command e.line) ≡ false = sym c.asks_for_end.ensures ∙ c.if-asks_for_end.false in
    let part = part_of c.args.own.now in
    let heard = part_of c.facts-facts.new.own in
    let now = part_of c.set_health.new.own in (
      e,
      (refl, (record { all = h.executed.all; goes_on = goes_on; now = c.now.ensures }, h.executed.written)),
      record {
        asked = h.asked;
        called = line_called e part heard now goes_on c.facts-facts.ensures.calls.own c.set_health.ensures.called;
        counted = counted_next nothing nothing part heard now c.facts-facts.ensures.counted c.set_health.ensures.counted;
        number = c.set_health.ensures.own.1 ∙ c.facts-facts.ensures.seat.1;
      },
    )

pub returns-in-Err-clause-answered : goal.returns-in-Err-clause-answered
returns-in-Err-clause-answered g c =
    let h = c.in-Err.ensures.executed in
    let e : Exchange = record { line = c.args.line.now; now = c.now.result; facts = facts_view c.facts-facts.result; asked = h.broadcasts } in
    let goes_on : is_quit (command e.line) ≡ false = sym c.asks_for_end.ensures ∙ c.if-asks_for_end.false in
    let part = part_of c.args.own.now in
    let heard = part_of c.facts-facts.new.own in
    let now = part_of c.set_health.new.own in (
      e,
      (refl, (h.executed, c.now.ensures)),
      record {
        asked = h.asked;
        called = line_called e part heard now goes_on c.facts-facts.ensures.calls.own c.set_health.ensures.called;
        counted = counted_next nothing nothing part heard now c.facts-facts.ensures.counted c.set_health.ensures.counted;
        number = c.set_health.ensures.own.1 ∙ c.facts-facts.ensures.seat.1;
      },
    )

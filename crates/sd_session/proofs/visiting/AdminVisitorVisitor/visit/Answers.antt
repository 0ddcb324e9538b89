use Rattle.std.proofs.Common.{refl, sym, ap, ◌∙◌, rules}
use Rattle.sd_shared_desk.specs.Counts.{nothing}
use Rattle.std.specs.Prelude.{flat_map}
use Rattle.sd_model_serve.specs.Sessions.{ends_by_fault, line_calls, lines_in}
use Rattle.sd_session.proofs.visiting.AdminVisitorVisitor.visit.Goals as goal

pub returns-clause-visited : goal.returns-clause-visited
returns-clause-visited g c =
    let held = c.session-ended.ensures.held in
    record {
      amounts = nothing;
      calls = flat_map line_calls (lines_in held.dialogue);
      holds = record {
        works = search rules;
        none = refl;
        dialogue = held.dialogue;
        called = refl;
        went = record { talked = held.talked; fault = c.is_fault.ensures ∙ sym (ap ends_by_fault held.ended_is) };
        asked = held.asked;
      };
      made = held.called;
      counted = c.session-ended.ensures.counted;
    }

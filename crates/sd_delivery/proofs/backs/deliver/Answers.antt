use Rattle.std.proofs.Common.{◌≡◌, true, ap, subst}
use Rattle.sd_model_outside.specs.Backend.{Console, at_backend}
use Rattle.sd_model_outside.specs.Outside.{Rose}
use Rattle.sd_model_outside.specs.Uses.{AfterMark, FitsUse, Written}
use Rattle.sd_model_record.specs.Backends.{console_text, text_of}
use Rattle.sd_model_record.specs.Record.{Record}
use Rattle.sd_desk.specs.Marks.{mark_of, marks_of}
use Rattle.sd_outside.specs.declared.backend.Back.{Back}
use Rattle.sd_outside.specs.declared.backends.PerBackend.{PerBackend}
use Rattle.sd_desk.specs.declared.marks.Mark.{Mark}
use Rattle.sd_outside.proofs.BackendLemmas.{at_both}
use Rattle.sd_record.specs.Record.{record_view}
use Rattle.sd_outside.specs.Backends.{back_of, uses}
use Rattle.sd_delivery.proofs.backs.deliver.Goals as goal

pub returns-clause-gives : goal.returns-clause-gives
returns-clause-gives g c =
    let graphite = c.give_if_used-graphite in
    let console = c.give_if_used-console in
    let seen = g.B.Faulty.seen in
    let old = c.args.backs.now in
    let new : PerBackend (Back _) = record { graphite = graphite.new.back; console = console.new.back } in
    let marks : PerBackend Mark = record { graphite = graphite.result; console = console.result } in
    record {
      used = at_both (λ b. FitsUse (uses old b) (at_backend (marks_of marks) b)) graphite.ensures.used console.ensures.used;
      delivered = at_both (λ b. AfterMark (at_backend (marks_of marks) b) (text_of c.args.names.now b (record_view c.args.rec.now)) (back_of seen old b) (back_of seen new b)) graphite.ensures.delivery
          -- the record is the same after Graphite's turn
          (subst (λ (r : Record). AfterMark (mark_of console.result) (console_text r) (back_of seen old Console) (back_of seen new Console)) graphite.ensures.record console.ensures.delivery);
      whole = at_both (λ b. uses old b ≡ true → ¬ Rose (back_of seen old b).faults (back_of seen new b).faults → at_backend (marks_of marks) b ≡ Written) (λ used steady. ap mark_of (graphite.ensures.written used steady)) (λ used steady. ap mark_of (console.ensures.written used steady));
      same_use = at_both (λ b. uses new b ≡ uses old b) graphite.ensures.same_use console.ensures.same_use;
    }

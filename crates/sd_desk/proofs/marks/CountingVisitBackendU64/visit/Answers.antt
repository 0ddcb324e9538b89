use Rattle.std.proofs.Common.{◌≡◌, sym, ap, ◌∙◌}
use Rattle.sd_model_outside.specs.Backend.{at_backend}
use Rattle.sd_model_outside.specs.Uses.{fault_of}
use Rattle.sd_model_outside.proofs.BackendLemmas.{at_each}
use Rattle.sd_model_record.specs.Desk.{counted}
use Rattle.sd_outside.specs.Backends.{at, kind_of}
use Rattle.sd_desk.specs.Marks.{mark_of, marks_of}
use Rattle.sd_desk.proofs.marks.CountingVisitBackendU64.visit.Goals as goal

pub returns-clause-visits : goal.returns-clause-visits
returns-clause-visits c =
    let marks = c.args.self.now.marks.now in
    let own : fault_of (mark_of c.at.result.now) ≡ fault_of (at_backend (marks_of marks) (kind_of c.args.kind)) =
    ap (λ m. fault_of (mark_of m)) c.at.ensures ∙ ap fault_of (sym (at_each (λ b. mark_of (at marks b)) (kind_of c.args.kind))) in
    (c.counted.ensures.value ∙ ap (counted c.args.faults.now) (c.faults.ensures ∙ own), c.counted.ensures.bound)

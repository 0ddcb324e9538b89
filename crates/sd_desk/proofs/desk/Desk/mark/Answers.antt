use Rattle.std.proofs.Math.Path.{fun_ext}
use Rattle.std.proofs.Common.{◌≡◌, ℕ, sym, ap, ◌∙◌}
use Rattle.sd_model_outside.specs.Backend.{Backend, at_backend, each_of}
use Rattle.sd_model_outside.specs.Uses.{fault_of}
use Rattle.sd_model_outside.proofs.BackendLemmas.{at_each}
use Rattle.sd_model_record.specs.Desk.{counted}
use Rattle.sd_outside.specs.Backends.{at}
use Rattle.sd_desk.specs.Marks.{marks_of}
use Rattle.sd_desk.specs.Steps.{marked}
use Rattle.sd_desk.specs.Tally.{tally_of}
use Rattle.sd_desk.proofs.desk.Desk.mark.Goals as goal

pub returns : goal.returns
returns c =
    let d = c.self.inside in
    let marks = marks_of c.args.m in
    let after : Backend → ℕ = λ b. counted (at_backend (each_of (at d.faults)) b) (fault_of (at_backend marks b)) in
    let faults : at c.count_faults.new.faults ≡ after = fun_ext (λ b. c.count_faults.ensures.counts b ∙ ap (λ n. counted n (fault_of (at_backend marks b))) (sym (at_each (at d.faults) b))) in
    (λ i. record {
      facts = record { start = d.start; last = d.last; totals = tally_of d.totals; up = d.up; rounds = c.counted-self-inside.ensures.value i; faults = each_of (faults i); repeater_faults = d.repeater_faults; admin_faults = d.admin_faults };
      tally = tally_of d.tally;
      taken_so_far = tally_of d.taken_so_far;
    })
    ∙ ap (λ desk. marked desk marks) c.self.view_is

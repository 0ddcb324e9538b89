use Rattle.std.proofs.Math.Path.{fun_ext}
use Rattle.std.proofs.Common.{◌≡◌, ◌∙◌, ◌∷◌, ◌++◌, [], ap, codes, map}
use Rattle.sd_model_outside.specs.Backend.{backends}
use Rattle.sd_model_record.specs.Totals.{faults_name}
use Rattle.sd_outside.specs.Backends.{at}
use Rattle.sd_outside.proofs.BackendLemmas.{same_kind}
use Rattle.sd_admin.proofs.totals.Totals.of.Goals as goal

pub returns : goal.returns
returns c =
    let sums = c.args.sums.now in
    let faults : at c.from_fn.result ≡ at c.args.facts.now.faults = fun_ext (λ b. (c.from_fn.ensures b).1 ∙ ap (at c.args.facts.now.faults) (same_kind b)) in
    λ i. (codes "packets", c.from.ensures i)
    ∷ (codes "lines", c.from-2.ensures i)
    ∷ (codes "bad", c.from-3.ensures i)
    ∷ (codes "taken", sums.taken)
    ∷ (codes "dropped", sums.dropped)
    ∷ (codes "flushed", sums.flushed)
    ∷ (codes "held", sums.held)
    ∷ (codes "deleted", sums.deleted)
    ∷ (codes "rounds", c.from-4.ensures i)
    ∷ (map (λ b. (faults_name b, faults i b)) backends
    ++ (codes "repeater_faults", c.from-5.ensures i)
    ∷ (codes "admin_faults", c.from-6.ensures i)
    ∷ [])

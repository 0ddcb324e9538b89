-- The totals that couldn't be written whole are those of the state.
use Rattle.std.proofs.Common.{Result, Ok, Err, OnErr, subst}
use Rattle.sd_model_outside.specs.Outside.{HasFailedBehind}
use Rattle.sd_model_record.specs.Totals.{totals_text}
use Rattle.sd_replay.proofs.run.finish.Goals as goal

whichever : {A E P : Type 0} (r : Result A E) → P → OnErr r P
whichever (Ok x) holds = tt
whichever (Err e) holds = holds

pub returns-in_err-write_totals-clause-failed : goal.returns-in_err-write_totals-clause-failed
returns-in_err-write_totals-clause-failed g c =
    whichever c.from_residual.result
    (subst (λ t. HasFailedBehind (totals_text t) (g.O.Faulty.seen c.args.output.now) (g.O.Faulty.seen c.write_totals.new.output)) c.totals_of-totals.ensures c.in_err-write_totals.ensures.failed)

use Rattle.std.proofs.Common.{◌≡◌, ℕ, List, length, sym, subst, ap, inr, ◌∙◌, arith}
use Rattle.std.proofs.Math.Seq.{take-length}
use Rattle.sd_model_outside.specs.Outside.{Object, HasFailed, appended, begun, given, telling}
use Rattle.sd_model_outside.specs.Uses.{HasMissed}
use Rattle.sd_record.specs.Record.{record_view}
use Rattle.sd_delivery.proofs.backs.give.Goals as goal

-- the whole text was given, and the list wasn't ended
missed_behind : (text : List ℕ) (old begun_now given_now new : Object) → begun_now ≡ telling (begun old.content) old → given_now ≡ given text begun_now → HasFailed given_now new → HasMissed text old new
missed_behind text old begun_now given_now new first then failed =
    let at : given_now ≡ given text (telling (begun old.content) old) = then ∙ ap (given text) first in
    let last : HasFailed (given text (telling (begun old.content) old)) new = subst (λ (o : Object). HasFailed o new) at failed in
    record {
      used = record { faults = last.used.faults; opened_at = last.used.opened_at };
      rose = last.rose;
      prefix = inr (length text, omega arith, ap (λ (o : Object). o.content) last.same ∙ ap (appended (begun old.content)) (sym (take-length text)));
    }

pub returns-in-Err-clause-delivery : goal.returns-in-Err-clause-delivery
returns-in-Err-clause-delivery g c =
    missed_behind (g.T.RecordText.text_of c.args.form.now (record_view c.args.rec.now)) _ _ _ _ c.in-Ok.ensures.ok c.in-Ok-write.ensures.ok c.in-Err.ensures.failed

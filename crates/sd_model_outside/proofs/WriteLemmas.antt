-- Writes one after another, the last of which may fail after a prefix.
use Rattle.std.proofs.Common.{◌≡◌, ℕ, ◌+◌, List, ◌++◌, length, take, sym, ap, subst, ◌∙◌, arith, length-append}
use Rattle.std.proofs.lemmas.List.{take-append-le}
use Rattle.std.proofs.Math.Seq.{take-append-add}
use Rattle.sd_model_outside.specs.Outside.{Content, Object, HasFailedBehind, appended, given, telling}
use Rattle.sd_model_outside.proofs.OutsideLemmas.{appended-appended}
use Rattle.sd_model_outside.proofs.Short.{AppendsPrefix}

-- a prefix of a text is a prefix of each text that begins with it
pub AppendsPrefix-longer : (w v : Content) (xs ys : List ℕ) → AppendsPrefix w xs v → AppendsPrefix w (xs ++ ys) v
AppendsPrefix-longer w v xs ys (n, below, is) = (
  n,
  omega (arith, length-append xs ys),
  is ∙ ap (appended w) (sym (take-append-le n xs ys (omega arith))),
)

-- a prefix of a text, after another text that was written whole
pub AppendsPrefix-later : (w v : Content) (xs ys : List ℕ) → AppendsPrefix (appended w xs) ys v → AppendsPrefix w (xs ++ ys) v
AppendsPrefix-later w v xs ys (n, below, is) = (
  length xs + n,
  omega (arith, length-append xs ys),
  is ∙ appended-appended w xs (take n ys) ∙ ap (appended w) (sym (take-append-add xs ys n)),
)

-- two writes one after the other
pub given-given : (xs ys : List ℕ) (o : Object) → given ys (given xs o) ≡ given (xs ++ ys) o
given-given xs ys o = ap (λ content. telling content o) (appended-appended o.content xs ys)

-- a write that failed after a prefix of a text, of which a longer one was meant
pub behind-longer : (xs ys : List ℕ) (old new : Object) → HasFailedBehind xs old new → HasFailedBehind (xs ++ ys) old new
behind-longer xs ys old new h = record { used = h.used; rose = h.rose; prefix = AppendsPrefix-longer old.content new.content xs ys h.prefix }

-- a write that failed after a prefix, once another text was written whole
pub behind-later : (xs ys : List ℕ) (old mid new : Object) → mid ≡ given xs old → HasFailedBehind ys mid new → HasFailedBehind (xs ++ ys) old new
behind-later xs ys old mid new is h =
    let at : HasFailedBehind ys (given xs old) new = subst (λ (o : Object). HasFailedBehind ys o new) is h in
    record {
      used = record { faults = at.used.faults; opened_at = at.used.opened_at };
      rose = at.rose;
      prefix = AppendsPrefix-later old.content new.content xs ys at.prefix;
    }

use Rattle.std.proofs.Common.{string_bytes, inl, inr, arith, rules}
use Rattle.std.proofs.lemmas.Grind.{common_steps}
use Rattle.sd_opening.proofs.WordsLemmas.{of_no_form}
use Rattle.sd_opening.proofs.words.form_of.Goals as goal
use Rattle.sd_opening.proofs.words.form_of.Goals.{in_default-via-then-words-lt2, in_default-via-else-words-lt2+else-words-lt3+else-words-lt4}

pub returns-in_default : goal.returns-in_default
returns-in_default c = of_no_form (λ w. string_bytes w) c.args.words.now
    (elim c.in_default.branch [ in_default-via-then-words-lt2 w ↦ inl (grind (arith, common_steps)) | in_default-via-else-words-lt2+else-words-lt3+else-words-lt4 w ↦ inr (search rules) ])

-- A piece is read by the two relations.
use Rattle.std.proofs.Common.{sym, ap, ◌∙◌}
use Rattle.sd_model_text.specs.Lines.{reading}
use Rattle.sd_law_text.specs.Grammar.{err_of}
use Rattle.sd_law_text.proofs.GrammarLemmas.{first_flaw, err-of}
use Rattle.sd_law_text.proofs.GoodLemmas.{good-reading, reading-good}
use Rattle.sd_law_text.proofs.grammar.pieces_are_good_or_bad.Goals as goal

pub returns-clause-good : goal.returns-clause-good
returns-clause-good c piece s alone = (reading-good piece s alone, good-reading piece s)

pub returns-clause-bad : goal.returns-clause-bad
returns-clause-bad c piece flaw = (λ h. sym (first_flaw piece) ∙ ap err_of h, λ h. err-of (reading piece) flaw (first_flaw piece ∙ h))

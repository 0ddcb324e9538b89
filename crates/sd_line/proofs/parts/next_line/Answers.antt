use Rattle.std.proofs.Common.{ℕ, List, ◌∙◌, sym, ap}
use Rattle.sd_model_text.specs.Lines.{lines}
use Rattle.sd_line.specs.Cut.{cut_view}
use Rattle.sd_line.specs.Lines.{with_line}
use Rattle.sd_line.proofs.LineLemmas.{first_line, last_line}
use Rattle.sd_line.proofs.parts.next_line.Goals as goal

pub returns-in-Some-clause-lines : goal.returns-in-Some-clause-lines
returns-in-Some-clause-lines c =
    first_line c.args.bytes.now (cut_view c.in-Some.line) c.in-Some.ensures.cut
    ∙ ap (λ (line : List ℕ). with_line line (lines c.in-Some.line.rest.now)) (sym c.trimmed.ensures)

pub returns-in-None-clause-lines : goal.returns-in-None-clause-lines
returns-in-None-clause-lines c = last_line c.args.bytes.now _ c.in-None.ensures.cut c.trimmed-in-None.ensures

use Rattle.std.proofs.Common.{◌≡◌, [], ◌∷◌, ◌++◌, None, sym, ap, ◌∙◌}
use Rattle.std.proofs.lemmas.Bool.{both_ways}
use Rattle.sd_model_text.specs.Lines.{pieces}
use Rattle.sd_law_text.proofs.CutLemmas.{cut-leaves}
use Rattle.sd_line.specs.Named.{named_view}
use Rattle.sd_line.proofs.PieceLemmas.{line-answers, pieces-line, some-values}
use Rattle.sd_line.proofs.lines.Lines.next_into.Goals as goal
use Rattle.sd_line.proofs.lines.Lines.next_into.Goals.{then-is_empty+in-Some+in-Some-name_of, else-is_empty}

pub returns-in_default-name_of-clause-next : goal.returns-in_default-name_of-clause-next
returns-in_default-name_of-clause-next c =
    let line = c.in-Some.line in
    let none : c.self.inside.values ≡ [] = c.is_empty.ensures.0 c.if-is_empty.true in
    let cut = c.in_default-name_of.ensures.cut in (
      line.part.now,
      sym c.self.view_is ∙ ap (λ v. v ++ pieces c.self.inside.rest.now) none
          ∙ pieces-line c.self.inside.rest.now line.part.now line.rest.now None c.in-Some.ensures cut
          ∙ ap (λ v. line.part.now ∷ v ++ pieces line.rest.now) (sym none),
      line-answers line.part.now cut,
    )

pub begin-requires-clause-first : goal.begin-requires-clause-first
begin-requires-clause-first c =
    (cut-leaves 58 c.in-Some.line.part.now (named_view c.in-Some-name_of.named) (sym c.in-Some-name_of.ensures.cut)).first

pub returns-clause-end : goal.returns-clause-end
returns-clause-end c h =
    let end : c.if-is_empty.self-inside.values ≡ [] = (c.next_into.ensures.end h).0 in
    elim c.if-is_empty.branch [
      | then-is_empty+in-Some+in-Some-name_of w ↦
          absurd (some-values (λ part. w.in-Some-name_of.named.name.now ++ 58 ∷ part) w.in-Some-name_of.named.rest.now
          (sym w.begin.ensures ∙ ap (λ s. s.values) (sym w.self-inside-is) ∙ end))
      | else-is_empty w ↦ absurd (both_ways _ w.if-is_empty.false (c.is_empty.ensures.1 (ap (λ s. s.values) (sym w.self-inside-is) ∙ end)))
    ]

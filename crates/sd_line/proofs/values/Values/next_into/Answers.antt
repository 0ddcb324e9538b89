use Rattle.std.proofs.Common.{◌≡◌, ℕ, List, ◌∷◌, ◌++◌, map, Option, option_map, Result, IfSome, Ok, Err, sym, ap, subst, ◌∙◌}
use Rattle.std.specs.Bool.{⊤}
use Rattle.sd_line.specs.Cut.{parts_in}
use Rattle.sd_line.specs.Piece.{Answers, filled}
use Rattle.sd_line.specs.declared.piece.Bad.{Bad}
use Rattle.sd_line.proofs.PieceLemmas.{value-answers}
use Rattle.sd_line.proofs.values.Values.next_into.Goals as goal
use Rattle.sd_line.proofs.values.Values.next_into.Goals.{in-Ok, in-Err}

pub returns-clause-next : goal.returns-clause-next
returns-clause-next c =
    let name = c.self.inside.name.now in
    let value = c.first_part-part.result.text.now in
    let behind : List (List ℕ) = parts_in 58 (option_map (λ b. b.now) c.first_part-part.result.behind) in
    let before : List ℕ → List ℕ = λ part. name ++ 58 ∷ part in
    let prefix : c.args.self.now ≡ before value ∷ map before behind =
    sym c.self.view_is ∙ ap (λ left. map before (parts_in 58 (option_map (λ b. b.now) left))) c.in_ok-self.was ∙ ap (map before) c.first_part-part.ensures in
    let P : Option (Result ⊤ Bad) → Type 0 = λ answer. IfSome answer (λ a. (x : List ℕ) × (c.args.self.now ≡ x ∷ map before behind) × Answers x (filled c.match-read_value.sample a)) in
    let answered = value-answers name value behind c.in_ok-self.field-0.now in
    elim c.match-read_value.branch [
      | in-Ok w ↦ subst P (sym w.result-is) (before value, prefix, answered (Ok c.match-read_value.sample) c.self.invariant.first c.first_part-part.ensures (w.in-Ok.ensures ∙ ap Ok (sym w.fill.ensures ∙ sym w.sample-is)))
      | in-Err w ↦ subst P (sym w.result-is) (before value, prefix, answered (Err w.in-Err.bad) c.self.invariant.first c.first_part-part.ensures w.in-Err.ensures)
    ]

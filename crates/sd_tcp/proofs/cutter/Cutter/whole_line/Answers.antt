use Rattle.std.proofs.Common.{◌≡◌, [], ◌∷◌, ◌++◌, eqb-true, length, vec_len, sym, ap, subst, ◌∙◌, arith}
use Rattle.std.proofs.lemmas.List.{nil_from_length}
use Rattle.sd_model_stream.specs.Streams.{Line}
use Rattle.sd_tcp.specs.Cutting.{Cutting, CutsOn, nothing_cut}
use Rattle.sd_tcp.proofs.CutLemmas.{CutsOn-whole}
use Rattle.sd_tcp.specs.Held.{line_held}
use Rattle.sd_tcp.proofs.LineLemmas.{both_of}
use Rattle.sd_tcp.proofs.cutter.Cutter.whole_line.Goals as goal

pub returns-clause-cut : goal.returns-clause-cut
returns-clause-cut c =
    let held = c.self.inside in
    let len : vec_len held.line ≡ length held.line.items = omega arith in
    let none : held.line.items ≡ [] = nil_from_length held.line.items (sym len ∙ eqb-true (vec_len held.line) 0 (sym c.is_empty.ensures ∙ c.if-not-is_empty.false)) in
    let nothing : c.args.self.now ≡ nothing_cut =
    sym c.self.view_is
    ∙ (λ i. record { line = (ap (λ b. line_held b held.line.items) c.if-self.false ∙ ap Line none) i; is_ready = (ap (λ (s : Cutting). s.is_ready) c.self.view_is ∙ c.requires) i }) in
    both_of c.short_line.result _ _ _
    (λ line short lacks. subst (λ (s : Cutting). CutsOn (Line line.now ∷ []) (line.now ++ 10 ∷ []) s s) (sym nothing) (CutsOn-whole line.now short lacks))
    c.short_line.ensures.short c.short_line.ensures.lacks

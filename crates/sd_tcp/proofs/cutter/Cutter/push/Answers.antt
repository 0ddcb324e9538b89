use Rattle.std.proofs.Common.{ℕ, true, false, List, [], ◌+◌, length, take, sym, ap, subst, ◌∙◌, arith}
use Rattle.std.proofs.lemmas.List.{length-take-le, take_all}
use Rattle.sd_tcp.specs.Cutting.{Cutting, CutsOn, longer, through_newline}
use Rattle.sd_tcp.proofs.CutLemmas.{CutsOn-line, CutsOn-part, through_none, through_part}
use Rattle.sd_tcp.proofs.LineLemmas.{prefix_ended, has_newline, lacks_newline}
use Rattle.sd_tcp.proofs.cutter.Cutter.push.Goals as goal

pub returns-in-Some-clause-count : goal.returns-in-Some-clause-count
returns-in-Some-clause-count c =
    let bytes = c.args.bytes.now in
    let n = c.in-Some.len in
    let line = c.in-Some.ensures in
    sym (ap through_newline line.2 ∙ through_part (take n bytes) _ (lacks_newline (take n bytes) line.1) ∙ ap (λ (k : ℕ). k + 1) (length-take-le n bytes (omega (arith, line.0))))

pub returns-in-Some-clause-ready : goal.returns-in-Some-clause-ready
returns-in-Some-clause-ready c = ap (λ (s : Cutting). s.is_ready) c.grow.ensures ∙ sym (has_newline c.args.bytes.now _ _ c.in-Some.ensures.2)

pub returns-in-Some-clause-cut : goal.returns-in-Some-clause-cut
returns-in-Some-clause-cut c =
    let bytes = c.args.bytes.now in
    let n = c.in-Some.len in
    let line = c.in-Some.ensures in
    subst (λ (s : Cutting). CutsOn [] (take (n + 1) bytes) c.args.self.now s) (sym c.grow.ensures)
    (subst (λ (bs : List ℕ). CutsOn [] bs c.args.self.now (record { line = longer c.args.self.now.line (take n bytes); is_ready = true })) (sym (prefix_ended bytes n _ line.0 line.2))
    (CutsOn-line c.args.self.now (take n bytes) c.requires (lacks_newline (take n bytes) line.1)))

pub returns-in-None-clause-count : goal.returns-in-None-clause-count
returns-in-None-clause-count c = sym (through_none c.args.bytes.now (lacks_newline c.args.bytes.now c.in-None.ensures))

pub returns-in-None-clause-ready : goal.returns-in-None-clause-ready
returns-in-None-clause-ready c = ap (λ (s : Cutting). s.is_ready) c.grow-in-None.ensures ∙ sym (lacks_newline c.args.bytes.now c.in-None.ensures)

pub returns-in-None-clause-cut : goal.returns-in-None-clause-cut
returns-in-None-clause-cut c =
    let bytes = c.args.bytes.now in
    subst (λ (s : Cutting). CutsOn [] (take (length bytes) bytes) c.args.self.now s) (sym c.grow-in-None.ensures)
    (subst (λ (bs : List ℕ). CutsOn [] bs c.args.self.now (record { line = longer c.args.self.now.line bytes; is_ready = false })) (sym (take_all (length bytes) bytes (omega arith)))
    (CutsOn-part c.args.self.now bytes c.requires (lacks_newline bytes c.in-None.ensures)))

pub returns-in-Some-clause-some : goal.returns-in-Some-clause-some
returns-in-Some-clause-some c some = omega arith

pub returns-in-None-clause-some : goal.returns-in-None-clause-some
returns-in-None-clause-some c some = some

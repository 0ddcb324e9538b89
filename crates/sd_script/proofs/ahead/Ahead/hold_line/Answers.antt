use Rattle.std.proofs.Common.{◌≡◌, [], ◌++◌, inl, inr, arith, length, length-take, subst, ap, ◌∙◌}
use Rattle.std.proofs.lemmas.List.{nil_from_length, append-nil}
use Rattle.sd_script.specs.Fields.{Lacks, IsFirstPlace}
use Rattle.sd_script.specs.Ahead.{held_in}
use Rattle.sd_script.proofs.AheadLemmas.{take-prefix}
use Rattle.sd_script.proofs.ahead.Ahead.hold_line.Goals as goal

pub returns-in-Some-clause-line : goal.returns-in-Some-clause-line
returns-in-Some-clause-line g c =
    let prefix = take-prefix c.bytes-bytes.result.now (held_in c.loop-place.self) 40 c.min.result c.bytes-bytes.ensures c.min.ensures in
    subst (λ xs. IsFirstPlace 10 xs c.in-Some.place) prefix c.in-Some.ensures

pub returns-then-prefix-eq-LINE-clause-line : goal.returns-then-prefix-eq-LINE-clause-line
returns-then-prefix-eq-LINE-clause-line g c =
    let prefix = take-prefix c.bytes-bytes.result.now (held_in c.loop-place.self) 40 c.min.result c.bytes-bytes.ensures c.min.ensures in
    subst (Lacks 10) prefix c.in_default.ensures

pub returns-then-prefix-eq-LINE-clause-end : goal.returns-then-prefix-eq-LINE-clause-end
returns-then-prefix-eq-LINE-clause-end g c =
    let held = held_in c.loop-place.self in
    let prefix = take-prefix c.bytes-bytes.result.now held 40 c.min.result c.bytes-bytes.ensures c.min.ensures in
    inl (omega (arith, ap length prefix, length-take 40 held))

pub returns-then-branch-eq0-clause-line : goal.returns-then-branch-eq0-clause-line
returns-then-branch-eq0-clause-line g c =
    let held = held_in c.loop-place.self in
    let prefix = take-prefix c.bytes-bytes.result.now held 40 c.min.result c.bytes-bytes.ensures c.min.ensures in
    let grown = c.in_ok-read.ensures.grows in
    let none : grown.0 ≡ [] = nil_from_length grown.0 (grown.1 ∙ c.if-branch-eq0.true) in
    let same : held_in c.read.new.self ≡ held = grown.2 ∙ ap (λ more. held ++ more) none ∙ append-nil held in
    rw same (subst (Lacks 10) prefix c.in_default.ensures)

pub returns-then-branch-eq0-clause-end : goal.returns-then-branch-eq0-clause-end
returns-then-branch-eq0-clause-end g c = inr (c.in_ok-read.ensures.end c.if-branch-eq0.true)

use Rattle.std.proofs.Common.{◌≢◌, ◌+◌, take, length, subst, sym, ap, arith, length-take}
use Rattle.std.proofs.lemmas.Result.{err_from_is_err_and}
use Rattle.sd_model_replay.specs.Script as model
use Rattle.sd_model_replay.specs.Script.{head_line, IsForm}
use Rattle.sd_script.specs.Ahead.{held_in}
use Rattle.sd_script.specs.Flaws.{flaw_of}
use Rattle.sd_script.specs.Head.{body_view}
use Rattle.sd_script.proofs.PrefixLemmas.{Line-of, line_of, word_flaw, line_grown, body_undecided, flaw_of_body}
use Rattle.sd_script.proofs.record.next_record.Goals as goal

pub slice_bounds-parse_line-end : goal.slice_bounds-parse_line-end
slice_bounds-parse_line-end g c =
    let line = Line-of (held_in c.hold_line.new.self) _ c.in-Some.end _ c.in-Some.is c.in_ok-end.ensures.line in
    omega (arith, line.inside, ap length c.bytes-2.ensures, length-take c.in-Some.end c.bytes-2.result.now)

pub returns-in_default-parse_line-clause-prefix : goal.returns-in_default-parse_line-clause-prefix
returns-in_default-parse_line-clause-prefix g c =
    let held = held_in c.hold_line.new.self in
    word_flaw c.args.receivers held (g.R.Faulty.seen c.hold_line.new.script).content c.in-Some.end (Line-of held _ c.in-Some.end _ c.in-Some.is c.in_ok-end.ensures.line)
    (subst (λ xs. (head : model.Head) → IsForm c.args.receivers head → take c.in-Some.end xs ≢ head_line head) c.bytes-2.ensures c.in_default-parse_line.ensures.other)

pub overflow_add-line : goal.overflow_add-line
overflow_add-line g c =
    let line = Line-of (held_in c.hold_line.new.self) _ c.in-Some.end _ c.in-Some.is c.in_ok-end.ensures.line in
    omega (arith, line.short)

pub returns-in_default-body-clause-prefix : goal.returns-in_default-body-clause-prefix
returns-in_default-body-clause-prefix g c =
    let held = held_in c.hold_line.new.self in
    let prefix = line_of c.args.receivers held c.bytes-2.result.now _ c.in-Some.end _ c.in-Some-parse_line.head c.in-Some.is c.in_ok-end.ensures.line c.bytes-2.ensures c.in-Some-parse_line.ensures.head in
    record { prefix = prefix; body = rw (sym c.in_default-body.ensures.body) tt }

pub body_flaw-requires-clause-line : goal.body_flaw-requires-clause-line
body_flaw-requires-clause-line g c =
    let line = Line-of (held_in c.hold_line.new.self) _ c.in-Some.end _ c.in-Some.is c.in_ok-end.ensures.line in
    omega (arith, line.short)

pub body_flaw-requires-clause-inside : goal.body_flaw-requires-clause-inside
body_flaw-requires-clause-inside g c =
    let line = Line-of (held_in c.hold_line.new.self) _ c.in-Some.end _ c.in-Some.is c.in_ok-end.ensures.line in
    omega (arith, line.inside)

pub returns-in_err-flaw-clause-asked : goal.returns-in_err-flaw-clause-asked
returns-in_err-flaw-clause-asked g c =
    let held = held_in c.hold_line.new.self in
    let new = held_in c.body_flaw.new.ahead in
    let head = c.in-Some-parse_line.head in
    let prefix = line_of c.args.receivers held c.bytes-2.result.now _ c.in-Some.end _ head c.in-Some.is c.in_ok-end.ensures.line c.bytes-2.ensures c.in-Some-parse_line.ensures.head in
    let grown = line_grown c.args.receivers head (c.in-Some.end + 1) held new prefix c.in_err-flaw.ensures.grows in
    let failed = err_from_is_err_and c.from_residual-in_err-flaw.result c.from_residual-in_err-flaw.ensures.1 in
    rw failed.1
    (body_undecided c.args.receivers head (c.in-Some.end + 1) new (body_view c.in-Some-body.body) grown (sym c.in-Some-body.ensures.body) c.in_err-flaw.ensures.asked)

pub returns-in-Some-2-clause-prefix : goal.returns-in-Some-2-clause-prefix
returns-in-Some-2-clause-prefix g c =
    let held = held_in c.hold_line.new.self in
    let new = held_in c.body_flaw.new.ahead in
    let head = c.in-Some-parse_line.head in
    let prefix = line_of c.args.receivers held c.bytes-2.result.now _ c.in-Some.end _ head c.in-Some.is c.in_ok-end.ensures.line c.bytes-2.ensures c.in-Some-parse_line.ensures.head in
    let grown = line_grown c.args.receivers head (c.in-Some.end + 1) held new prefix c.in_ok-flaw.ensures.grows in
    flaw_of_body c.args.receivers head (c.in-Some.end + 1) new (body_view c.in-Some-body.body) grown (sym c.in-Some-body.ensures.body) (g.R.Faulty.seen c.body_flaw.new.script).content (flaw_of c.in-Some-2.flaw)
    (rw c.in-Some-2.is at c.in_ok-flaw.ensures.flaw)

pub returns-in-None-clause-prefix : goal.returns-in-None-clause-prefix
returns-in-None-clause-prefix g c =
    let held = held_in c.hold_line.new.self in
    let new = held_in c.body_flaw.new.ahead in
    let head = c.in-Some-parse_line.head in
    let prefix = line_of c.args.receivers held c.bytes-2.result.now _ c.in-Some.end _ head c.in-Some.is c.in_ok-end.ensures.line c.bytes-2.ensures c.in-Some-parse_line.ensures.head in
    record {
      prefix = line_grown c.args.receivers head (c.in-Some.end + 1) held new prefix c.in_ok-flaw.ensures.grows;
      body = rw (sym c.in-Some-body.ensures.body) (rw c.in-None.is at c.in_ok-flaw.ensures.flaw);
    }

use Rattle.std.proofs.Common.{Bool, cond, List, [], sym, ap, subst, append-nil, arith}
use Rattle.sd_model_record.specs.DeskHistory.{DeskCall}
use Rattle.sd_model_outside.specs.Outside.{Object}
use Rattle.sd_model_record.specs.Totals.{Among, IsKeeperCall}
use Rattle.sd_shared_desk.specs.Counts.{Part, HasCalled, HasCounted, of_sessions, plus}
use Rattle.sd_shared_desk.proofs.CountLemmas.{counted_next, counted_none}
use Rattle.sd_shared_desk.specs.Shared.{part_of}
use Rattle.sd_shared.proofs.DoorLemmas.{called_behind, called_fault, called_not, called_so, none_counted}
use Rattle.sd_shared.proofs.KeepLemmas.{HasKept-none, HasKept-failed, HasKept-one}
use Rattle.sd_shared.proofs.door_keeper.serve_next.Goals as goal
use Rattle.sd_desk.specs.Sums.{Amounts}

pub returns-in-Idle-clause-kept : goal.returns-in-Idle-clause-kept
returns-in-Idle-clause-kept g c =
    let is = c.in-Idle.ensures in
    HasKept-none (g.V.Visitor.has_visited (g.C.Clock.may_say c.args.shared.now.clock.now) c.args.shared.now.pool.now) c.args.visitor.now _ _ _ _ c.requires.none_out (ap (λ (o : Object). o.content) is) (ap (λ (o : Object). o.opened_at) is) (ap (λ (o : Object). o.is_out) is) (ap (λ (o : Object). o.faults) is) (let turns = ap (λ (o : Object). o.turns) is in omega (arith, turns, c.requires.few)) (counted_none _) (called_not _)

pub returns-in-End-clause-kept : goal.returns-in-End-clause-kept
returns-in-End-clause-kept g c =
    let is = c.in-End.ensures.0 in
    HasKept-none (g.V.Visitor.has_visited (g.C.Clock.may_say c.args.shared.now.clock.now) c.args.shared.now.pool.now) c.args.visitor.now _ _ _ _ c.requires.none_out (ap (λ (o : Object). o.content) is) (ap (λ (o : Object). o.opened_at) is) (ap (λ (o : Object). o.is_out) is) (ap (λ (o : Object). o.faults) is) (let turns = ap (λ (o : Object). o.turns) is in omega (arith, turns, c.requires.few)) (counted_none _) (called_not _)

pub returns-in-Failed-clause-kept : goal.returns-in-Failed-clause-kept
returns-in-Failed-clause-kept g c = HasKept-failed (g.V.Visitor.has_visited (g.C.Clock.may_say c.args.shared.now.clock.now) c.args.shared.now.pool.now) c.args.visitor.now _ _ _ _ c.requires.none_out c.requires.few c.in-Failed.ensures c.admin_fault-in-Failed.ensures.counted (called_fault _ _ c.admin_fault-in-Failed.ensures.calls.own)

-- a visit that is a fault, or isn't
abbrev fault_counted : Amounts → Part → Part → Bool → Type 0
fault_counted amounts part part_now is_fault = HasCounted (plus amounts (of_sessions (cond is_fault 1 0))) part part_now

pub returns-then-is_fault-clause-kept : goal.returns-then-is_fault-clause-kept
returns-then-is_fault-clause-kept g c =
    let counts = c.visit-is_fault.ensures.visited in
    HasKept-one (g.V.Visitor.has_visited (g.C.Clock.may_say c.args.shared.now.clock.now) c.args.shared.now.pool.now) _ c.args.visitor.now c.visit-is_fault.new.self _ _ _ _ _ counts.amounts counts.calls c.requires.few c.in-Session.ensures c.leave.ensures counts.holds c.visit-is_fault.ensures.cause
    (subst (fault_counted counts.amounts _ _) (sym c.if-is_fault.true) (counted_next counts.amounts (of_sessions 1) _ _ _ counts.counted c.admin_fault.ensures.counted))
    (subst (λ (l : List DeskCall). HasCalled (Among IsKeeperCall l) (part_of c.args.own.now) (part_of c.admin_fault.new.own)) (append-nil counts.calls)
    (called_behind counts.calls [] (part_of c.args.own.now) (part_of c.visit-is_fault.new.own) (part_of c.admin_fault.new.own) (called_so counts.calls (part_of c.args.own.now) (part_of c.visit-is_fault.new.own) counts.made)
    (called_fault (part_of c.visit-is_fault.new.own) (part_of c.admin_fault.new.own) c.admin_fault.ensures.calls.own)))

pub returns-else-is_fault-clause-kept : goal.returns-else-is_fault-clause-kept
returns-else-is_fault-clause-kept g c =
    let counts = c.visit-is_fault.ensures.visited in
    HasKept-one (g.V.Visitor.has_visited (g.C.Clock.may_say c.args.shared.now.clock.now) c.args.shared.now.pool.now) _ c.args.visitor.now c.visit-is_fault.new.self _ _ _ _ _ counts.amounts counts.calls c.requires.few c.in-Session.ensures c.leave.ensures counts.holds c.visit-is_fault.ensures.cause
    (subst (fault_counted counts.amounts _ _) (sym c.if-is_fault.false) (none_counted counts.amounts _ _ counts.counted))
    (called_so counts.calls (part_of c.args.own.now) (part_of c.visit-is_fault.new.own) counts.made)

use Rattle.std.proofs.Common.{arith}
use Rattle.sd_memory.proofs.DoorLemmas.{first_removed, first_fresh, gives_first}
use Rattle.sd_memory.proofs.mem_door.MemDoorDoor.next_session.Goals as goal

pub returns-clause-answer : goal.returns-clause-answer
returns-clause-answer c =
    let d = c.args.self.now.content in
    let removed = c.remove-asking.ensures in
    let first = first_removed d.left.items _ c.remove-asking.result (omega (arith, removed.len)) removed.value removed.items in
    let fresh = first_fresh d.left.items c.remove-asking.result d.fresh (omega (arith, removed.len)) removed.value in
    gives_first d.left.items _ _ _ _ d.turns _ _ d.is_out first fresh c.saturating_add-self-2.ensures

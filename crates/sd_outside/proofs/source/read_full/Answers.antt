use Rattle.std.proofs.Common.{ℕ, ◌-◌, List, length, take, drop, arith, sym, subst, length-take}
use Rattle.std.proofs.lemmas.List.{length-drop}
use Rattle.sd_model_outside.specs.Outside.{HasRead}
use Rattle.sd_outside.proofs.ReadLemmas.{take-filled, reads_on, length-filled}
use Rattle.sd_outside.proofs.source.read_full.Goals as goal

pub loop-len-preserved : goal.loop-len-preserved
loop-len-preserved g c =
    let buf = c.loop-len.buf in
    let len = c.loop-len.len in
    let count = c.in_ok-count.count in
    let new = c.read.new.buf in
    let before = c.loop-len.invariant in
    let filled = take-filled buf new _ len count before.within c.in_ok-count.ensures.within in
    let size = length-filled buf new len before.within c.read.auto.buf in
    let rest = length-drop len buf in
    let lent = length-take (length buf - len) (drop len buf) in
    record {
      within = omega (arith, size, before.within, c.in_ok-count.ensures.within, c.read.auto.buf, rest, lent);
      read = subst (λ (bytes : List ℕ). HasRead bytes (g.R.Faulty.seen c.args.source.now) (g.R.Faulty.seen c.read.new.self)) (sym filled) (reads_on (take len buf) (take count new) _ _ _ before.read c.in_ok-count.ensures.next);
    }

use Rattle.std.proofs.Common.{arith, length, drop, ℕ, List, min, ap, ◌≡◌, ◌∙◌, length-append, length-take-le}
use Rattle.std.proofs.lemmas.List.{take_rest, drop_at}
use Rattle.sd_model_outside.specs.Outside.{Left, last_count, object_of}
use Rattle.sd_outside.specs.Places.{last_place}
use Rattle.sd_outside.proofs.ReadLemmas.{take-copied}
use Rattle.sd_memory.proofs.mem_source.MemSourceSource.read.Goals as goal

pub returns-clause-gives : goal.returns-clause-gives
returns-clause-gives c =
    let s = c.args.self.now in
    let n = c.min-count.result in
    let rest = drop n c.args.buf.now in
    let is = rw (c.deref-2.ensures.value, take_rest) at c.copy_from_slice.ensures.after in
    let fits : length c.copy_from_slice.new.self ≡ n = c.copy_from_slice.ensures.len ∙ length-take-le n c.args.buf.now (omega arith) in
    let count = rw (c.deref-2.ensures.value, take_rest) at c.min.ensures in
    record {
      count = omega (arith, count, c.min-count.ensures);
      within = omega (arith, length-append c.copy_from_slice.new.self rest);
      content = ap (λ (bytes : List ℕ). object_of (Left bytes) (min s.faults last_count) (last_place s.opened_at)) (take-copied s.content.bytes.items rest _ s.content.taken n is fits);
      rest = drop_at _ rest n fits;
    }

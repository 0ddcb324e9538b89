use Rattle.std.proofs.Common.{◌∙◌, ◌≡◌, ◌++◌, ◌+◌, ap, sym, arith, length, drop, take, List, ℕ, append_assoc, length-append, length-take-le, []}
use Rattle.std.specs.Prelude.{Option}
use Rattle.std.proofs.lemmas.List.{take_rest, drop_at, nil_from_length}
use Rattle.sd_model_outside.specs.Outside.{Left, Place, HasRead, object_of}
use Rattle.sd_outside.specs.Places.{last_place}
use Rattle.sd_outside.proofs.ReadLemmas.{take-copied}
use Rattle.sd_script.specs.Texts.{text_from}
use Rattle.sd_script.specs.Drill.{at_hand, left_of}
use Rattle.sd_script.proofs.drill.DrillSource.read.Goals as goal

-- a source that never failed, of whose bytes some were read
has_read : (left bytes rest : List ℕ) (old new : Option Place) → left ≡ bytes ++ rest → new ≡ old → HasRead bytes (object_of (Left left) 0 old) (object_of (Left rest) 0 new)
has_read left bytes rest old new is at = cc

pub returns : goal.returns
returns c =
    let d = c.refill.new.self in
    let n = c.min-count.result in
    let copied = c.copy_from_slice.new.self in
    let rest = drop n c.args.buf.now in
    let behind = text_from d.packets d.next in
    let bytes = take n (copied ++ rest) in
    let left = drop (d.given + n) d.text.items in
    let is = rw (c.deref.ensures.0, take_rest) at c.copy_from_slice.ensures.after in
    let fits : length copied ≡ n = c.copy_from_slice.ensures.len ∙ length-take-le n c.args.buf.now (omega arith) in
    let count = rw (c.deref.ensures.0, take_rest) at c.min-count.ensures in
    let split : at_hand d ≡ bytes ++ left = take-copied d.text.items rest _ d.given n is fits in
    let read : left_of c.args.self.now ≡ bytes ++ (left ++ behind) =
    sym c.refill.ensures.left ∙ ap (λ xs. xs ++ behind) split ∙ append_assoc bytes left behind in
    let none : n ≡ 0 → at_hand d ≡ [] = λ (zero : n ≡ 0). nil_from_length (at_hand d) (omega (arith, count)) in
    record {
      within = omega (arith, length-append copied rest);
      content = has_read _ bytes (left ++ behind) _ _ read (ap last_place c.refill.ensures.opened_at);
      end = λ zero. sym c.refill.ensures.left ∙ c.refill.ensures.end (none zero);
      rest = drop_at _ rest n fits;
    }

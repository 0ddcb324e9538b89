use Rattle.std.proofs.Common.{◌≡◌, ℕ, eqb-true, length, List, [], ◌++◌, take, drop, refl, sym, ap, ◌∙◌, append-nil, append_assoc, arith}
use Rattle.std.proofs.lemmas.List.{nil_from_length, take-append-drop, take_rest}
use Rattle.sd_receive.proofs.LineLemmas.{ReadsBytes-none, ReadsBytes-next, TakesBytes-whole}
use Rattle.sd_batch.specs.Batch.{Waiting}
use Rattle.sd_receive.proofs.lines.take_bytes.Goals as goal

pub loop-rest-init : goal.loop-rest-init
loop-rest-init g c = record {
  seat = c.requires.seat;
  who = refl;
  none_ready = c.requires.none_ready;
  batch = refl;
  room = let none = ap length c.requires.batch.none in let some = c.requires.batch.room in omega (arith, none, some);
  prefix = [];
  cut = refl;
  takes = rw (c.none-account.ensures.tally, c.none-account.ensures.taken) (ReadsBytes-none _ _ _);
}

pub loop-rest-preserved : goal.loop-rest-preserved
loop-rest-preserved g c =
    let inv = c.loop-rest.invariant in
    let line = c.take_line-taken.ensures in
    let rest = c.loop-rest.rest.now in
    let n = c.take_line-taken.result.len in
    record {
      seat = line.seat.0;
      who = line.seat.1 ∙ inv.who;
      none_ready = line.none_ready;
      batch = line.batch ∙ ap (λ (w : Waiting). record w { items = c.take_line-taken.new.batch.items }) inv.batch;
      room = line.room;
      prefix = inv.prefix ++ take n rest;
      cut = inv.cut ∙ ap (λ (bytes : List ℕ). inv.prefix ++ bytes) (sym (take-append-drop n rest)) ∙ sym (append_assoc inv.prefix (take n rest) (drop n rest)) ∙ ap (λ (bytes : List ℕ). (inv.prefix ++ take n rest) ++ bytes) (sym (take_rest rest n));
      takes = rw (c.and-account.ensures.tally, c.and-account.ensures.taken) (ReadsBytes-next _ _ _ _ _ _ _ _ _ _ _ _ _ _ _ inv.takes line.takes);
    }

pub returns-clause-takes : goal.returns-clause-takes
returns-clause-takes g c =
    let inv = c.loop-rest.invariant in
    let rest = c.loop-rest.rest.now in
    let none : rest ≡ [] = nil_from_length rest (eqb-true (length rest) 0 (sym c.is_empty.ensures ∙ c.loop-rest-test.false)) in
    rw (c.and.ensures.tally, c.and.ensures.taken) (TakesBytes-whole _ _ _ _ _ _ _ _ _ _ _ _ _ (inv.cut ∙ ap (λ (bytes : List ℕ). inv.prefix ++ bytes) none ∙ append-nil inv.prefix) c.requires.batch.none inv.takes c.submit_rest.ensures.files)

use Rattle.std.proofs.Common.{◌≡◌, ℕ, ◌+◌, ◌<◌, ◌^◌, List, length, get_or, set, Option, Some, None, arith, rules, refl, sym, ap, subst, ◌∙◌}
use Rattle.std.proofs.lemmas.Grind.{common_steps}
use Rattle.std.proofs.lemmas.List.{length-set, length-map, get_or_read}
use Rattle.sd_rows.specs.Hash.{hash_of}
use Rattle.sd_rows.specs.Index.{taken_count, hash_in, hashes_in}
use Rattle.sd_rows.specs.Heads.{no_head, row_with, rows_with, AreHashed}
use Rattle.sd_rows.specs.Ranking.{IsDivided}
use Rattle.sd_rows.specs.Rows.{IsAbsent, AreApart, Holds}
use Rattle.sd_rows.specs.RowsInside.{rows_in}
use Rattle.sd_rows.specs.declared.row.Row.{Row}
use Rattle.sd_rows.proofs.HeadLemmas.{seen_row, seen_used, length-rows_with, rows_with-both, rows-both, tallies-head}
use Rattle.sd_rows.proofs.IndexLemmas.{taken_count-lt, taken_count-set}
use Rattle.sd_rows.proofs.RowsLemmas.{fill_hashed, fill_apart}
use Rattle.sd_rows.proofs.RankingLemmas.{fill_divided}
use Rattle.sd_rows.proofs.rows.Rows.fill.Goals as goal

abbrev keyed : Row → List ℕ → Option Row
keyed row key = Some (record row { key = key })

pub insert-requires-clause-within : goal.insert-requires-clause-within
insert-requires-clause-within c =
    omega (arith, c.requires.within, seen_used c.self.inside c.args.self.now c.self.view_is, c.self.invariant.spots_len)

pub insert-requires-clause-empty : goal.insert-requires-clause-empty
insert-requires-clause-empty c =
    let x = c.self.inside in
    let empty : get_or (rows_in x) c.args.place None ≡ None = sym (seen_row x c.args.self.now c.self.view_is c.args.place) ∙ c.requires.empty in
    c.self.invariant.hashed c.args.place ∙ rw empty refl

pub index_mut-requires : goal.index_mut-requires
index_mut-requires c =
    grind (arith, common_steps, c.requires.within, seen_used c.self.inside c.args.self.now c.self.view_is)

pub index_mut-requires-2 : goal.index_mut-requires-2
index_mut-requires-2 c =
    grind (arith, common_steps, c.requires.within, seen_used c.self.inside c.args.self.now c.self.view_is, c.self.invariant.keys_len)

pub exchange-requires-clause-within : goal.exchange-requires-clause-within
exchange-requires-clause-within c =
    let x = c.self.inside in
    let w = c.self.invariant in
    omega (arith, c.requires.within, seen_used x c.args.self.now c.self.view_is, w.ranking.len, w.divided.len, length-rows_with x.heads.items x.keys.items)

pub exchange-requires-clause-to : goal.exchange-requires-clause-to
exchange-requires-clause-to c =
    let x = c.self.inside in
    let w = c.self.invariant in
    let lr = length-rows_with x.heads.items x.keys.items in
    let within : c.args.place < length (rows_in x) = omega (arith, c.requires.within, seen_used x c.args.self.now c.self.view_is, lr) in
    let empty : get_or (rows_in x) c.args.place None ≡ None = sym (seen_row x c.args.self.now c.self.view_is c.args.place) ∙ c.requires.empty in
    omega (arith, taken_count-lt (rows_in x) c.args.place within empty, w.live, w.ranking.len, w.divided.len)

pub overflow_add-self : goal.overflow_add-self
overflow_add-self c =
    let x = c.self.inside in
    let w = c.self.invariant in
    let lr = length-rows_with x.heads.items x.keys.items in
    let within : c.args.place < length (rows_in x) = omega (arith, c.requires.within, seen_used x c.args.self.now c.self.view_is, lr) in
    let empty : get_or (rows_in x) c.args.place None ≡ None = sym (seen_row x c.args.self.now c.self.view_is c.args.place) ∙ c.requires.empty in
    let few : x.live + 1 < 2 ^ 32 = omega (arith, taken_count-lt (rows_in x) c.args.place within empty, w.live, lr, w.within, w.small) in
    search (rules, few)

pub invariant_of-self : goal.invariant_of-self
invariant_of-self c =
    let x = c.self.inside in
    let w = c.self.invariant in
    let at = c.args.place in
    let row : Row = record { kind = c.args.kind; key = c.args.key.now; base = c.args.base; swaps = c.args.swaps } in
    let head = c.begin.new.self in
    let key = c.clone_from.new.self in
    let lr = length-rows_with x.heads.items x.keys.items in
    let used : at < length x.heads.items = omega (arith, c.requires.within, seen_used x c.args.self.now c.self.view_is) in
    let within : at < length (rows_in x) = omega (arith, used, lr) in
    let empty : get_or (rows_in x) at None ≡ None = sym (seen_row x c.args.self.now c.self.view_is at) ∙ c.requires.empty in
    let absent : IsAbsent row.kind row.key (rows_in x) = λ p h. c.requires.absent p (subst (Holds row.kind row.key) (sym (seen_row x c.args.self.now c.self.view_is p)) h) in
    let is : row_with head key ≡ Some row = c.begin.ensures.row key ∙ ap (keyed row) c.clone_from.ensures in
    let rows : rows_with (set x.heads.items at head) (set x.keys.items at key) ≡ set (rows_in x) at (Some row) =
    rows_with-both x.heads.items x.keys.items at head key w.keys_len used ∙ ap (set (rows_in x) at) is in
    let hashes : hashes_in c.insert.new.self.spots.items ≡ set (hashes_in x.index.spots.items) at (Some (hash_of x.seed row.kind row.key)) =
    c.insert.ensures.hashes ∙ ap (λ h. set (hashes_in x.index.spots.items) at (Some h)) c.hash_of.ensures in
    let lh = length-set x.heads.items at head in
    let lk = length-set x.keys.items at key in
    let ls : length (hashes_in c.insert.new.self.spots.items) ≡ length (hashes_in x.index.spots.items) = ap length c.insert.ensures.hashes ∙ length-set (hashes_in x.index.spots.items) at (Some c.hash_of.result) in
    let l1 = length-map c.insert.new.self.spots.items hash_in in
    let l2 = length-map x.index.spots.items hash_in in record {
      index = c.insert.ensures.index;
      homes = c.insert.ensures.homes ∙ w.homes;
      small = w.small;
      spots_len = omega (arith, lh, ls, l1, l2, w.spots_len);
      keys_len = omega (arith, lh, lk, w.keys_len);
      within = omega (arith, lh, w.within);
      hashed = subst (λ h. AreHashed x.seed h (rows_with (set x.heads.items at head) (set x.keys.items at key))) (sym hashes)
          (subst (AreHashed x.seed (set (hashes_in x.index.spots.items) at (Some (hash_of x.seed row.kind row.key)))) (sym rows)
          (fill_hashed x.seed (hashes_in x.index.spots.items) (rows_in x) at row w.hashed (omega (arith, lr, l2, w.spots_len)) within));
      apart = subst AreApart (sym rows) (fill_apart (rows_in x) at row w.apart absent within);
      live = omega (arith, w.live, taken_count-set (rows_in x) at row within empty, ap taken_count rows);
      ranking = c.exchange.ensures.ranking;
      divided = subst (λ rs. IsDivided c.exchange.new.self.rank.items rs (x.live + 1)) (sym rows)
          (fill_divided x.ranking.order.items x.ranking.rank.items c.exchange.new.self.rank.items (rows_in x) x.live at row w.ranking w.divided within empty c.exchange.ensures.exchanged);
      head_room = w.head_room;
      key_room = w.key_room;
      spot_room = omega (arith, w.spot_room, c.insert.ensures.capacity);
      order_room = omega (arith, w.order_room, c.exchange.ensures.order_capacity);
      rank_room = omega (arith, w.rank_room, c.exchange.ensures.rank_capacity);
    }

pub returns-clause-rows : goal.returns-clause-rows
returns-clause-rows c =
    let x = c.self.inside in
    let at = c.args.place in
    let row : Row = record { kind = c.args.kind; key = c.args.key.now; base = c.args.base; swaps = c.args.swaps } in
    let is : row_with c.begin.new.self c.clone_from.new.self ≡ Some row =
    c.begin.ensures.row c.clone_from.new.self ∙ ap (keyed row) c.clone_from.ensures in
    let used : at < length x.heads.items = omega (arith, c.requires.within, seen_used x c.args.self.now c.self.view_is) in
    rows-both x.room x.heads.items x.keys.items c.args.self.now.rows at c.begin.new.self c.clone_from.new.self (ap (λ u. u.rows) c.self.view_is) c.self.invariant.keys_len used
    ∙ ap (set c.args.self.now.rows at) is

pub returns-clause-tallies : goal.returns-clause-tallies
returns-clause-tallies c =
    let x = c.self.inside in
    let used : c.args.place < length x.heads.items = omega (arith, c.requires.within, seen_used x c.args.self.now c.self.view_is) in
    tallies-head x.room x.heads.items c.args.self.now.tallies c.args.place c.begin.new.self (ap (λ u. u.tallies) c.self.view_is)
    (c.begin.ensures.tally ∙ ap (λ h. h.tally) (get_or_read x.heads.items c.args.place c.index_mut.result.now used c.index_mut.ensures.value no_head))

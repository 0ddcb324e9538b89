use Rattle.std.proofs.Common.{◌≡◌, ◌+◌, ◌-◌, ◌<◌, [], length, get_or, set, None, arith, subst, sym, ap, ◌∙◌}
use Rattle.std.proofs.lemmas.Grind.{common_steps}
use Rattle.std.proofs.lemmas.List.{length-set, length-map, get_or_read}
use Rattle.sd_rows.specs.Index.{taken_count, hash_in, hashes_in}
use Rattle.sd_rows.specs.Heads.{no_head, rows_with, AreHashed}
use Rattle.sd_rows.specs.Ranking.{IsDivided}
use Rattle.sd_rows.specs.Rows.{AreApart}
use Rattle.sd_rows.specs.RowsInside.{rows_in}
use Rattle.sd_rows.proofs.HeadLemmas.{live_inside, live_used, length-rows_with, rows_with-head, rows-head, tallies-head}
use Rattle.sd_rows.proofs.IndexLemmas.{taken_count-le, taken_count-unset}
use Rattle.sd_rows.proofs.RowsLemmas.{empty_hashed, empty_apart, hashed_live}
use Rattle.sd_rows.proofs.RankingLemmas.{empty_divided}
use Rattle.sd_rows.proofs.rows.Rows.remove.Goals as goal

pub remove-requires-clause-live : goal.remove-requires-clause-live
remove-requires-clause-live c =
    let x = c.self.inside in
    hashed_live x.seed (hashes_in x.index.spots.items) (rows_in x) c.args.at c.self.invariant.hashed (live_inside x c.args.self.now c.self.view_is c.args.at c.requires.live)

pub index_mut-requires : goal.index_mut-requires
index_mut-requires c =
    grind (arith, common_steps, live_used c.self.inside c.args.self.now c.self.view_is c.args.at c.requires.live)

pub overflow_sub-self : goal.overflow_sub-self
overflow_sub-self c =
    let x = c.self.inside in
    let live = live_inside x c.args.self.now c.self.view_is c.args.at c.requires.live in
    omega (arith, c.self.invariant.live, taken_count-unset (rows_in x) c.args.at live)

pub exchange-requires-clause-within : goal.exchange-requires-clause-within
exchange-requires-clause-within c =
    let x = c.self.inside in
    let w = c.self.invariant in
    omega (arith, live_used x c.args.self.now c.self.view_is c.args.at c.requires.live, w.divided.len, w.ranking.len, length-rows_with x.heads.items x.keys.items)

pub exchange-requires-clause-to : goal.exchange-requires-clause-to
exchange-requires-clause-to c =
    let x = c.self.inside in
    let w = c.self.invariant in
    omega (arith, w.live, taken_count-le (rows_in x), live_used x c.args.self.now c.self.view_is c.args.at c.requires.live, w.divided.len, w.ranking.len, length-rows_with x.heads.items x.keys.items)

pub invariant_of-self : goal.invariant_of-self
invariant_of-self c =
    let x = c.self.inside in
    let w = c.self.invariant in
    let at = c.args.at in
    let head = c.end.new.self in
    let live = live_inside x c.args.self.now c.self.view_is at c.requires.live in
    let used = live_used x c.args.self.now c.self.view_is at c.requires.live in
    let lr = length-rows_with x.heads.items x.keys.items in
    let within : at < length (rows_in x) = omega (arith, used, lr) in
    let rows : rows_with (set x.heads.items at head) x.keys.items ≡ set (rows_in x) at None =
    rows_with-head x.heads.items x.keys.items at head ∙ ap (set (rows_in x) at) (c.end.ensures.row (get_or x.keys.items at [])) in
    let down : x.live ≡ (x.live - 1) + 1 = omega (arith, w.live, taken_count-unset (rows_in x) at live) in
    let lh = length-set x.heads.items at head in
    let ls : length (hashes_in c.remove.new.self.spots.items) ≡ length (hashes_in x.index.spots.items) = ap length c.remove.ensures.hashes ∙ length-set (hashes_in x.index.spots.items) at None in
    let l1 = length-map c.remove.new.self.spots.items hash_in in
    let l2 = length-map x.index.spots.items hash_in in record {
      index = c.remove.ensures.index;
      homes = c.remove.ensures.homes ∙ w.homes;
      small = w.small;
      spots_len = omega (arith, lh, ls, l1, l2, w.spots_len);
      keys_len = omega (arith, lh, w.keys_len);
      within = omega (arith, lh, w.within);
      hashed = subst (λ h. AreHashed x.seed h (rows_with (set x.heads.items at head) x.keys.items)) (sym c.remove.ensures.hashes)
          (subst (AreHashed x.seed (set (hashes_in x.index.spots.items) at None)) (sym rows)
          (empty_hashed x.seed (hashes_in x.index.spots.items) (rows_in x) at w.hashed (omega (arith, lr, l2, w.spots_len)) within));
      apart = subst AreApart (sym rows) (empty_apart (rows_in x) at w.apart within);
      live = omega (arith, w.live, taken_count-unset (rows_in x) at live, ap taken_count rows);
      ranking = c.exchange.ensures.ranking;
      divided = subst (λ rs. IsDivided c.exchange.new.self.rank.items rs (x.live - 1)) (sym rows)
          (empty_divided x.ranking.order.items x.ranking.rank.items c.exchange.new.self.rank.items (rows_in x) (x.live - 1) at w.ranking
          (subst (λ n. IsDivided x.ranking.rank.items (rows_in x) n) down w.divided) within live c.exchange.ensures.exchanged);
      head_room = w.head_room;
      key_room = w.key_room;
      spot_room = omega (arith, w.spot_room, c.remove.ensures.capacity);
      order_room = omega (arith, w.order_room, c.exchange.ensures.order_capacity);
      rank_room = omega (arith, w.rank_room, c.exchange.ensures.rank_capacity);
    }

pub returns-clause-rows : goal.returns-clause-rows
returns-clause-rows c =
    let x = c.self.inside in
    rows-head x.room x.heads.items x.keys.items c.args.self.now.rows c.args.at c.end.new.self (ap (λ u. u.rows) c.self.view_is) (live_used x c.args.self.now c.self.view_is c.args.at c.requires.live)
    ∙ ap (set c.args.self.now.rows c.args.at) (c.end.ensures.row (get_or x.keys.items c.args.at []))

pub returns-clause-tallies : goal.returns-clause-tallies
returns-clause-tallies c =
    let x = c.self.inside in
    tallies-head x.room x.heads.items c.args.self.now.tallies c.args.at c.end.new.self (ap (λ u. u.tallies) c.self.view_is)
    (c.end.ensures.tally ∙ ap (λ h. h.tally) (get_or_read x.heads.items c.args.at c.index_mut.result.now (live_used x c.args.self.now c.self.view_is c.args.at c.requires.live) c.index_mut.ensures.value no_head))

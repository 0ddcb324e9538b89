use Rattle.std.proofs.Common.{◌≡◌, ◌+◌, ◌<◌, ◌≤◌, [], ◌∷◌, ◌++◌, length, None, sym, ap, subst, ◌∙◌, arith}
use Rattle.std.proofs.lemmas.Grind.{common_steps}
use Rattle.std.proofs.lemmas.List.{length-map}
use Rattle.sd_rows.specs.Index.{taken_count, hash_in, hashes_in}
use Rattle.sd_rows.specs.Ranking.{IsDivided}
use Rattle.sd_rows.specs.Rows.{AreApart, no_tally}
use Rattle.sd_rows.specs.RowsInside.{rows_in}
use Rattle.sd_rows.specs.Heads.{no_head, rows_with, tallies_in, padded, AreHashed}
use Rattle.sd_rows.proofs.HeadLemmas.{seen_len, seen_used, length-rows_with, rows_with-push, rows-push, tallies-push}
use Rattle.sd_rows.proofs.IndexLemmas.{length-pushed, taken_count-append, taken_count-le}
use Rattle.sd_rows.proofs.RankingLemmas.{push_divided}
use Rattle.sd_rows.proofs.RowsLemmas.{push_hashed, push_apart}
use Rattle.sd_rows.proofs.rows.Rows.push.Goals as goal

pub push_reserved-requires : goal.push_reserved-requires
push_reserved-requires c =
    let x = c.self.inside in
    let w = c.self.invariant in
    grind (arith, common_steps, c.requires, seen_used x c.args.self.now c.self.view_is, seen_len x c.args.self.now c.self.view_is w.within, w.head_room)

pub push_reserved-requires-2 : goal.push_reserved-requires-2
push_reserved-requires-2 c =
    let x = c.self.inside in
    let w = c.self.invariant in
    grind (arith, common_steps, c.requires, seen_used x c.args.self.now c.self.view_is, seen_len x c.args.self.now c.self.view_is w.within, w.key_room, w.keys_len)

pub push-requires-clause-room : goal.push-requires-clause-room
push-requires-clause-room c =
    let x = c.self.inside in
    let w = c.self.invariant in
    grind (arith, common_steps, c.requires, seen_used x c.args.self.now c.self.view_is, seen_len x c.args.self.now c.self.view_is w.within, w.spot_room, w.spots_len)

pub push-requires-clause-few : goal.push-requires-clause-few
push-requires-clause-few c =
    let x = c.self.inside in
    let w = c.self.invariant in
    omega (arith, c.requires, seen_used x c.args.self.now c.self.view_is, seen_len x c.args.self.now c.self.view_is w.within, w.spots_len, w.homes)

pub push-requires-2-clause-few : goal.push-requires-2-clause-few
push-requires-2-clause-few c =
    let x = c.self.inside in
    let w = c.self.invariant in
    omega (arith, w.ranking.len, w.divided.len, length-rows_with x.heads.items x.keys.items, w.within, w.small)

pub push-requires-2-clause-order_room : goal.push-requires-2-clause-order_room
push-requires-2-clause-order_room c =
    let x = c.self.inside in
    let w = c.self.invariant in
    grind (arith, common_steps, c.requires, seen_used x c.args.self.now c.self.view_is, seen_len x c.args.self.now c.self.view_is w.within, w.order_room, w.ranking.len, w.divided.len, length-rows_with x.heads.items x.keys.items)

pub push-requires-2-clause-rank_room : goal.push-requires-2-clause-rank_room
push-requires-2-clause-rank_room c =
    let x = c.self.inside in
    let w = c.self.invariant in
    grind (arith, common_steps, c.requires, seen_used x c.args.self.now c.self.view_is, seen_len x c.args.self.now c.self.view_is w.within, w.rank_room, w.ranking.len, w.divided.len, length-rows_with x.heads.items x.keys.items)

pub invariant_of-self : goal.invariant_of-self
invariant_of-self c =
    let x = c.self.inside in
    let w = c.self.invariant in
    let heads = c.push_reserved.new.self.items in
    let keys = c.push_reserved-2.new.self.items in
    let spots = c.push.new.self.spots.items in
    let lt : length x.heads.items < x.room = omega (arith, c.requires, seen_used x c.args.self.now c.self.view_is, seen_len x c.args.self.now c.self.view_is w.within) in
    let lr = length-rows_with x.heads.items x.keys.items in
    let lh : length heads ≡ length x.heads.items + 1 = ap length c.push_reserved.ensures.items ∙ length-pushed x.heads.items no_head in
    let lk : length keys ≡ length x.keys.items + 1 = ap length c.push_reserved-2.ensures.items ∙ length-pushed x.keys.items c.unwrap.result in
    let ls : length (hashes_in spots) ≡ length (hashes_in x.index.spots.items) + 1 = ap length c.push.ensures.hashes ∙ length-pushed (hashes_in x.index.spots.items) None in
    let rows : rows_with heads keys ≡ rows_in x ++ None ∷ [] =
    ap (λ l. rows_with l keys) c.push_reserved.ensures.items ∙ ap (rows_with (x.heads.items ++ no_head ∷ [])) c.push_reserved-2.ensures.items
    ∙ rows_with-push x.heads.items x.keys.items no_head c.unwrap.result w.keys_len in
    let few : x.live ≤ length (rows_in x) = omega (arith, w.live, taken_count-le (rows_in x)) in record {
      index = c.push.ensures.index;
      homes = c.push.ensures.homes ∙ w.homes;
      small = w.small;
      spots_len = omega (arith, ls, lh, w.spots_len, length-map spots hash_in, length-map x.index.spots.items hash_in);
      keys_len = omega (arith, lh, lk, w.keys_len);
      within = omega (arith, lh, lt);
      hashed = subst (λ h. AreHashed x.seed h (rows_with heads keys)) (sym c.push.ensures.hashes)
          (subst (AreHashed x.seed (hashes_in x.index.spots.items ++ None ∷ [])) (sym rows) (push_hashed x.seed (hashes_in x.index.spots.items) (rows_in x) w.hashed));
      apart = subst AreApart (sym rows) (push_apart (rows_in x) w.apart);
      live = w.live ∙ sym (taken_count-append (rows_in x) 1) ∙ ap taken_count (sym rows);
      ranking = c.push-2.ensures.ranking;
      divided = subst (λ r. IsDivided r (rows_with heads keys) x.live) (sym c.push-2.ensures.rank)
          (subst (λ rs. IsDivided (x.ranking.rank.items ++ length x.ranking.rank.items ∷ []) rs x.live) (sym rows) (push_divided x.ranking.rank.items (rows_in x) x.live w.divided few));
      head_room = omega (arith, w.head_room, c.push_reserved.ensures.capacity);
      key_room = omega (arith, w.key_room, c.push_reserved-2.ensures.capacity);
      spot_room = omega (arith, w.spot_room, c.push.ensures.capacity);
      order_room = omega (arith, w.order_room, c.push-2.ensures.order_capacity);
      rank_room = omega (arith, w.rank_room, c.push-2.ensures.rank_capacity);
    }

pub returns-clause-rows : goal.returns-clause-rows
returns-clause-rows c =
    let x = c.self.inside in
    let w = c.self.invariant in
    let lt : length x.heads.items < x.room = omega (arith, c.requires, seen_used x c.args.self.now c.self.view_is, seen_len x c.args.self.now c.self.view_is w.within) in
    ap (λ l. padded None x.room (rows_with l c.push_reserved-2.new.self.items)) c.push_reserved.ensures.items
    ∙ ap (λ l. padded None x.room (rows_with (x.heads.items ++ no_head ∷ []) l)) c.push_reserved-2.ensures.items
    ∙ rows-push x.room x.heads.items x.keys.items c.args.self.now.rows c.unwrap.result (ap (λ u. u.rows) c.self.view_is) w.keys_len lt

pub returns-clause-tallies : goal.returns-clause-tallies
returns-clause-tallies c =
    let x = c.self.inside in
    let w = c.self.invariant in
    let lt : length x.heads.items < x.room = omega (arith, c.requires, seen_used x c.args.self.now c.self.view_is, seen_len x c.args.self.now c.self.view_is w.within) in
    ap (λ l. padded no_tally x.room (tallies_in l)) c.push_reserved.ensures.items
    ∙ tallies-push x.room x.heads.items c.args.self.now.tallies (ap (λ u. u.tallies) c.self.view_is) lt

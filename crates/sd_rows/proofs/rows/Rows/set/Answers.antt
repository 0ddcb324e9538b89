use Rattle.std.proofs.Common.{◌≡◌, ◌<◌, [], length, get_or, set, Some, None, arith, refl, subst, sym, ap, ◌∙◌}
use Rattle.std.proofs.lemmas.Grind.{common_steps}
use Rattle.std.proofs.lemmas.List.{length-set, get_or_read}
use Rattle.sd_rows.specs.Index.{taken_count, hashes_in}
use Rattle.sd_rows.specs.Heads.{no_head, row_with, rows_with, AreHashed}
use Rattle.sd_rows.specs.Ranking.{IsDivided}
use Rattle.sd_rows.specs.Rows.{AreApart, reset}
use Rattle.sd_rows.specs.RowsInside.{rows_in}
use Rattle.sd_rows.specs.declared.row.Row.{Row}
use Rattle.sd_rows.proofs.HeadLemmas.{live_inside, live_used, length-rows_with, rows_with-at, rows_with-head, rows-head, seen_with, tallies-head}
use Rattle.sd_rows.proofs.IndexLemmas.{taken_count-same, some_of}
use Rattle.sd_rows.proofs.RowsLemmas.{reset_hashed, reset_apart}
use Rattle.sd_rows.proofs.RankingLemmas.{reset_divided}
use Rattle.sd_rows.proofs.rows.Rows.set.Goals as goal

pub index_mut-requires : goal.index_mut-requires
index_mut-requires c =
    grind (arith, common_steps, live_used c.self.inside c.args.self.now c.self.view_is c.args.at c.requires.live)

pub invariant_of-self : goal.invariant_of-self
invariant_of-self c =
    let x = c.self.inside in
    let w = c.self.invariant in
    let at = c.args.at in
    let head = c.reset.new.self in
    let key = get_or x.keys.items at [] in
    let live = live_inside x c.args.self.now c.self.view_is at c.requires.live in
    let used = live_used x c.args.self.now c.self.view_is at c.requires.live in
    let old = some_of (get_or (rows_in x) at None) live in
    let new : Row = record old.0 { base = c.args.base; swaps = c.args.swaps } in
    let read : c.index_mut.result.now ≡ get_or x.heads.items at no_head = get_or_read x.heads.items at c.index_mut.result.now used c.index_mut.ensures.value no_head in
    let is : row_with head key ≡ Some new =
    c.reset.ensures.row key ∙ ap (λ h. reset (row_with h key) c.args.base c.args.swaps) read
    ∙ ap (λ o. reset o c.args.base c.args.swaps) (sym (rows_with-at x.heads.items x.keys.items at) ∙ old.1) in
    let rows : rows_with (set x.heads.items at head) x.keys.items ≡ set (rows_in x) at (Some new) =
    rows_with-head x.heads.items x.keys.items at head ∙ ap (set (rows_in x) at) is in
    let within : at < length (rows_in x) = omega (arith, used, length-rows_with x.heads.items x.keys.items) in
    let lh = length-set x.heads.items at head in record {
      index = w.index;
      homes = w.homes;
      small = w.small;
      spots_len = omega (arith, lh, w.spots_len);
      keys_len = omega (arith, lh, w.keys_len);
      within = omega (arith, lh, w.within);
      hashed = subst (AreHashed x.seed (hashes_in x.index.spots.items)) (sym rows) (reset_hashed x.seed (hashes_in x.index.spots.items) (rows_in x) at old.0 new w.hashed within old.1 refl refl);
      apart = subst AreApart (sym rows) (reset_apart (rows_in x) at old.0 new w.apart within old.1 refl refl);
      live = w.live ∙ sym (taken_count-same (rows_in x) at new live) ∙ ap taken_count (sym rows);
      ranking = w.ranking;
      divided = subst (λ rs. IsDivided x.ranking.rank.items rs x.live) (sym rows) (reset_divided x.ranking.rank.items (rows_in x) x.live at new w.divided within live);
      head_room = w.head_room;
      key_room = w.key_room;
      spot_room = w.spot_room;
      order_room = w.order_room;
      rank_room = w.rank_room;
    }

pub returns-clause-rows : goal.returns-clause-rows
returns-clause-rows c =
    let x = c.self.inside in
    let at = c.args.at in
    let key = get_or x.keys.items at [] in
    let used = live_used x c.args.self.now c.self.view_is at c.requires.live in
    let read : c.index_mut.result.now ≡ get_or x.heads.items at no_head = get_or_read x.heads.items at c.index_mut.result.now used c.index_mut.ensures.value no_head in
    let is : row_with c.reset.new.self key ≡ reset (get_or c.args.self.now.rows at None) c.args.base c.args.swaps =
    c.reset.ensures.row key ∙ ap (λ h. reset (row_with h key) c.args.base c.args.swaps) read
    ∙ ap (λ o. reset o c.args.base c.args.swaps) (sym (seen_with x c.args.self.now c.self.view_is at)) in
    rows-head x.room x.heads.items x.keys.items c.args.self.now.rows at c.reset.new.self (ap (λ u. u.rows) c.self.view_is) used
    ∙ ap (set c.args.self.now.rows at) is

pub returns-clause-tallies : goal.returns-clause-tallies
returns-clause-tallies c =
    let x = c.self.inside in
    tallies-head x.room x.heads.items c.args.self.now.tallies c.args.at c.reset.new.self (ap (λ u. u.tallies) c.self.view_is)
    (c.reset.ensures.tally ∙ ap (λ h. h.tally) (get_or_read x.heads.items c.args.at c.index_mut.result.now (live_used x c.args.self.now c.self.view_is c.args.at c.requires.live) c.index_mut.ensures.value no_head))

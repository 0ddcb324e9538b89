use Rattle.std.proofs.Common.{◌≡◌, [], get_or, set, None, arith, subst, sym, ap, ◌∙◌}
use Rattle.std.proofs.lemmas.Grind.{common_steps}
use Rattle.std.proofs.lemmas.List.{length-set, get_or_read, set-get_or}
use Rattle.sd_rows.specs.Index.{taken_count, hashes_in}
use Rattle.sd_rows.specs.Heads.{no_head, row_with, rows_with, AreHashed}
use Rattle.sd_rows.specs.Ranking.{IsDivided}
use Rattle.sd_rows.specs.Rows.{AreApart}
use Rattle.sd_rows.specs.RowsInside.{rows_in}
use Rattle.sd_rows.proofs.HeadLemmas.{live_used, rows_with-at, rows_with-head, rows-head, seen_with, tallies-set}
use Rattle.sd_rows.proofs.rows.Rows.set_tally.Goals as goal

pub index_mut-requires : goal.index_mut-requires
index_mut-requires c =
    grind (arith, common_steps, live_used c.self.inside c.args.self.now c.self.view_is c.args.at c.requires.live)

pub invariant_of-self : goal.invariant_of-self
invariant_of-self c =
    let x = c.self.inside in
    let w = c.self.invariant in
    let at = c.args.at in
    let head = c.keep.new.self in
    let key = get_or x.keys.items at [] in
    let used = live_used x c.args.self.now c.self.view_is at c.requires.live in
    let read : c.index_mut.result.now ≡ get_or x.heads.items at no_head = get_or_read x.heads.items at c.index_mut.result.now used c.index_mut.ensures.value no_head in
    let is : row_with head key ≡ get_or (rows_in x) at None =
    c.keep.ensures.row key ∙ ap (λ h. row_with h key) read ∙ sym (rows_with-at x.heads.items x.keys.items at) in
    let rows : rows_with (set x.heads.items at head) x.keys.items ≡ rows_in x =
    rows_with-head x.heads.items x.keys.items at head ∙ ap (set (rows_in x) at) is ∙ set-get_or (rows_in x) at None in
    let lh = length-set x.heads.items at head in record {
      index = w.index;
      homes = w.homes;
      small = w.small;
      spots_len = omega (arith, lh, w.spots_len);
      keys_len = omega (arith, lh, w.keys_len);
      within = omega (arith, lh, w.within);
      hashed = subst (AreHashed x.seed (hashes_in x.index.spots.items)) (sym rows) w.hashed;
      apart = subst AreApart (sym rows) w.apart;
      live = w.live ∙ ap taken_count (sym rows);
      ranking = w.ranking;
      divided = subst (λ rs. IsDivided x.ranking.rank.items rs x.live) (sym rows) w.divided;
      head_room = w.head_room;
      key_room = w.key_room;
      spot_room = w.spot_room;
      order_room = w.order_room;
      rank_room = w.rank_room;
    }

pub returns-clause-rows : goal.returns-clause-rows
returns-clause-rows c =
    let x = c.self.inside in
    let at = c.args.at in
    let key = get_or x.keys.items at [] in
    let used = live_used x c.args.self.now c.self.view_is at c.requires.live in
    let read : c.index_mut.result.now ≡ get_or x.heads.items at no_head = get_or_read x.heads.items at c.index_mut.result.now used c.index_mut.ensures.value no_head in
    let is : row_with c.keep.new.self key ≡ get_or c.args.self.now.rows at None =
    c.keep.ensures.row key ∙ ap (λ h. row_with h key) read ∙ sym (seen_with x c.args.self.now c.self.view_is at) in
    rows-head x.room x.heads.items x.keys.items c.args.self.now.rows at c.keep.new.self (ap (λ u. u.rows) c.self.view_is) used
    ∙ ap (set c.args.self.now.rows at) is ∙ set-get_or c.args.self.now.rows at None

pub returns-clause-tallies : goal.returns-clause-tallies
returns-clause-tallies c =
    let x = c.self.inside in
    tallies-set x.room x.heads.items c.args.self.now.tallies c.args.at c.keep.new.self (ap (λ u. u.tallies) c.self.view_is) (live_used x c.args.self.now c.self.view_is c.args.at c.requires.live)
    ∙ ap (set c.args.self.now.tallies c.args.at) c.keep.ensures.tally

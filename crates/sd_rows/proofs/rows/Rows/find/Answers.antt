use Rattle.std.proofs.Common.{◌≡◌, ◌<◌, ◌≤◌, get_or, Some, None, IsTrue, arith, ap, subst, sym, ◌∙◌}
use Rattle.std.proofs.lemmas.List.{length-map}
use Rattle.std.proofs.lemmas.Bool.{false≢true}
use Rattle.sd_rows.specs.Hash.{hash_of}
use Rattle.sd_rows.specs.Index.{place_in, places_in, hash_in, hashes_in, tags_in, cells_of, home_by}
use Rattle.sd_rows.specs.Rows.{Holds}
use Rattle.sd_rows.specs.RowsInside.{rows_in}
use Rattle.sd_rows.proofs.HeadLemmas.{seen_row, seen_used, seen_apart}
use Rattle.sd_rows.proofs.IndexLemmas.{present_within, get_or_past}
use Rattle.sd_rows.proofs.RowsLemmas.{find_step, find_absent, named_by_hash, same_number, not_both}
use Rattle.sd_rows.proofs.rows.Rows.find.Goals as goal

pub loop-cell-init : goal.loop-cell-init
loop-cell-init c p lt h =
    let x = c.self.inside in
    let w = c.self.invariant in
    let home : c.home-cell.result ≡ home_by x.index.homes (hash_of x.seed c.args.kind c.args.key.now) = c.home-cell.ensures.home ∙ ap (home_by x.index.homes) c.hash_of-hash.ensures in
    let n = named_by_hash (places_in x.index.cells.items) (tags_in x.index.cells.items) (cells_of x.index.spots.items) (hashes_in x.index.spots.items) x.index.homes x.seed (rows_in x) c.args.kind c.args.key.now p w.index w.hashed h in
    let from : home_by x.index.homes (hash_of x.seed c.args.kind c.args.key.now) ≤ get_or (cells_of x.index.spots.items) p 0 = w.index.probed.after p _ n.1 in
    let below : get_or (cells_of x.index.spots.items) p 0 < home_by x.index.homes (hash_of x.seed c.args.kind c.args.key.now) = subst (λ n. get_or (cells_of x.index.spots.items) p 0 < n) home lt in
    not_both _ _ below from

pub is_at-requires : goal.is_at-requires
is_at-requires c =
    let x = c.self.inside in
    let w = c.self.invariant in
    let e : get_or (places_in x.index.cells.items) c.loop-cell.cell None ≡ Some c.in-Some.place = sym c.place_at.ensures ∙ c.in-Some.is in
    let h = w.index.tagged _ _ e in
    let live = present_within (hashes_in x.index.spots.items) c.in-Some.place (λ n. grind (arith, n, h)) in
    omega (arith, live, length-map x.index.spots.items hash_in, w.spots_len, seen_used x c.args.self.now c.self.view_is)

pub loop-cell-preserved : goal.loop-cell-preserved
loop-cell-preserved c =
    let x = c.self.inside in
    let w = c.self.invariant in
    let e : get_or (places_in x.index.cells.items) c.loop-cell.cell None ≡ Some c.in-Some.place = sym c.place_at.ensures ∙ c.in-Some.is in
    find_step _ (tags_in x.index.cells.items) _ _ x.index.homes x.seed (rows_in x) c.args.kind c.args.key.now c.loop-cell.cell c.in-Some.place w.index w.hashed c.loop-cell.invariant e
    (λ tag h. false≢true (subst IsTrue c.if-is_at.false
    (c.is_at.ensures.1 (
      same_number _ _ (c.tag_at.ensures ∙ tag ∙ sym c.hash_of-hash.ensures),
      subst (Holds c.args.kind c.args.key.now) (sym (seen_row x c.args.self.now c.self.view_is c.in-Some.place)) h,
    ))))

pub returns-in_default-clause-found : goal.returns-in_default-clause-found
returns-in_default-clause-found c p h =
    let x = c.self.inside in
    let w = c.self.invariant in
    let home : c.home-cell.result ≡ home_by x.index.homes (hash_of x.seed c.args.kind c.args.key.now) = c.home-cell.ensures.home ∙ ap (home_by x.index.homes) c.hash_of-hash.ensures in
    let from : home_by x.index.homes (hash_of x.seed c.args.kind c.args.key.now) ≤ c.loop-cell.cell = subst (λ n. n ≤ c.loop-cell.cell) home c.loop-cell.auto.cell in
    find_absent _ _ _ _ x.index.homes x.seed (rows_in x) c.args.kind c.args.key.now c.loop-cell.cell w.index w.hashed from c.loop-cell.invariant (sym c.place_at.ensures ∙ c.in_default.is)
    p (subst (Holds c.args.kind c.args.key.now) (seen_row x c.args.self.now c.self.view_is p) h)

pub returns-clause-found : goal.returns-clause-found
returns-clause-found c p h =
    let x = c.self.inside in
    let w = c.self.invariant in
    let home : c.home-cell.result ≡ home_by x.index.homes (hash_of x.seed c.args.kind c.args.key.now) = c.home-cell.ensures.home ∙ ap (home_by x.index.homes) c.hash_of-hash.ensures in
    let from : home_by x.index.homes (hash_of x.seed c.args.kind c.args.key.now) ≤ c.loop-cell.cell = subst (λ n. n ≤ c.loop-cell.cell) home c.loop-cell.auto.cell in
    find_absent _ _ _ _ x.index.homes x.seed (rows_in x) c.args.kind c.args.key.now c.loop-cell.cell w.index w.hashed from c.loop-cell.invariant
    (get_or_past (places_in x.index.cells.items) c.loop-cell.cell None (omega (arith, length-map x.index.cells.items place_in, c.end-end.ensures, c.loop-cell-test.false)))
    p (subst (Holds c.args.kind c.args.key.now) (seen_row x c.args.self.now c.self.view_is p) h)

pub returns-in_default-clause-apart : goal.returns-in_default-clause-apart
returns-in_default-clause-apart c = seen_apart c.self.inside c.args.self.now c.self.view_is c.self.invariant.apart

pub returns-then-is_at-clause-apart : goal.returns-then-is_at-clause-apart
returns-then-is_at-clause-apart c = seen_apart c.self.inside c.args.self.now c.self.view_is c.self.invariant.apart

pub returns-clause-apart : goal.returns-clause-apart
returns-clause-apart c = seen_apart c.self.inside c.args.self.now c.self.view_is c.self.invariant.apart

use Rattle.std.proofs.Common.{rules, ◌≡◌, ◌∙◌, List, ◌-◌, ◌<◌, ◌≤◌, length, map, slice_get, Some, refl, sym, ap, subst, arith}
use Rattle.std.proofs.lemmas.Bool.{ltb-true}
use Rattle.std.proofs.lemmas.Option.{slice_get_read}
use Rattle.sd_model_record.specs.Totals.{known_before_end, total_line, totals_of}
use Rattle.sd_model_record.specs.Replies.{end_lines}
use Rattle.sd_desk.specs.Facts.{facts_view}
use Rattle.sd_shard.specs.Shard.{numbers_in}
use Rattle.sd_shard.specs.declared.shard.ShardBook.{ShardBook}
use Rattle.sd_admin.proofs.TotalsLines.{total_at, shard_at, end_at}
use Rattle.sd_admin.proofs.reply_lines.totals_line.Goals as goal
use Rattle.sd_model_record.proofs.Short.{added, shard_line}

pub returns-then-place-totals : goal.returns-then-place-totals
returns-then-place-totals c =
    let facts = facts_view c.args.facts.now in
    let outlets = c.args.outlets in
    let books = c.args.books.now.items in
    let all = totals_of (added (map numbers_in books)) facts in
    c.total_line.ensures ∙ ap (λ totals. slice_get (map total_line (known_before_end outlets totals)) c.args.place) c.new.ensures
    ∙ ap (λ (bs : List ShardBook). slice_get (map total_line (known_before_end outlets (totals_of (added (map numbers_in bs)) facts))) c.args.place) c.deref.ensures.0
    ∙ sym (total_at outlets facts books c.args.place (subst (λ n. c.args.place < n) (c.known_totals-totals.ensures.count (added (map numbers_in books)) facts) c.if-place-totals.true))

pub returns-in-Some : goal.returns-in-Some
returns-in-Some c =
    let facts = facts_view c.args.facts.now in
    let outlets = c.args.outlets in
    let books = c.args.books.now.items in
    let totals = length (known_before_end outlets (totals_of (added (map numbers_in books)) facts)) in
    let count : c.known_totals-totals.result ≡ totals = c.known_totals-totals.ensures.count (added (map numbers_in books)) facts in
    let i = c.args.place - c.known_totals-totals.result in
    let all = c.deref-2.result.now in
    let looked = c.in-Some.ensures.lookup in
    let below : i < length all = ltb-true i (length all) (sym looked.0) in
    let found : slice_get all i ≡ Some c.in-Some.book.now = slice_get_read all (length all) i c.in-Some.book.now refl below looked.1 in
    ap Some (c.shard_line.ensures ∙ ap (λ n. shard_line (c.args.place - n) (numbers_in c.in-Some.book.now)) count)
    ∙ sym (shard_at outlets facts books c.args.place c.in-Some.book.now (omega (arith, count, c.if-place-totals.false))
    (subst (λ n. slice_get books (c.args.place - n) ≡ Some c.in-Some.book.now) count
    (subst (λ (bs : List ShardBook). slice_get bs i ≡ Some c.in-Some.book.now) c.deref-2.ensures.0 found)))

pub returns-in-None : goal.returns-in-None
returns-in-None c =
    let facts = facts_view c.args.facts.now in
    let outlets = c.args.outlets in
    let books = c.args.books.now.items in
    let place = c.args.place in
    let totals = length (known_before_end outlets (totals_of (added (map numbers_in books)) facts)) in
    let count : c.known_totals-totals.result ≡ totals = c.known_totals-totals.ensures.count (added (map numbers_in books)) facts in
    let none : length c.deref-2.result.now ≤ place - c.known_totals-totals.result = search rules in
    c.end_line.ensures ∙ ap (λ n. slice_get end_lines (place - c.known_totals-totals.result - n)) c.len.ensures.value
    ∙ ap (λ n. slice_get end_lines (place - n - length books)) count
    ∙ sym (end_at outlets facts books place (omega (arith, count, c.if-place-totals.false))
    (subst (λ n. length books ≤ place - n) count
    (subst (λ (bs : List ShardBook). length bs ≤ place - c.known_totals-totals.result) c.deref-2.ensures.0 none)))

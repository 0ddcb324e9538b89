use Rattle.std.proofs.Common.{◌≡◌, Bool, List, [], ◌∷◌, ◌++◌, length, filter, map, take, sym, ap, subst, ◌∙◌, Option, length-append, arith}
use Rattle.std.specs.Prelude.{IfSome}
use Rattle.std.proofs.lemmas.List.{map-append}
use Rattle.sd_key.specs.Kind.{kind_of}
use Rattle.sd_model_shard.specs.Rows.{RowId, Kept, DumpRow, is_of_kind}
use Rattle.sd_rows.specs.Rows.{row_seen}
use Rattle.sd_epoch.specs.Table.{fresh, row_view}
use Rattle.sd_shard.specs.Dump.{DumpList, dump_row_of, rows_of}
use Rattle.sd_shard.proofs.CommandLemmas.{filter-hit, filter-miss, there, reported-push}
use Rattle.sd_shard.proofs.commands.push_rows.Goals as goal
use Rattle.sd_shard.proofs.commands.push_rows.Goals.{then-is_of_kind, else-is_of_kind}
use Rattle.sd_model_shard.proofs.Short.{dump_row}

pub loop-i-preserved : goal.loop-i-preserved
loop-i-preserved c =
    let p : RowId × Kept → Bool = λ row. is_of_kind (kind_of c.args.kind) row.0 in
    let listed = c.args.table.now.listed in
    let i = c.loop-i.i in
    let here = there listed i (omega (arith, c.loop-i.invariant.all, c.loop-i-test.true)) in
    let row = here.0 in
    let id : row.0 ≡ (row_view (row_seen c.get.result)).0 =
    ap (λ (r : RowId × Kept). r.0) (subst (λ (o : Option (RowId × Kept)). IfSome o (λ r. (r.0, fresh r.1) ≡ row_view (row_seen c.get.result))) here.1 c.get.ensures) in
    let test : p row ≡ c.is_of_kind.result = ap (is_of_kind (kind_of c.args.kind)) id ∙ sym c.is_of_kind.ensures in
    let old = rows_of c.args.out.now in
    let inv = c.loop-i.invariant in
    elim c.if-is_of_kind.branch [
      | then-is_of_kind w ↦
          let more = filter-hit p listed i row here.1 (test ∙ w.if-is_of_kind.true) in
          let reported : dump_row_of w.dump_row.result ≡ dump_row row = subst (λ (o : Option (RowId × Kept)). IfSome o (λ r. dump_row_of w.dump_row.result ≡ dump_row r)) here.1 w.dump_row.ensures in
          record {
            rows = ap rows_of w.out-is ∙ ap (map dump_row_of) w.push.ensures.items ∙ map-append dump_row_of c.loop-i.out.items (w.dump_row.result ∷ []) ∙ ap (λ (r : DumpRow). rows_of c.loop-i.out ++ r ∷ []) reported ∙ ap (λ (rs : List DumpRow). rs ++ dump_row row ∷ []) inv.rows
                ∙ reported-push dump_row old (filter p (take i listed)) row ∙ ap (λ (rows : List (RowId × Kept)). old ++ map dump_row rows) (sym more);
            few = omega (arith, inv.few, ap length more, length-append (filter p (take i listed)) (row ∷ []));
            all = inv.all;
            room = ap (λ (o : DumpList). o.room) w.out-is ∙ w.push.ensures.room ∙ inv.room;
          }
      | else-is_of_kind w ↦
          let same = filter-miss p listed i row here.1 (test ∙ w.if-is_of_kind.false) in
          record {
            rows = ap rows_of w.out-is ∙ inv.rows ∙ ap (λ (rows : List (RowId × Kept)). old ++ map dump_row rows) (sym same);
            few = omega (arith, inv.few, ap length same);
            all = inv.all;
            room = ap (λ (o : DumpList). o.room) w.out-is ∙ inv.room;
          }
    ]

use Rattle.std.proofs.Common.{rules, ◌≡◌, ℕ, Bool, List, [], ◌∷◌, ◌++◌, length, filter, map, take, sym, ap, subst, ◌∙◌, Option, length-append, arith}
use Rattle.std.specs.Prelude.{IfSome}
use Rattle.sd_key.specs.Kind.{kind_of}
use Rattle.sd_model_shard.specs.Rows.{RowId, Kept, is_hit}
use Rattle.sd_rows.specs.Rows.{row_seen}
use Rattle.sd_epoch.specs.Table.{fresh, row_view}
use Rattle.sd_shard.specs.Keys.{KeyList}
use Rattle.sd_shard.proofs.CommandLemmas.{filter-hit, filter-miss, there, reported-push}
use Rattle.sd_shard.proofs.commands.push_keys.Goals as goal
use Rattle.sd_shard.proofs.commands.push_keys.Goals.{then-is_hit, else-is_hit}

pub loop-i-preserved : goal.loop-i-preserved
loop-i-preserved c =
    let p : RowId × Kept → Bool = λ row. is_hit (kind_of c.args.kind) c.args.pattern.now row.0 in
    let key : RowId × Kept → List ℕ = λ row. row.0.key in
    let listed = c.args.table.now.listed in
    let i = c.loop-i.i in
    let here = there listed i (omega (arith, c.loop-i.invariant.all, c.loop-i-test.true)) in
    let row = here.0 in
    let id : row.0 ≡ (row_view (row_seen c.get-row.result)).0 =
    ap (λ (r : RowId × Kept). r.0) (subst (λ (o : Option (RowId × Kept)). IfSome o (λ r. (r.0, fresh r.1) ≡ row_view (row_seen c.get-row.result))) here.1 c.get-row.ensures) in
    let test : p row ≡ c.is_hit.result = ap (is_hit (kind_of c.args.kind) c.args.pattern.now) id ∙ sym c.is_hit.ensures in
    let old = c.args.out.now.items in
    let inv = c.loop-i.invariant in
    elim c.if-is_hit.branch [
      | then-is_hit w ↦
          let more = filter-hit p listed i row here.1 (test ∙ w.if-is_hit.true) in
          let same : w.unwrap.result ≡ key (row_view (row_seen c.get-row.result)) = search rules in
          let copied : w.unwrap.result ≡ key row = same ∙ sym (ap (λ (r : RowId). r.key) id) in
          record {
            keys = ap (λ (o : KeyList). o.items) w.out-is ∙ w.push.ensures.items ∙ (λ j. (inv.keys j) ++ (copied j) ∷ [])
                ∙ reported-push key old (filter p (take i listed)) row ∙ ap (λ (rows : List (RowId × Kept)). old ++ map key rows) (sym more);
            count = omega (arith, w.rows-is, inv.count, ap length more, length-append (filter p (take i listed)) (row ∷ []));
            few = omega (arith, w.rows-is, inv.few);
            all = inv.all;
            room = ap (λ (o : KeyList). o.room) w.out-is ∙ w.push.ensures.room ∙ inv.room;
          }
      | else-is_hit w ↦
          let same = filter-miss p listed i row here.1 (test ∙ w.if-is_hit.false) in
          record {
            keys = ap (λ (o : KeyList). o.items) w.out-is ∙ inv.keys ∙ ap (λ (rows : List (RowId × Kept)). old ++ map key rows) (sym same);
            count = omega (arith, w.rows-is, inv.count, ap length same);
            few = omega (arith, w.rows-is, inv.few);
            all = inv.all;
            room = ap (λ (o : KeyList). o.room) w.out-is ∙ inv.room;
          }
    ]

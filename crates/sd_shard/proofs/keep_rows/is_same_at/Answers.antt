use Rattle.std.proofs.Common.{◌≡◌, Bool, true, false, cond, Option, Some, None, is_some, refl, ap, sym, ◌∙◌}
use Rattle.sd_rows.specs.Rows.{row_at, row_seen}
use Rattle.sd_rows.specs.RowMap.{has_id, id_of}
use Rattle.sd_rows.specs.declared.row.Row.{Row}
use Rattle.sd_rows.proofs.MapLemmas.{has_by_test}
use Rattle.sd_shard.specs.Swap.{staying}
use Rattle.sd_shard.proofs.keep_rows.is_same_at.Goals as goal

stays : (b : Bool) (row : Row) → b ≡ is_some (cond b (Some row) None)
stays true row = refl
stays false row = refl

pub returns-in-Some-Some : goal.returns-in-Some-Some
returns-in-Some-Some c =
    let row = row_seen c.in-Some-Some.row in
    let there = row_seen c.in-Some-Some.there in
    let test = has_by_test c.is_same.result row.kind row.key (Some there) c.is_same.ensures in
    test ∙ stays (has_id (id_of row.kind row.key) (Some there)) there
    ∙ ap (λ (o : Option Row). is_some (staying o (Some there))) (sym c.in-Some-Some.ensures) ∙ ap (λ (o : Option Row). is_some (staying (row_at c.args.table.now.places c.args.at) o)) (sym c.in-Some-Some.ensures')

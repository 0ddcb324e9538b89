use Rattle.std.proofs.Common.{Some, sym, ap, ◌∙◌}
use Rattle.sd_rows.specs.RowMap.{has_id, id_of}
use Rattle.sd_rows.specs.Rows.{row_seen}
use Rattle.sd_rows.proofs.MapLemmas.{has_by_test}
use Rattle.sd_rows.proofs.rows.Rows.has.Goals as goal

pub returns-in-Some-clause-same : goal.returns-in-Some-clause-same
returns-in-Some-clause-same c =
    has_by_test c.is_of.result c.args.kind c.args.key.now (Some (row_seen c.in-Some.row)) c.is_of.ensures
    ∙ ap (has_id (id_of c.args.kind c.args.key.now)) (sym c.in-Some.ensures)

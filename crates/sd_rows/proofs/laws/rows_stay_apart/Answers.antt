use Rattle.std.proofs.Common.{set, Some, None, arith, refl, subst}
use Rattle.std.proofs.lemmas.List.{length-set, set-set}
use Rattle.sd_rows.specs.Rows.{AreApart}
use Rattle.sd_rows.proofs.RowsLemmas.{holds_row, fill_apart, empty_apart, reset_apart, removed_absent, copy_absent}
use Rattle.sd_rows.proofs.MapLemmas.{live_within}
use Rattle.sd_rows.proofs.laws.rows_stay_apart.Goals as goal

pub returns-clause-add : goal.returns-clause-add
returns-clause-add c places at row apart within absent = fill_apart places at row apart absent within

pub returns-clause-set : goal.returns-clause-set
returns-clause-set c places at kind key base swaps apart h =
    let w = holds_row kind key _ h in
    rw w.1 (reset_apart places at w.0 (record w.0 { base = base; swaps = swaps }) apart (live_within places at w.0 w.1) w.1 refl refl)

pub returns-clause-remove : goal.returns-clause-remove
returns-clause-remove c places at apart within = empty_apart places at apart within

pub returns-clause-removed : goal.returns-clause-removed
returns-clause-removed c = removed_absent

-- the place is emptied, and then takes the row
pub returns-clause-copy : goal.returns-clause-copy
returns-clause-copy c places at row apart within other =
    subst AreApart (set-set places at None (Some row))
    (fill_apart (set places at None) at row (empty_apart places at apart within) (copy_absent places at row within other) (omega (arith, within, length-set places at None)))

use Rattle.std.proofs.Common.{◌≤◌, sym, subst}
use Rattle.std.specs.Prelude.{All}
use Rattle.sd_record.specs.Rows.{Room}
use Rattle.sd_record.proofs.RecordLemmas.{rows-placed, all-placed}
use Rattle.sd_record.proofs.record.Record.over.Goals as goal

pub invariant_of-result : goal.invariant_of-result
invariant_of-result c =
    let tables = c.args.tables.now in
    let placed = c.fill.new.self.placed in
    record {
      kept = record {
        rows = rows-placed _ tables placed c.requires.disjoint c.fill.ensures.apart c.fill.ensures.rows c.fill.ensures.order;
        placed = all-placed tables placed c.fill.ensures.rows;
        entries = subst (λ (room : Room). All (λ t. t.entries ≤ room.entries) tables) (sym c.fill.ensures.room) c.requires.entries;
      };
    }

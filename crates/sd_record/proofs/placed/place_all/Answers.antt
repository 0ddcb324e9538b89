use Rattle.std.proofs.Common.{◌≡◌, ap, ◌∙◌, ◌++◌, map, slice_get, Some, refl, arith}
use Rattle.std.proofs.lemmas.Option.{slice_get_read}
use Rattle.sd_record.specs.Rows.{rows_in}
use Rattle.sd_record.proofs.FillLemmas.{room_for_next, more_tables, next_apart}
use Rattle.sd_record.proofs.placed.place_all.Goals as goal

pub place_rows-requires : goal.place_rows-requires
place_rows-requires c =
    let room = room_for_next c.args.tables.now c.loop-index.places.items c.loop-index.index _ c.index-tables-index.result (omega arith) c.index-tables-index.is c.loop-index.invariant.rows c.requires.room in
    record { room = omega (arith, room, c.loop-index.places.ok.0) }

pub loop-index-preserved : goal.loop-index-preserved
loop-index-preserved c =
    let tables = c.args.tables.now in
    let i = c.loop-index.index in
    let t = c.index-tables-index.result in
    let here : slice_get tables i ≡ Some t = slice_get_read tables _ i t refl (omega arith) c.index-tables-index.is in
    record {
      rows = c.place_rows.ensures.rows tables here ∙ ap (λ es. es ++ map Some (rows_in t)) c.loop-index.invariant.rows ∙ more_tables tables i t (omega arith) c.index-tables-index.is;
      apart = next_apart tables i t (omega arith) c.index-tables-index.is c.loop-index.invariant.apart c.place_rows.ensures.apart;
      capacity = omega arith;
    }

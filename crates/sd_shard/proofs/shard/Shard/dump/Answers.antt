use Rattle.std.proofs.Common.{filter, map, subst}
use Rattle.sd_key.specs.Kind.{kind_of}
use Rattle.sd_model_shard.specs.Rows.{RowId, Kept, is_of_kind, dump_of}
use Rattle.sd_model_shard.specs.Shard.{Dumped}
use Rattle.sd_model_shard.proofs.ListedLemmas.{reported_permutes}
use Rattle.sd_epoch.specs.Table.{live_of}
use Rattle.sd_epoch.proofs.ForgetLemmas.{StandApart-rows}
use Rattle.sd_shard.specs.Dump.{rows_of}
use Rattle.sd_shard.specs.Shard.{Standing, IsDump}
use Rattle.sd_shard.proofs.shard.Shard.dump.Goals as goal
use Rattle.sd_model_shard.proofs.Short.{dump_row}

pub returns-clause-answer : goal.returns-clause-answer
returns-clause-answer c =
    let kind = kind_of c.args.kind in
    let t = c.self.inside.table in
    let rows = filter (λ (row : RowId × Kept). is_of_kind kind row.0) t.listed in
    subst (λ (s : Standing). IsDump (Dumped (dump_of kind (live_of s.table))) (rows_of c.args.out.now) (rows_of c.push_rows.new.out)) c.self.view_is (
      map dump_row rows,
      c.push_rows.ensures.rows,
      reported_permutes dump_row (is_of_kind kind) t.listed (StandApart-rows t.listed c.push_rows.ensures.apart),
    )

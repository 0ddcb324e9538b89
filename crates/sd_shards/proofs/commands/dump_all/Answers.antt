use Rattle.std.proofs.Common.{◌≡◌, ◌+◌, ◌<◌, List, ◌++◌, length, take, ap, subst, ◌∙◌, arith}
use Rattle.std.specs.Prelude.{flat_map}
use Rattle.sd_model_shard.specs.Shard.{Limits}
use Rattle.sd_model_shard.specs.Rows.{DumpRow, dump_of}
use Rattle.sd_key.specs.Kind.{kind_of}
use Rattle.sd_shard.specs.Dump.{rows_of}
use Rattle.sd_shard.specs.Shard.{Standing, state_of, Appends}
use Rattle.sd_shards.specs.Standings.{limits_in, policy_in}
use Rattle.sd_shards.proofs.StandingLemmas.{bounds_at, flat_map-more}
use Rattle.sd_shards.proofs.ReportedLemmas.{Appends-append}
use Rattle.sd_shards.proofs.commands.dump_all.Goals as goal

pub loop-shard-preserved : goal.loop-shard-preserved
loop-shard-preserved c =
    let shards = c.args.shards.now in
    let i = c.loop-shard.shard-index in
    let d = c.shard-item.result in
    let inv = c.loop-shard.invariant in
    let kind = kind_of c.args.kind in
    let tell : Standing → List DumpRow = λ s. dump_of kind (state_of s).live in
    let below : i < length shards = omega arith in
    let mine = bounds_at (limits_in shards) (policy_in shards) shards i d below c.requires.bounds in
    let rows : d.table.limits.rows ≡ (limits_in shards).rows = ap (λ (s : Standing). s.table.limits.rows) c.shard-item.is ∙ ap (λ (l : Limits). l.rows) mine.0 in
    let reported : flat_map tell (take i shards) ++ tell d ≡ flat_map tell (take (i + 1) shards) = ap (λ (s : Standing). flat_map tell (take i shards) ++ tell s) c.shard-item.is ∙ flat_map-more tell shards i d below in
    record {
      rows = subst (λ (rs : List DumpRow). Appends rs (rows_of c.args.dump.now) (rows_of c.dump_one.new.dump)) reported
          (Appends-append (flat_map tell (take i shards)) (tell d) (rows_of c.args.dump.now) (rows_of c.loop-shard.dump) (rows_of c.dump_one.new.dump) inv.rows c.dump_one.ensures.rows);
      few = omega (arith, inv.few, c.dump_one.ensures.few, rows);
      room = c.dump_one.ensures.room ∙ inv.room;
    }

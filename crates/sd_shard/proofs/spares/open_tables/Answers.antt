use Rattle.std.proofs.Common.{sym, subst, arith}
use Rattle.std.specs.Prelude.{All}
use Rattle.std.proofs.lemmas.List.Elements.{All-push}
use Rattle.sd_epoch.specs.Limits.{limits_of}
use Rattle.sd_shard.specs.Tables.{IsSpare}
use Rattle.sd_shard.proofs.spares.open_tables.Goals as goal

pub loop-i-preserved : goal.loop-i-preserved
loop-i-preserved c =
    let fits = IsSpare (limits_of c.args.limits) in
    record {
      len = omega arith;
      room = omega arith;
      empty = subst (All fits) (sym c.push_reserved.ensures.items) (All-push fits c.loop-i.spares.items c.in_ok-open.field-0 c.loop-i.invariant.empty
          (record { limits = c.in_ok-open.ensures.limits; no_samples = c.in_ok-open.ensures.held; no_entries = c.in_ok-open.ensures.entries }));
    }

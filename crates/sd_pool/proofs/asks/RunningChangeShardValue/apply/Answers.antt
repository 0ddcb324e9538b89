use Rattle.std.proofs.Common.{◌≡◌, List, ◌++◌, sym, subst}
use Rattle.sd_model_text.specs.Lines.{Sample}
use Rattle.sd_pool.specs.Behind.{Behind, setup_of, Stands}
use Rattle.sd_pool.specs.Asks.{AreOf, entries_of, waiting_at}
use Rattle.sd_pool.proofs.RunLemmas.{Stands-run, are_own, is_run}
use Rattle.sd_pool.proofs.asks.RunningChangeShardValue.apply.Goals as goal

pub run-counts-requires-clause-own : goal.run-counts-requires-clause-own
run-counts-requires-clause-own c =
    let value = c.args.value.now in
    let batch = c.args.self.now.batch.now in
    let allowed = c.requires.allowed in
    subst (AreOf value.number value.shards) (sym (is_run batch _ _ _ _ c.run.ensures.run allowed.0 allowed.1)) (are_own value.shards value.number batch.items)

pub returns-clause-stands : goal.returns-clause-stands
returns-clause-stands c = λ log stands.
    let old = c.args.value.now in
    let new = c.run-counts.new.self in
    let batch = c.args.self.now.batch.now in
    let allowed = c.requires.allowed in
    let is : c.run.result ≡ waiting_at old.shards old.number batch = is_run batch _ _ _ _ c.run.ensures.run allowed.0 allowed.1 in
    let own = subst (AreOf old.number old.shards) (sym is) (are_own old.shards old.number batch.items) in
    subst (λ (samples : List Sample). Stands new (log ++ entries_of (setup_of old) c.args.number c.of-before.result.value samples)) is
    (subst (λ (before : Behind). Stands new (log ++ entries_of (setup_of old) c.args.number before c.run.result)) (sym c.of-before.ensures)
    (Stands-run old new log c.args.number c.run.result stands c.run-counts.ensures.runs own c.requires.seat))

use Rattle.std.proofs.Common.{◌≡◌, ℕ, length, slice_set, map, ap, subst, ◌∙◌, arith}
use Rattle.sd_shards.proofs.PlayedLemmas.{played_run, still_ready}
use Rattle.sd_model_text.specs.Lines.{Sample}
use Rattle.sd_model_text.specs.Names.{shard}
use Rattle.sd_model_shard.specs.Shard.{Submit}
use Rattle.sd_model_shard.specs.History.{part_of}
use Rattle.sd_batch.specs.Runs.{run_at, submitted}
use Rattle.sd_batch.proofs.RunLemmas.{submitted_asks}
use Rattle.sd_shards.specs.Played.{HavePlayed}
use Rattle.sd_shards.specs.Standings.{state_in, limits_in, policy_in}
use Rattle.sd_shards.proofs.in_hand.InHandSubmitVecShard.submit_run.Goals as goal

submits : goal.returns-clause-submits
submits c =
    let shards = c.args.seat.now.items in
    let who = c.args.self.now.who.0 in
    let samples = c.run.result in
    let played = played_run who samples shards c.from.result c.index_mut.result.now c.take_run.new.shard c.take_run.result c.index_mut.ensures.value (omega arith) c.requires.ready.bounds c.take_run.ensures in
    let asks = submitted_asks (limits_in shards) (policy_in shards) who (state_in shards c.from.result) samples in
    let made = submitted (limits_in shards) (policy_in shards) (state_in shards c.from.result) who samples in
    let home : c.from.result ≡ c.args.home = c.from.ensures in
    let added = subst (λ (h : ℕ). HavePlayed shards (slice_set shards c.from.result c.take_run.new.shard) (run_at h made)) home played.0 in
    let run = c.run.ensures.run ∙ ap (λ (n : ℕ). part_of (λ (s : Sample). shard s.key n) c.args.home c.args.batch.now.items) c.requires.batch in
    let asked = asks.0 ∙ ap (map Submit) run in
    record { made = made; added = added; asked = asked; whose = asks.1; counted = played.1 }

pub returns-clause-ready : goal.returns-clause-ready
returns-clause-ready c = still_ready c.args.seat.now.items _ _ c.requires.ready (submits c).added

pub returns-clause-submits : goal.returns-clause-submits
returns-clause-submits c = submits c

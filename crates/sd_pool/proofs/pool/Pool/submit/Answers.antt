use Rattle.std.proofs.Common.{rules, ◌≡◌, ℕ, subst}
use Rattle.sd_model_text.specs.Names.{shard}
use Rattle.sd_model_shard.specs.Shard.{Answered, Submit}
use Rattle.sd_shard.specs.Shard.{placed_of}
use Rattle.sd_pool.specs.Pool.{Acts, act_by, setup_at, shards_of}
use Rattle.sd_pool.proofs.CallLemmas.{one_act}
use Rattle.sd_pool.proofs.pool.Pool.submit.Goals as goal

pub returns-clause-act : goal.returns-clause-act
returns-clause-act g c =
    let pool = c.args.self.now in
    let seat = c.args.seat.now in
    let i = c.shard_of-i.result in
    let made = c.ask.ensures.acts in
    let event = Submit c.args.s.now in
    let placed = Answered (placed_of c.ask.result) in
    let home : i ≡ shard c.args.s.now.key (shards_of pool) = search rules in
    subst (λ (n : ℕ). Acts pool seat c.ask.new.seat n (act_by seat event placed)) home
    (one_act pool seat c.ask.new.seat i (setup_at pool i) made.0 event placed made.1 made.2)

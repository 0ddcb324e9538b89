-- One reply more.
use Rattle.std.proofs.Common.{◌≡◌, ℕ, ◌+◌, [], ◌∷◌, ◌++◌, arith}
use Rattle.std.proofs.lemmas.List.Sums.{sum_by-append, sum_by-cons}
use Rattle.sd_model_shard.specs.Shard.{Reply}
use Rattle.sd_model_shard.specs.History.{Act, History, summed_by}

pub summed_by-push : (weigh : Reply → ℕ) (acts : History) (a : Act) → summed_by weigh (acts ++ a ∷ []) ≡ summed_by weigh acts + weigh a.reply
summed_by-push weigh acts a = omega (arith, sum_by-append (λ (b : Act). weigh b.reply) acts (a ∷ []), sum_by-cons (λ (b : Act). weigh b.reply) a [])

-- Acts at shards: what they ask for, and what their replies add up to.
use Rattle.std.proofs.Common.{◌∙◌, ◌≡◌, ℕ, ◌+◌, ◌<◌, Bool, true, false, cond, eqb, [], ◌++◌, length, refl, ap, arith, length-append}
use Rattle.std.specs.Prelude.{All, sum_by}
use Rattle.std.specs.List.{range_with_len}
use Rattle.std.proofs.lemmas.List.{map-append}
use Rattle.std.proofs.lemmas.List.Elements.{All-nil}
use Rattle.std.proofs.lemmas.List.Sums.{sum_by-append}
use Rattle.sd_model_shard.specs.Shard.{Reply}
use Rattle.sd_model_shard.specs.History.{Act, History, dropped_in, summed_by}
use Rattle.sd_law_shard.specs.Sums.{taken_in}
use Rattle.sd_model_shard.proofs.OrderLemmas.{weighed_once}
use Rattle.sd_model_serve.specs.Receiving.{events_of, summed_in}
use Rattle.sd_batch.specs.Runs.{run_at}
use Rattle.sd_batch.proofs.SumLemmas.{sum_by-plus, sum_by-none}

pub events_of-append : (xs ys : History) → events_of (xs ++ ys) ≡ events_of xs ++ events_of ys
events_of-append xs ys = map-append (λ (a : Act). a.event) xs ys

pub summed_by-append : (weigh : Reply → ℕ) (xs ys : History) → summed_by weigh (xs ++ ys) ≡ summed_by weigh xs + summed_by weigh ys
summed_by-append weigh xs ys = sum_by-append (λ (a : Act). weigh a.reply) xs ys

-- the replies of acts at one shard, at shard i
run_reported : (weigh : Reply → ℕ) (home : ℕ) (made : History) (i : ℕ) → summed_by weigh (run_at home made i) ≡ cond (eqb i home) (summed_by weigh made) 0
run_reported weigh home made i = by_test (eqb i home) where
  by_test : (b : Bool) → summed_by weigh (cond b made []) ≡ cond b (summed_by weigh made) 0
  by_test true = refl
  by_test false = refl

-- the replies of two callers' acts, or of one's acts behind acts
pub summed_in-append : (weigh : Reply → ℕ) (shards : ℕ) (xs ys : ℕ → History) → summed_in weigh shards (λ i. xs i ++ ys i) ≡ summed_in weigh shards xs + summed_in weigh shards ys
summed_in-append weigh shards xs ys =
    sum_by-plus (λ i. summed_by weigh (xs i ++ ys i)) (λ i. summed_by weigh (xs i)) (λ i. summed_by weigh (ys i)) (λ i. summed_by-append weigh (xs i) (ys i)) (range_with_len 0 shards)

-- the replies at all shards, with those of a run more
pub summed_in-run : (weigh : Reply → ℕ) (shards home : ℕ) (made : History) (acts : ℕ → History) → home < shards
    → summed_in weigh shards (λ i. acts i ++ run_at home made i) ≡ summed_in weigh shards acts + summed_by weigh made
summed_in-run weigh shards home made acts below =
    let one : summed_in weigh shards (run_at home made) ≡ summed_by weigh made =
    ap (λ (f : ℕ → ℕ). sum_by f (range_with_len 0 shards)) (λ i k. run_reported weigh home made k i) ∙ weighed_once home (summed_by weigh made) 0 shards (omega arith) (omega arith) in
    omega (arith, summed_in-append weigh shards acts (run_at home made), one)

pub summed_in-none : (weigh : Reply → ℕ) (shards : ℕ) → summed_in weigh shards (λ i. []) ≡ 0
summed_in-none weigh shards = sum_by-none (range_with_len 0 shards)

-- acts at one shard are by their caller
pub run_by : (who home : ℕ) (made : History) (i : ℕ) → All (λ (b : Act). b.who ≡ who) made → All (λ (b : Act). b.who ≡ who) (run_at home made i)
run_by who home made i all = by_test (eqb i home) where
  by_test : (b : Bool) → All (λ (b : Act). b.who ≡ who) (cond b made [])
  by_test true = all
  by_test false = All-nil (λ (b : Act). b.who ≡ who)

-- each of some acts was taken or dropped
abbrev pub ArePlaced : History → Type 0
ArePlaced acts = summed_by taken_in acts + summed_by dropped_in acts ≡ length acts

pub ArePlaced-append : (xs ys : History) → ArePlaced xs → ArePlaced ys → ArePlaced (xs ++ ys)
ArePlaced-append xs ys first second =
    omega (arith, first, second, summed_by-append taken_in xs ys, summed_by-append dropped_in xs ys, length-append xs ys)

-- acts at one shard were
pub run_placed : (home : ℕ) (made : History) (i : ℕ) → ArePlaced made → ArePlaced (run_at home made i)
run_placed home made i one = by_test (eqb i home) where
  by_test : (b : Bool) → ArePlaced (cond b made [])
  by_test true = one
  by_test false = refl

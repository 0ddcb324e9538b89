use Rattle.std.proofs.Common.{◌≡◌, ℕ, ◌+◌, Bool, true, false, eqb, cond, [], ◌∷◌, ◌++◌, refl, sym, ap, ◌∙◌, append-nil, arith}
use Rattle.std.proofs.lemmas.Bool.{eqb-true, eq-eqb}
use Rattle.std.proofs.lemmas.List.Sums.{sum_by-append, sum_by-cons}
use Rattle.sd_model_shard.specs.Shard.{Reply}
use Rattle.sd_model_shard.specs.History.{Act, History, summed_by}
use Rattle.sd_pool.specs.Adding.{one_at}
use Rattle.sd_pool.specs.Pool.{own_at}
use Rattle.sd_pool.proofs.shares.shares_grow.Goals as goal

one_more : (weigh : Reply → ℕ) (acts : History) (a : Act) → summed_by weigh (acts ++ a ∷ []) ≡ summed_by weigh acts + weigh a.reply
one_more weigh acts a = omega (arith, sum_by-append (λ (b : Act). weigh b.reply) acts (a ∷ []), sum_by-cons (λ (b : Act). weigh b.reply) a [])

-- an act at its shard alone
added : (old new : ℕ → History) (i : ℕ) (a : Act) → new i ≡ old i ++ a ∷ [] → ((j : ℕ) → (j ≡ i → ⊥) → new j ≡ old j) → (j : ℕ) → new j ≡ old j ++ one_at i a j
added old new i a here others j = by_test (eqb j i) refl where
  by_test : (b : Bool) → eqb j i ≡ b → new j ≡ old j ++ cond b (a ∷ []) []
  by_test true is = let at = eqb-true j i is in ap new at ∙ here ∙ ap (λ (k : ℕ). old k ++ a ∷ []) (sym at)
  by_test false is = others j (λ at. let both = sym (eq-eqb j i at) ∙ is in cc) ∙ sym (append-nil (old j))

pub returns-clause-adds : goal.returns-clause-adds
returns-clause-adds c pool old new i a acts j below = added (own_at old) (own_at new) i a acts.own (λ k other. (acts.others k other).1) j

pub returns-clause-here : goal.returns-clause-here
returns-clause-here c pool old new i a acts weigh = ap (summed_by weigh) acts.own ∙ one_more weigh (own_at old i) a

pub returns-clause-others : goal.returns-clause-others
returns-clause-others c pool old new i a acts weigh j other = ap (summed_by weigh) (acts.others j other).1

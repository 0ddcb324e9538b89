-- What a caller's acts leave of shards in hand.
use Rattle.std.proofs.Common.{◌≡◌, ◌≢◌, ℕ, zero, suc, ◌+◌, ◌<◌, ◌≤◌, ◌⊎◌, inl, inr, cond, List, [], ◌∷◌, length, map, get_or, set, refl, sym, ap, subst, ◌∙◌, arith}
use Rattle.std.specs.Prelude.{All, sum_by}
use Rattle.std.specs.List.{range_with_len}
use Rattle.std.proofs.lemmas.Bool.{cases_eq, eq-eqb, ne_eqb}
use Rattle.std.proofs.lemmas.List.{length-set}
use Rattle.std.proofs.lemmas.List.Elements.{All-head, All-tail, All-get_or, All-set}
use Rattle.std.proofs.lemmas.List.Sums.{sum_by-cons}
use Rattle.sd_model_text.specs.Names.{shard}
use Rattle.sd_model_text.specs.Lines.{Sample, samples_of}
use Rattle.sd_model_shard.specs.Shard.{State, Stepped, Limits, Policy, Submit, Reply, step}
use Rattle.sd_model_shard.specs.History.{Act, History, LegalFrom, after_all, answered, part_of, dropped_in, summed_by}
use Rattle.sd_model_shard.proofs.HistoryLemmas.{LegalFrom-answered, asked_in, legal_is_answered}
use Rattle.sd_model_shard.proofs.OrderLemmas.{sum_by-flat_map, sum_by-map}
use Rattle.sd_model_serve.specs.Receiving.{asks, events_of, summed_in}
use Rattle.sd_model_replay.specs.Script.{Packet}
use Rattle.sd_model_replay.specs.Replay.{acts_of_record, home_of, replies_to, states_after}
use Rattle.sd_shard.specs.Shard.{Standing, state_of}
use Rattle.sd_batch.specs.declared.counts.Counts.{Counts}
use Rattle.sd_batch.specs.Runs.{CountsRun, TakesRun, run_at, submissions, submitted}
use Rattle.sd_shards.specs.Played.{AreReady, HavePlayed}
use Rattle.sd_shards.specs.Standings.{state_in, bounds_in, limits_in, policy_in, GoBy, GoTogether}
use Rattle.sd_shards.proofs.StandingLemmas.{GoBy-first, GoTogether-by, state_in-at, state_in-here, state_in-other}

-- a shard took the samples of a run
pub played_run : (who : ℕ) (samples : List Sample) (shards : List Standing) (i : ℕ) (before after : Standing) (counts : Counts) → before ≡ get_or shards i before → i < length shards → GoTogether shards
    → TakesRun before after samples counts
    → HavePlayed shards (set shards i after) (run_at i (submitted (limits_in shards) (policy_in shards) (state_in shards i) who samples))
    × CountsRun counts (submitted (limits_in shards) (policy_in shards) (state_in shards i) who samples)
played_run who samples shards i before after counts there below together takes =
    let Alike : Standing → Type 0 = λ x. (x.table.limits ≡ limits_in shards) × (x.policy ≡ policy_in shards) in
    let mine : Alike before = subst Alike (sym there) (All-get_or Alike shards i before below together) in
    let stood : state_of before ≡ state_in shards i = ap state_of there ∙ sym (state_in-at shards i before below) in
    let By : Limits → Policy → State → Type 0 = λ l p st. (state_of after ≡ after_all l p st (submitted l p st who samples)) × CountsRun counts (submitted l p st who samples) in
    let done : By (limits_in shards) (policy_in shards) (state_in shards i) =
    subst (By (limits_in shards) (policy_in shards)) stood
    (subst (λ p. By (limits_in shards) p (state_of before)) mine.1
    (subst (λ l. By l before.policy (state_of before)) mine.0 (takes.state who, takes.counted who))) in
    let bounds : GoBy (limits_in shards) (policy_in shards) (set shards i after) = All-set Alike shards i after (takes.limits ∙ mine.0, takes.policy ∙ mine.1) together in
    let first = GoBy-first (limits_in shards) (policy_in shards) (set shards i after) (omega (arith, length-set shards i after)) bounds in
    let made = submitted (limits_in shards) (policy_in shards) (state_in shards i) who samples in
    let Legal : ℕ → History → Type 0 = λ j acts. LegalFrom (limits_in shards) (policy_in shards) (state_in shards j) acts in
    let Left : ℕ → History → Type 0 = λ j acts. state_in (set shards i after) j ≡ after_all (limits_in shards) (policy_in shards) (state_in shards j) acts in (
      record {
        count = length-set shards i after;
        limits = first.0;
        policy = first.1;
        bounds = bounds;
        legal = λ j below_j. by_place Legal made (LegalFrom-answered (limits_in shards) (policy_in shards) (state_in shards i) (submissions who samples)) (λ k other. tt) j (cases_eq j i);
        states = λ j below_j. by_place Left made (state_in-here shards i after below ∙ done.0) (λ k other. state_in-other shards i after k other) j (cases_eq j i);
      },
      done.1,
    )
  where
    by_place : (P : ℕ → History → Type 0) (made : History) → P i made → ((j : ℕ) → j ≢ i → P j []) → (j : ℕ) → (j ≡ i) ⊎ (j ≡ i → ⊥) → P j (run_at i made j)
    by_place P made one others j (inl is) = subst (λ k. P k (run_at i made k)) (sym is) (subst (P i) (sym (ap (λ b. cond b made []) (eq-eqb i i refl))) one)
    by_place P made one others j (inr other) = subst (P j) (sym (ap (λ b. cond b made []) (ne_eqb j i other))) (others j other)

-- they can go on with it
pub still_ready : (old new : List Standing) (acts : ℕ → History) → AreReady old → HavePlayed old new acts → AreReady new
still_ready old new acts ready played = record {
  some = omega (arith, ready.some, played.count);
  few = omega (arith, ready.few, played.count);
  bounds = GoTogether-by (limits_in old) (policy_in old) new (omega (arith, ready.some, played.count)) played.bounds;
}

-- what acts of a caller ask, by the samples whose submission they ask for
asked_by_samples : (who : ℕ) (acts : History) (own : List Sample) → events_of acts ≡ map Submit own → All (λ a. a.who ≡ who) acts → asked_in acts ≡ map (λ s. record { who = who; event = Submit s }) own
asked_by_samples who [] [] is all = refl
asked_by_samples who [] (s ∷ own) is all = absurd (cc)
asked_by_samples who (a ∷ acts) [] is all = absurd (cc)
asked_by_samples who (a ∷ acts) (s ∷ own) is all =
    let event : a.event ≡ Submit s = cc in
    let rest : events_of acts ≡ map Submit own = cc in
    let mine = All-head (λ (b : Act). b.who ≡ who) a acts all in
    let behind = asked_by_samples who acts own rest (All-tail (λ (b : Act). b.who ≡ who) a acts all) in
    λ k. record { who = mine k; event = event k } ∷ behind k

-- sums over numbers in order that agree below the end
sums_agree : (f g : ℕ → ℕ) (start count most : ℕ) → start + count ≤ most → ((i : ℕ) → i < most → f i ≡ g i) → sum_by f (range_with_len start count) ≡ sum_by g (range_with_len start count)
sums_agree f g start zero most within same = refl
sums_agree f g start (suc count) most within same =
    omega (arith, sum_by-cons f start (range_with_len (start + 1) count), sum_by-cons g start (range_with_len (start + 1) count), same start (omega arith), sums_agree f g (start + 1) count most (omega arith) same)

-- a datagram of a caller, in shards that took its samples
module _ (who moment : ℕ) (datagram : List ℕ) (old new : List Standing) (acts : ℕ → History) (played : HavePlayed old new acts)
    (asked : (i : ℕ) → events_of (acts i) ≡ asks (length old) i (samples_of datagram)) (whose : (i : ℕ) → All (λ a. a.who ≡ who) (acts i)) where
  abbrev mine : ℕ → History
  mine i = acts_of_record (bounds_in old) (state_in old) i (Packet who moment datagram)

  acts_are : (i : ℕ) → i < length old → acts i ≡ mine i
  acts_are i below =
      sym (legal_is_answered (limits_in old) (policy_in old) (state_in old i) (acts i) (played.legal i below))
      ∙ ap (answered (limits_in old) (policy_in old) (state_in old i)) (asked_by_samples who (acts i) (part_of (home_of (length old)) i (samples_of datagram)) (asked i) (whose i))

  pub filed_are : (i : ℕ) → i < length old → state_in new i ≡ states_after (bounds_in old) (state_in old) (Packet who moment datagram) i
  filed_are i below = played.states i below ∙ ap (after_all (limits_in old) (policy_in old) (state_in old i)) (acts_are i below)

  pub drops_are : summed_in dropped_in (length old) acts ≡ sum_by dropped_in (replies_to (bounds_in old) (state_in old) (Packet who moment datagram))
  drops_are =
      sums_agree (λ i. summed_by dropped_in (acts i)) (λ i. sum_by dropped_in (map (λ (a : Act). a.reply) (mine i))) 0 (length old) (length old) (omega arith)
      (λ i below. ap (summed_by dropped_in) (acts_are i below) ∙ sym (sum_by-map dropped_in (λ (a : Act). a.reply) (mine i)))
      ∙ sym (sum_by-flat_map dropped_in (λ i. map (λ (a : Act). a.reply) (mine i)) (range_with_len 0 (length old)))

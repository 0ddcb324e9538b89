-- The samples of a run behind a turn.
use Rattle.std.proofs.Common.{◌≡◌, ℕ, ◌+◌, ◌<◌, ◌⊎◌, inl, inr, Bool, true, false, cond, eqb, List, [], ◌∷◌, ◌++◌, length, map, refl, sym, ap, subst, ◌∙◌, append-nil, arith, None}
use Rattle.std.specs.List.{AllByRecursion}
use Rattle.std.proofs.lemmas.Bool.{cases_eq, eqb-true, eq-eqb, ne_eqb}
use Rattle.std.proofs.lemmas.List.Elements.{All-nil}
use Rattle.sd_model_text.specs.Names.{shard}
use Rattle.sd_model_text.specs.Lines.{Sample}
use Rattle.sd_model_shard.specs.Shard.{Limits, Policy, State, Submit, empty_state, step}
use Rattle.sd_model_shard.specs.History.{Act, History, Legal, LegalFrom, after, after_all, state_after, part_of}
use Rattle.sd_model_shard.proofs.HistoryLemmas.{LegalFrom-answered}
use Rattle.sd_pool.specs.Adding.{Adds}
use Rattle.sd_batch.specs.declared.counts.Counts.{Counts}
use Rattle.sd_batch.specs.Batch.{Waiting}
use Rattle.sd_batch.specs.Runs.{CountsRun, run_at, submissions, submitted}
use Rattle.sd_batch.proofs.RunLemmas.{submitted_asks, submitted_long}
use Rattle.sd_shard.specs.Shard.{state_of}
use Rattle.sd_pool.specs.Setup.{Setup, IsOwn, OnlyOf, who_of}
use Rattle.sd_pool.specs.Noted.{Noted, acts, IsBySeat, IsLegal}
use Rattle.sd_pool.specs.Behind.{Behind, setup_of, Stands}
use Rattle.sd_pool.specs.Asks.{AreOf, Runs, entries_of, made_by, waiting_at}
use Rattle.sd_pool.specs.Pool.{ActsAll, own_at, shards_of, who_is}
use Rattle.sd_pool.specs.Submitting.{SubmitsRun}
use Rattle.sd_pool.specs.declared.pool.Pool.{Pool}
use Rattle.sd_pool.specs.declared.seat.Seat.{Seat}
use Rattle.sd_pool.proofs.AlongLemmas.{AllByRecursion-append}
use Rattle.sd_pool.proofs.OwnLemmas.{OnlyOf-step}
use Rattle.sd_pool.proofs.WhoLemmas.{acts-append}

-- acts, each noted with a seat's number
abbrev noted : ℕ → History → List Noted
noted number made = map (λ a. record { number = number; act = a }) made

acts_noted : (number : ℕ) (made : History) → acts (noted number made) ≡ made
acts_noted number [] = refl
acts_noted number (a ∷ made) = ap (λ (l : History). a ∷ l) (acts_noted number made)

-- samples that wait for a shard are of its keys
pub are_own : (shards i : ℕ) (samples : List Sample) → AreOf i shards (part_of (λ s. shard s.key shards) i samples)
are_own shards i [] = tt
are_own shards i (s ∷ samples) = by_test (eqb i (shard s.key shards)) refl (are_own shards i samples) where
  by_test : (b : Bool) → eqb i (shard s.key shards) ≡ b → AreOf i shards (part_of (λ s. shard s.key shards) i samples) → AreOf i shards (cond b (s ∷ part_of (λ s. shard s.key shards) i samples) (part_of (λ s. shard s.key shards) i samples))
  by_test true is rest = (sym (eqb-true i (shard s.key shards) is), rest)
  by_test false is rest = rest

-- a run of a batch is what waits for its shard
pub is_run : (batch : Waiting) (number shards home : ℕ) (run : List Sample) → run ≡ part_of (λ (s : Sample). shard s.key batch.shards) home batch.items → home ≡ number → batch.shards ≡ shards → run ≡ waiting_at shards number batch
is_run batch number shards home run is here all = is ∙ (λ k. part_of (λ (s : Sample). shard s.key (all k)) (here k) batch.items)

-- a shard with rows of its own keys alone gets no others by a run of its own
pub OnlyOf-run : (setup : Setup) (state : State) (who : ℕ) (samples : List Sample) → AreOf setup.shard setup.shards samples → OnlyOf setup.shard setup.shards state.live
    → OnlyOf setup.shard setup.shards (after_all setup.limits setup.policy state (submitted setup.limits setup.policy state who samples)).live
OnlyOf-run setup state who [] own only = only
OnlyOf-run setup state who (s ∷ samples) own only =
    OnlyOf-run setup (step setup.limits setup.policy state (Submit s)).state who samples own.1 (OnlyOf-step setup state (Submit s) own.0 only)

legal_behind : (limits : Limits) (policy : Policy) (state : State) (xs ys : History) → LegalFrom limits policy state xs → LegalFrom limits policy (after_all limits policy state xs) ys → LegalFrom limits policy state (xs ++ ys)
legal_behind limits policy state [] ys prefix back = back
legal_behind limits policy state (x ∷ xs) ys prefix back = (prefix.0, legal_behind limits policy (after limits policy state x) xs ys prefix.1 back)

state_behind : (limits : Limits) (policy : Policy) (state : State) (xs ys : History) → after_all limits policy state (xs ++ ys) ≡ after_all limits policy (after_all limits policy state xs) ys
state_behind limits policy state [] ys = refl
state_behind limits policy state (x ∷ xs) ys = state_behind limits policy (after limits policy state x) xs ys

module _ (setup : Setup) (number : ℕ) where
  own_entries : (state : State) (who : ℕ) (samples : List Sample) → AreOf setup.shard setup.shards samples
      → AllByRecursion (λ (n : Noted). IsOwn setup n.act.event) (noted number (submitted setup.limits setup.policy state who samples))
  own_entries state who [] own = tt
  own_entries state who (s ∷ samples) own = (own.0, own_entries (step setup.limits setup.policy state (Submit s)).state who samples own.1)

  by_seat : (state : State) (samples : List Sample) → number < setup.receivers + 2
      → AllByRecursion (IsBySeat setup.receivers) (noted number (submitted setup.limits setup.policy state (who_of setup.receivers number) samples))
  by_seat state [] below = tt
  by_seat state (s ∷ samples) below = ((below, refl), by_seat (step setup.limits setup.policy state (Submit s)).state samples below)

-- a history behind a turn goes on by a run
pub Stands-run : (old new : Behind) (log : List Noted) (number : ℕ) (samples : List Sample) → Stands old log → Runs old new samples → AreOf old.number old.shards samples → number < old.receivers + 2
    → Stands new (log ++ entries_of (setup_of old) number old samples)
Stands-run old new log number samples stands runs own below =
    let f = setup_of old in
    let who = who_of f.receivers number in
    let made = made_by f who old samples in
    let es = entries_of f number old samples in
    let all : acts (log ++ es) ≡ acts log ++ made = acts-append log es ∙ ap (λ (l : History). acts log ++ l) (acts_noted number made) in
    let legal : Legal f.limits f.policy (acts log ++ made) =
    legal_behind f.limits f.policy empty_state (acts log) made stands.legal.legal
    (subst (λ (s : State). LegalFrom f.limits f.policy s made) stands.state (LegalFrom-answered f.limits f.policy (state_of old.shard) (submissions who samples))) in
    let left : state_of new.shard ≡ state_after f.limits f.policy (acts log ++ made) =
    runs.state who ∙ ap (λ (s : State). after_all f.limits f.policy s made) stands.state ∙ sym (state_behind f.limits f.policy empty_state (acts log) made) in
    let is : IsLegal f (log ++ es) = record {
      legal = subst (Legal f.limits f.policy) (sym all) legal;
      own = AllByRecursion-append (λ (n : Noted). IsOwn f n.act.event) log es stands.legal.own (own_entries f number (state_of old.shard) who samples own);
      whose = AllByRecursion-append (IsBySeat f.receivers) log es stands.legal.whose (by_seat f number (state_of old.shard) samples below);
    } in
    record {
      legal = subst (λ (g : Setup). IsLegal g (log ++ es)) (sym runs.setup) is;
      state = left ∙ ap (state_after f.limits f.policy) (sym all) ∙ ap (λ (g : Setup). state_after g.limits g.policy (acts (log ++ es))) (sym runs.setup);
    }

-- acts at one shard alone
added : (old new : ℕ → History) (shards i : ℕ) (made : History) → new i ≡ old i ++ made → ((j : ℕ) → (j ≡ i → ⊥) → new j ≡ old j) → Adds shards (run_at i made) old new
added old new shards i made here others j below = by_place (cases_eq j i) where
  by_place : (j ≡ i) ⊎ (j ≡ i → ⊥) → new j ≡ old j ++ run_at i made j
  by_place (inl at) = ap new at ∙ here ∙ (λ k. old (sym at k) ++ made) ∙ ap (λ b. old j ++ cond b made []) (sym (eq-eqb j i at))
  by_place (inr other) = others j other ∙ sym (append-nil (old j)) ∙ ap (λ b. old j ++ cond b made []) (sym (ne_eqb j i other))

module _ (pool : Pool) (old : Seat) (i : ℕ) (samples : List Sample) where
  -- no sample waited for the shard
  pub none_run : samples ≡ [] → SubmitsRun pool old old i samples (record { taken = 0; dropped = 0; first_drop = None })
  none_run none = record {
    made = [];
    asked = ap (map Submit) (sym none);
    whose = All-nil (λ (a : Act). a.who ≡ who_is old);
    counted = record { taken = refl; dropped = refl; whole = refl };
    adds = added (own_at old) (own_at old) (shards_of pool) i [] (sym (append-nil (own_at old i))) (λ j other. refl);
    who = refl;
    acts = λ some. absurd (some refl);
    none = λ is. refl;
  }

  -- some did, and were submitted
  pub some_run : (new : Seat) (setup : Setup) (number : ℕ) (before : Behind) (counts : Counts) → 0 < length samples → who_of setup.receivers number ≡ who_is old
      → ActsAll pool old new i (acts (entries_of setup number before samples)) → ((who : ℕ) → CountsRun counts (made_by setup who before samples)) → SubmitsRun pool old new i samples counts
  some_run new setup number before counts some who left counted =
      let made = made_by setup (who_is old) before samples in
      let acts_are : ActsAll pool old new i made =
      subst (λ (w : ℕ). ActsAll pool old new i (made_by setup w before samples)) who
      (subst (ActsAll pool old new i) (acts_noted number (made_by setup (who_of setup.receivers number) before samples)) left) in
      let asks = submitted_asks setup.limits setup.policy (who_is old) (state_of before.shard) samples in
      let long = submitted_long setup.limits setup.policy (who_is old) (state_of before.shard) samples in
      record {
        made = made;
        asked = asks.0;
        whose = asks.1;
        counted = counted (who_is old);
        adds = added (own_at old) (own_at new) (shards_of pool) i made acts_are.own (λ j other. (acts_are.others j other).1);
        who = acts_are.who;
        acts = λ there. acts_are;
        none = λ is. let none = ap length is in absurd (omega (arith, none, long, some));
      }

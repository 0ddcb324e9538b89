-- The samples that wait, shard by shard.
use Rattle.std.proofs.Common.{◌≡◌, ℕ, suc, ◌+◌, ◌<◌, ◌≤◌, ◌⊎◌, inl, inr, Bool, true, false, cond, eqb, List, [], ◌∷◌, ◌++◌, length, map, refl, sym, ap, subst, ◌∙◌, arith, append-nil}
use Rattle.std.specs.Prelude.{All, None, sum_by}
use Rattle.std.specs.List.{range_with_len}
use Rattle.std.proofs.lemmas.Bool.{cases_eq, cases_lt, eq-eqb, ne_eqb}
use Rattle.std.proofs.lemmas.List.{length-map}
use Rattle.std.proofs.lemmas.List.Elements.{All-nil, All-append}
use Rattle.std.proofs.lemmas.List.Sums.{sum_by-cons}
use Rattle.sd_model_text.specs.Names.{shard}
use Rattle.sd_model_text.specs.Lines.{Sample}
use Rattle.sd_model_shard.specs.Shard.{Submit}
use Rattle.sd_model_shard.specs.History.{Act, History, dropped_in}
use Rattle.sd_law_shard.specs.Sums.{taken_in}
use Rattle.sd_model_shard.proofs.OrderLemmas.{weighed_once}
use Rattle.sd_model_serve.specs.Receiving.{asks, events_of, summed_in}
use Rattle.sd_batch.specs.Runs.{run_at}
use Rattle.sd_batch.specs.declared.counts.Counts.{Counts}
use Rattle.sd_batch.specs.declared.filing.Filed.{Filed}
use Rattle.sd_batch.specs.Filing.{SubmitsRun, SubmitsWaiting, waiting_at}
use Rattle.sd_batch.proofs.SumLemmas.{sum_by-none, sum_by-plus}
use Rattle.sd_batch.proofs.ReportedLemmas.{ArePlaced, ArePlaced-append, run_by, run_placed, summed_in-none, summed_in-run}

-- each sample waits for one of the shards
waiting_once : (shards : ℕ) → 0 < shards → (waiting : List Sample) → sum_by (λ i. length (waiting_at shards i waiting)) (range_with_len 0 shards) ≡ length waiting
waiting_once shards some [] = sum_by-none (range_with_len 0 shards)
waiting_once shards some (s ∷ waiting) =
    let home = shard s.key shards in
    let below : home < shards = omega (arith, some) in
    let first : (i : ℕ) → length (waiting_at shards i (s ∷ waiting)) ≡ cond (eqb i home) 1 0 + length (waiting_at shards i waiting) = λ i. by_test (eqb i home) (waiting_at shards i waiting) in
    let once : sum_by (λ i. cond (eqb i home) 1 0) (range_with_len 0 shards) ≡ 1 = weighed_once home 1 0 shards (omega arith) (omega arith) in
    let rest = waiting_once shards some waiting in
    let both = sum_by-plus (λ i. length (waiting_at shards i (s ∷ waiting))) (λ i. cond (eqb i home) 1 0) (λ i. length (waiting_at shards i waiting)) first (range_with_len 0 shards) in
    omega (arith, both, once, rest) where
      by_test : (b : Bool) (behind : List Sample) → length (cond b (s ∷ behind) behind) ≡ cond b 1 0 + length behind
      by_test true behind = omega arith
      by_test false behind = omega arith

-- none waits for a shard that isn't there
pub none_beyond : (shards i : ℕ) → 0 < shards → shards ≤ i → (waiting : List Sample) → asks shards i waiting ≡ []
none_beyond shards i some beyond [] = refl
none_beyond shards i some beyond (s ∷ waiting) =
    ap (λ b. map Submit (cond b (s ∷ waiting_at shards i waiting) (waiting_at shards i waiting))) (ne_eqb i (shard s.key shards) (λ is. omega (arith, is, beyond, some)))
    ∙ none_beyond shards i some beyond waiting

-- how many samples wait for the shards from one on
abbrev pub behind : ℕ → ℕ → List Sample → ℕ → ℕ
behind shards home waiting left = sum_by (λ i. length (waiting_at shards i waiting)) (range_with_len home left)

-- the samples of the first so many shards were submitted
pub record Submits (adds : (ℕ → History) → Type 0) (shards caller : ℕ) (waiting : List Sample) (home : ℕ) (old new : Filed) : Type 0 where
  pub acts : ℕ → History
  pub added : adds acts
  pub asked : (i : ℕ) → i < home → events_of (acts i) ≡ asks shards i waiting
  pub others : (i : ℕ) → home ≤ i → acts i ≡ []
  pub whose : (i : ℕ) → All (λ a. a.who ≡ caller) (acts i)
  pub placed : (i : ℕ) → ArePlaced (acts i)
  pub taken : new.taken ≡ old.taken + summed_in taken_in shards acts
  pub dropped : new.dropped ≡ old.dropped + summed_in dropped_in shards acts
  pub whole : (left : ℕ) → home + left ≡ shards → new.taken + new.dropped + behind shards home waiting left ≡ old.taken + old.dropped + length waiting
  pub lines : new.lines ≡ old.lines
  pub bad : new.bad ≡ old.bad

-- so far of no shard
pub none_submitted : (adds : (ℕ → History) → Type 0) (shards caller : ℕ) (waiting : List Sample) (filed : Filed) → 0 < shards → adds (λ i. []) → Submits adds shards caller waiting 0 filed filed
none_submitted adds shards caller waiting filed some added = record {
  acts = λ i. [];
  added = added;
  asked = λ i below. absurd (omega (arith, below));
  others = λ i past. refl;
  whose = λ i. All-nil (λ (a : Act). a.who ≡ caller);
  placed = λ i. refl;
  taken = let none = summed_in-none taken_in shards in omega (arith, none);
  dropped = let none = summed_in-none dropped_in shards in omega (arith, none);
  whole = λ left is. let all = waiting_once shards some waiting in let same : left ≡ shards = omega (arith, is) in
      ap (λ n. filed.taken + filed.dropped + behind shards 0 waiting n) same ∙ omega (arith, all);
  lines = refl;
  bad = refl;
}

-- how many of one shard are left to count
pub left_to_count : (adds : (ℕ → History) → Type 0) (shards caller : ℕ) (waiting : List Sample) (home left : ℕ) (old new : Filed) → Submits adds shards caller waiting home old new → home + suc left ≡ shards
    → new.taken + new.dropped + length (waiting_at shards home waiting) ≤ old.taken + old.dropped + length waiting
left_to_count adds shards caller waiting home left old new h is =
    let whole = h.whole (suc left) is in
    let first = sum_by-cons (λ i. length (waiting_at shards i waiting)) home (range_with_len (home + 1) left) in
    omega (arith, whole, first)

-- each of a run was counted
pub run_counted : (adds : (ℕ → History) → Type 0) (caller home : ℕ) (samples : List Sample) (counts : Counts) → SubmitsRun adds caller home samples counts → counts.taken + counts.dropped ≡ length samples
run_counted adds caller home samples counts o =
    o.counted.whole ∙ sym (length-map o.made (λ (a : Act). a.event)) ∙ ap length o.asked ∙ length-map samples Submit

-- the run of a shard is what waits for it
pub run_is : (shards spread home : ℕ) (waiting run : List Sample) → spread ≡ shards → run ≡ waiting_at spread home waiting → run ≡ waiting_at shards home waiting
run_is shards spread home waiting run same is = is ∙ ap (λ n. waiting_at n home waiting) same

-- none was submitted where none waits
pub none_run : (adds : (ℕ → History) → Type 0) (caller home : ℕ) (samples : List Sample) (counts : Counts) → counts ≡ record { taken = 0; dropped = 0; first_drop = None } → samples ≡ [] → adds (λ i. [])
    → SubmitsRun adds caller home samples counts
none_run adds caller home samples counts is none added = record {
  made = [];
  added = subst adds (λ k i. by_test (eqb i home) k) added;
  asked = ap (λ s. map Submit s) (sym none);
  whose = All-nil (λ (a : Act). a.who ≡ caller);
  counted = record {
    taken = ap (λ (n : Counts). n.taken) is;
    dropped = ap (λ (n : Counts). n.dropped) is;
    whole = let taken = ap (λ (n : Counts). n.taken) is in let dropped = ap (λ (n : Counts). n.dropped) is in omega (arith, taken, dropped);
  };
} where
  by_test : (b : Bool) → ◌≡◌ {A = History} [] (cond b [] [])
  by_test true = refl
  by_test false = refl

-- those of one more
pub run_submitted : (before one adds : (ℕ → History) → Type 0) (shards caller : ℕ) (waiting : List Sample) (home : ℕ) (counts : Counts) (old mid new : Filed)
    → ((xs ys : ℕ → History) → before xs → one ys → adds (λ i. xs i ++ ys i)) → home < shards
    → new ≡ record mid { taken = mid.taken + counts.taken; dropped = mid.dropped + counts.dropped }
    → Submits before shards caller waiting home old mid → SubmitsRun one caller home (waiting_at shards home waiting) counts → Submits adds shards caller waiting (home + 1) old new
run_submitted before one adds shards caller waiting home counts old mid new next below is h o =
    let taken : new.taken ≡ mid.taken + counts.taken = ap (λ (f : Filed). f.taken) is in
    let dropped : new.dropped ≡ mid.dropped + counts.dropped = ap (λ (f : Filed). f.dropped) is in
    let lines : new.lines ≡ mid.lines = ap (λ (f : Filed). f.lines) is in
    let bad : new.bad ≡ mid.bad = ap (λ (f : Filed). f.bad) is in
    let placed : ArePlaced o.made = omega (arith, o.counted.taken, o.counted.dropped, o.counted.whole) in
    let long = run_counted one caller home (waiting_at shards home waiting) counts o in
    record {
      acts = λ i. h.acts i ++ run_at home o.made i;
      added = next h.acts (run_at home o.made) h.added o.added;
      asked = λ i past. by_place i past (cases_eq i home);
      others = λ i past.
          ap (λ acts. acts ++ run_at home o.made i) (h.others i (omega (arith, past)))
          ∙ ap (λ b. cond b o.made []) (ne_eqb i home (λ same. omega (arith, same, past)));
      whose = λ i. All-append (λ (a : Act). a.who ≡ caller) (h.acts i) (run_at home o.made i) (h.whose i) (run_by caller home o.made i o.whose);
      placed = λ i. ArePlaced-append (h.acts i) (run_at home o.made i) (h.placed i) (run_placed home o.made i placed);
      taken = let run = summed_in-run taken_in shards home o.made h.acts below in omega (arith, taken, h.taken, o.counted.taken, run);
      dropped = let run = summed_in-run dropped_in shards home o.made h.acts below in omega (arith, dropped, h.dropped, o.counted.dropped, run);
      whole = λ left sum.
          let whole = h.whole (suc left) (omega (arith, sum)) in
          let first = sum_by-cons (λ i. length (waiting_at shards i waiting)) home (range_with_len (home + 1) left) in
          omega (arith, whole, first, taken, dropped, long);
      lines = lines ∙ h.lines;
      bad = bad ∙ h.bad;
    } where
      here : events_of (run_at home o.made home) ≡ asks shards home waiting
      here = ap (λ b. events_of (cond b o.made [])) (eq-eqb home home refl) ∙ o.asked

      by_place : (i : ℕ) → i < home + 1 → (i ≡ home) ⊎ (i ≡ home → ⊥) → events_of (h.acts i ++ run_at home o.made i) ≡ asks shards i waiting
      by_place i past (inl same) =
          subst (λ j. events_of (h.acts j ++ run_at home o.made j) ≡ asks shards j waiting) (sym same)
          (ap (λ acts. events_of (acts ++ run_at home o.made home)) (h.others home (omega arith)) ∙ here)
      by_place i past (inr other) =
          ap (λ b. events_of (h.acts i ++ cond b o.made [])) (ne_eqb i home other)
          ∙ ap events_of (append-nil (h.acts i))
          ∙ h.asked i (omega (arith, past, other))

-- those of all
pub all_submitted : (adds : (ℕ → History) → Type 0) (shards caller : ℕ) (waiting : List Sample) (home : ℕ) (old new : Filed) → 0 < shards → home ≡ shards
    → Submits adds shards caller waiting home old new → SubmitsWaiting adds shards caller waiting [] old new
all_submitted adds shards caller waiting home old new some end h = record {
  sent = waiting;
  split = sym (append-nil waiting);
  acts = h.acts;
  added = h.added;
  asked = λ i. by_place i (cases_lt i shards);
  whose = h.whose;
  placed = h.placed;
  taken = h.taken;
  dropped = h.dropped;
  whole = let whole = h.whole 0 (omega (arith, end)) in omega (arith, whole);
  lines = h.lines;
  bad = h.bad;
} where
  by_place : (i : ℕ) → (i < shards) ⊎ (shards ≤ i) → events_of (h.acts i) ≡ asks shards i waiting
  by_place i (inl below) = h.asked i (omega (arith, below, end))
  by_place i (inr past) = ap events_of (h.others i (omega (arith, past, end))) ∙ sym (none_beyond shards i some past waiting)

-- none was submitted
pub left_waiting : (adds : (ℕ → History) → Type 0) (shards caller : ℕ) (waiting : List Sample) (filed : Filed) → adds (λ i. []) → SubmitsWaiting adds shards caller waiting waiting filed filed
left_waiting adds shards caller waiting filed added = record {
  sent = [];
  split = refl;
  acts = λ i. [];
  added = added;
  asked = λ i. refl;
  whose = λ i. All-nil (λ (a : Act). a.who ≡ caller);
  placed = λ i. refl;
  taken = let none = summed_in-none taken_in shards in omega (arith, none);
  dropped = let none = summed_in-none dropped_in shards in omega (arith, none);
  whole = refl;
  lines = refl;
  bad = refl;
}

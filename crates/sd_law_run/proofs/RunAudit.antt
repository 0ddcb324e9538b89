-- The samples that shards took and dropped are those that were brought.
use Rattle.std.proofs.Common.{◌≡◌, ◌≢◌, ◌⊎◌, ℕ, zero, suc, ◌+◌, ◌<◌, ◌≤◌, ◌==◌, Bool, true, false, cond, List, [], ◌∷◌, length, map, get_or, refl, sym, ap, subst, ◌∙◌, inl, inr, arith, eq-eqb}
use Rattle.std.specs.Prelude.{sum_by, if◌then◌else◌, Option, Some, None}
use Rattle.std.specs.List.{range_with_len}
use Rattle.std.proofs.lemmas.Bool.{cases_eq, cases_lt}
use Rattle.std.proofs.lemmas.List.{length-map}
use Rattle.std.proofs.lemmas.List.Sums.{sum_by-cons}
use Rattle.sd_model_text.specs.Lines.{Sample}
use Rattle.sd_model_text.specs.Names.{shard}
use Rattle.sd_model_shard.specs.Shard.{Cause, Limits, Policy, State, Event, Reply, Submit, Swap, Delete, Dump, Look, admitted, refusal, step}
use Rattle.sd_model_shard.specs.History.{Act, History, LegalFrom, after, part_of, dropped_in, summed_by}
use Rattle.sd_law_shard.specs.Sums.{taken_in}
use Rattle.sd_model_shard.proofs.OrderLemmas.{sum_by-map, weighed_once}
use Rattle.sd_model_serve.specs.Receiving.{acts_by, administrator, asks, events_of, flusher, summed_in, Broadcast, acts_in}
use Rattle.sd_model_serve.specs.Rounds.{Ran, Round, swaps_at}
use Rattle.sd_session.specs.Commands.{AreCommands}
use Rattle.sd_model_run.proofs.CountedLemmas.{sum_by-across, sum_by-alike, sum_by-nothing, sum_by-range}
use Rattle.sd_model_serve.proofs.Short.{events_by}

-- 1 for a sample that is submitted
abbrev submit_in : Event → ℕ
submit_in (Submit s) = 1
submit_in Swap = 0
submit_in (Delete kind pattern) = 0
submit_in (Dump kind) = 0
submit_in Look = 0

-- how many samples acts submit
abbrev submits_in : History → ℕ
submits_in acts = sum_by (λ (a : Act). submit_in a.event) acts

by_admission : (state : State) (s : Sample) (answer : Option Cause) → taken_in (admitted state s answer).reply + dropped_in (admitted state s answer).reply ≡ 1
by_admission state s None = refl
by_admission state s (Some cause) = refl

-- a sample that is submitted is taken or dropped, and nothing else is
by_event : (limits : Limits) (policy : Policy) (state : State) (event : Event) → taken_in (step limits policy state event).reply + dropped_in (step limits policy state event).reply ≡ submit_in event
by_event limits policy state (Submit s) = by_admission state s (refusal limits state s)
by_event limits policy state Swap = refl
by_event limits policy state (Delete kind pattern) = refl
by_event limits policy state (Dump kind) = refl
by_event limits policy state Look = refl

each_submit : (limits : Limits) (policy : Policy) (state : State) (acts : History) → LegalFrom limits policy state acts → summed_by taken_in acts + summed_by dropped_in acts ≡ submits_in acts
each_submit limits policy state [] legal = refl
each_submit limits policy state (a ∷ acts) legal =
    let rest = each_submit limits policy (after limits policy state a) acts legal.1 in
    let one : taken_in a.reply + dropped_in a.reply ≡ submit_in a.event = ap (λ (r : Reply). taken_in r + dropped_in r) legal.0 ∙ by_event limits policy state a.event in
    let takes = sum_by-cons (λ (b : Act). taken_in b.reply) a acts in
    let drops = sum_by-cons (λ (b : Act). dropped_in b.reply) a acts in
    let submits = sum_by-cons (λ (b : Act). submit_in b.event) a acts in
    omega (arith, rest, one, takes, drops, submits)

-- what is left of a list of which a first element may be lacking
rest_of_none : (b : Bool) (a : Act) (acts : History) → (if b then a ∷ acts else acts) ≡ [] → acts ≡ []
rest_of_none true a acts none = absurd (cc)
rest_of_none false a acts none = none

none_of_first : (a : Act) (acts : History) → acts_by a.who (a ∷ acts) ≡ [] → ⊥
none_of_first a acts none = there (ap (λ b. if b then a ∷ acts_by a.who acts else acts_by a.who acts) (sym (eq-eqb a.who a.who refl)) ∙ none) where
  there : a ∷ acts_by a.who acts ≡ [] → ⊥
  there e = cc

first_part : (b : Bool) (f : Act → ℕ) (a : Act) (acts : History) → sum_by f (if b then a ∷ acts else acts) ≡ cond b (f a) 0 + sum_by f acts
first_part true f a acts = sum_by-cons f a acts
first_part false f a acts = omega arith

pub plus_all : (f g : ℕ → ℕ) (ks : List ℕ) → sum_by (λ k. f k + g k) ks ≡ sum_by f ks + sum_by g ks
plus_all f g [] = refl
plus_all f g (k ∷ ks) = let rest = plus_all f g ks in let a = sum_by-cons (λ j. f j + g j) k ks in let b = sum_by-cons f k ks in let c = sum_by-cons g k ks in omega arith

-- acts of callers below a number, caller by caller
by_callers : (f : Act → ℕ) (n : ℕ) (acts : History) → ((who : ℕ) → n ≤ who → acts_by who acts ≡ []) → sum_by f acts ≡ sum_by (λ who. sum_by f (acts_by who acts)) (range_with_len 0 n)
by_callers f n [] none = sym (sum_by-nothing (λ who. sum_by f (acts_by who [])) (range_with_len 0 n) (λ who. refl))
by_callers f n (a ∷ acts) none = by_test (cases_lt a.who n) (by_callers f n acts (λ who le. rest_of_none (who == a.who) a (acts_by who acts) (none who le))) where
  parts : sum_by (λ who. sum_by f (acts_by who (a ∷ acts))) (range_with_len 0 n) ≡ sum_by (λ who. cond (who == a.who) (f a) 0 + sum_by f (acts_by who acts)) (range_with_len 0 n)
  parts = sum_by-alike (λ who. sum_by f (acts_by who (a ∷ acts))) (λ who. cond (who == a.who) (f a) 0 + sum_by f (acts_by who acts)) (range_with_len 0 n) (λ who. first_part (who == a.who) f a (acts_by who acts))

  by_test : (a.who < n) ⊎ (n ≤ a.who) → sum_by f acts ≡ sum_by (λ who. sum_by f (acts_by who acts)) (range_with_len 0 n) → sum_by f (a ∷ acts) ≡ sum_by (λ who. sum_by f (acts_by who (a ∷ acts))) (range_with_len 0 n)
  by_test (inr above) rest = absurd (none_of_first a acts (none a.who above))
  by_test (inl below) rest =
      let first = sum_by-cons f a acts in
      let once = weighed_once a.who (f a) 0 n (omega arith) (omega (arith, below)) in
      let both = plus_all (λ who. cond (who == a.who) (f a) 0) (λ who. sum_by f (acts_by who acts)) (range_with_len 0 n) in
      omega (arith, rest, parts, first, once, both)

-- how many samples acts submit is told by what they ask for
submits_of_events : (acts : History) → submits_in acts ≡ sum_by submit_in (events_of acts)
submits_of_events acts = sym (sum_by-map submit_in (λ (a : Act). a.event) acts)

swaps_submit_nothing : (rounds : List Round) (i : ℕ) → submits_in (swaps_at rounds i) ≡ 0
swaps_submit_nothing [] i = refl
swaps_submit_nothing (r ∷ rounds) i = swaps_submit_nothing rounds i

commands_submit_nothing : (events : List Event) → AreCommands events → sum_by submit_in events ≡ 0
commands_submit_nothing [] h = refl
commands_submit_nothing (Submit s ∷ events) h = absurd h.0
commands_submit_nothing (Swap ∷ events) h = absurd h.0
commands_submit_nothing (Delete kind pattern ∷ events) h = commands_submit_nothing events h.1
commands_submit_nothing (Dump kind ∷ events) h = commands_submit_nothing events h.1
commands_submit_nothing (Look ∷ events) h = commands_submit_nothing events h.1

asked_submits : (shards i : ℕ) (samples : List Sample) → sum_by submit_in (asks shards i samples) ≡ length (part_of (λ (s : Sample). shard s.key shards) i samples)
asked_submits shards i samples = sum_by-map submit_in (λ (s : Sample). Submit s) (part_of (λ (s : Sample). shard s.key shards) i samples) ∙ ones (part_of (λ (s : Sample). shard s.key shards) i samples) where
  ones : (ss : List Sample) → sum_by (λ (s : Sample). submit_in (Submit s)) ss ≡ length ss
  ones [] = refl
  ones (s ∷ ss) = let rest = ones ss in let one = sum_by-cons (λ (t : Sample). submit_in (Submit t)) s ss in omega (arith, rest, one)

-- each sample belongs to one shard
module _ (shards : ℕ) (some : 0 < shards) where
  abbrev home : Sample → ℕ
  home s = shard s.key shards

  longer : (b : Bool) (s : Sample) (samples : List Sample) → length (if b then s ∷ samples else samples) ≡ cond b 1 0 + length samples
  longer true s samples = omega arith
  longer false s samples = omega arith

  all_parts : (samples : List Sample) → sum_by (λ i. length (part_of home i samples)) (range_with_len 0 shards) ≡ length samples
  all_parts [] = sum_by-nothing (λ i. length (part_of home i [])) (range_with_len 0 shards) (λ i. refl)
  all_parts (s ∷ samples) =
      let rest = all_parts samples in
      let parts = sum_by-alike (λ i. length (part_of home i (s ∷ samples))) (λ i. cond (i == home s) 1 0 + length (part_of home i samples)) (range_with_len 0 shards) (λ i. longer (i == home s) s (part_of home i samples)) in
      let within : home s < shards = omega (arith, some) in
      let once = weighed_once (home s) 1 0 shards (omega arith) (omega (arith, within)) in
      let both = plus_all (λ i. cond (i == home s) 1 0) (λ i. length (part_of home i samples)) (range_with_len 0 shards) in
      omega (arith, rest, parts, once, both)

-- the lists up to a number, where there are no more
shift : (f : ℕ → ℕ) (from n : ℕ) → sum_by f (range_with_len (from + 1) n) ≡ sum_by (λ k. f (k + 1)) (range_with_len from n)
shift f from zero = refl
shift f from (suc n) = let rest = shift f (from + 1) n in let a = sum_by-cons f (from + 1) (range_with_len (from + 1 + 1) n) in let b = sum_by-cons (λ k. f (k + 1)) from (range_with_len (from + 1) n) in omega (arith, rest, a, b)

all_lists : (lists : List (List Sample)) (n : ℕ) → length lists ≤ n → sum_by (λ k. length (get_or lists k [])) (range_with_len 0 n) ≡ sum_by length lists
all_lists [] n few = sum_by-nothing (λ k. length (get_or {A = List Sample} [] k [])) (range_with_len 0 n) (λ k. refl)
all_lists (l ∷ lists) zero few = absurd (omega (arith, few))
all_lists (l ∷ lists) (suc n) few =
    let rest = all_lists lists n (omega (arith, few)) in
    let first = sum_by-cons (λ k. length (get_or (l ∷ lists) k [])) 0 (range_with_len 1 n) in
    let behind = shift (λ k. length (get_or (l ∷ lists) k [])) 0 n in
    let same = sum_by-alike (λ k. length (get_or (l ∷ lists) (k + 1) [])) (λ k. length (get_or lists k [])) (range_with_len 0 n) (λ k. next k) in
    let both = sum_by-cons (λ (x : List Sample). length x) l lists in
    omega (arith, rest, first, behind, same, both) where
      next : (k : ℕ) → length (get_or (l ∷ lists) (k + 1) []) ≡ length (get_or lists k [])
      next k = let is : k + 1 ≡ suc k = omega arith in ap (λ j. length (get_or (l ∷ lists) j [])) is

past_end : (lists : List (List Sample)) (k : ℕ) → length lists ≤ k → get_or lists k [] ≡ []
past_end [] k past = refl
past_end (l ∷ lists) zero past = absurd (omega (arith, past))
past_end (l ∷ lists) (suc k) past = past_end lists k (omega (arith, past))

module _ (limits : Limits) (policy : Policy) (shards : ℕ) (brought : List (List Sample)) (rounds : List Round) (asked : List Broadcast) where
  -- more than the numbers of all callers
  abbrev callers : ℕ
  callers = length brought + 102

  module _ (i : ℕ) (acts : History) (ran : Ran limits policy shards brought rounds asked i acts) (commands : AreCommands (events_of (acts_in asked i))) where
    nobody : (who : ℕ) → callers ≤ who → acts_by who acts ≡ []
    nobody who past = ran.others who (omega (arith, past)) (omega (arith, past)) (omega (arith, past))

    of_caller : (who : ℕ) → submits_in (acts_by who acts) ≡ length (part_of (λ (s : Sample). shard s.key shards) i (get_or brought who []))
    of_caller who = by_test (cases_lt who (length brought)) where
      none : length brought ≤ who → submits_in (acts_by who acts) ≡ 0 → submits_in (acts_by who acts) ≡ length (part_of (λ (s : Sample). shard s.key shards) i (get_or brought who []))
      none past is = is ∙ sym (ap (λ (ss : List Sample). length (part_of (λ (s : Sample). shard s.key shards) i ss)) (past_end brought who past))

      by_other : length brought ≤ who → (who ≡ flusher) ⊎ (who ≢ flusher) → (who ≡ administrator) ⊎ (who ≢ administrator) → submits_in (acts_by who acts) ≡ 0
      by_other past (inl is) other = ap (λ w. submits_in (acts_by w acts)) is ∙ ap submits_in ran.swapped ∙ swaps_submit_nothing rounds i
      by_other past (inr not) (inl is) = ap (λ w. submits_in (acts_by w acts)) is ∙ ap submits_in ran.commanded ∙ submits_of_events (acts_in asked i) ∙ commands_submit_nothing (events_of (acts_in asked i)) commands
      by_other past (inr not) (inr neither) = ap submits_in (ran.others who past not neither)

      by_test : (who < length brought) ⊎ (length brought ≤ who) → submits_in (acts_by who acts) ≡ length (part_of (λ (s : Sample). shard s.key shards) i (get_or brought who []))
      by_test (inl below) = submits_of_events (acts_by who acts) ∙ ap (sum_by submit_in) (ran.submitted who below) ∙ asked_submits shards i (get_or brought who [])
      by_test (inr past) = none past (by_other past (cases_eq who flusher) (cases_eq who administrator))

    at_shard : summed_by taken_in acts + summed_by dropped_in acts ≡ sum_by (λ who. length (part_of (λ (s : Sample). shard s.key shards) i (get_or brought who []))) (range_with_len 0 callers)
    at_shard =
        each_submit limits policy _ acts ran.legal ∙ by_callers (λ (a : Act). submit_in a.event) callers acts nobody
        ∙ sum_by-alike (λ who. submits_in (acts_by who acts)) (λ who. length (part_of (λ (s : Sample). shard s.key shards) i (get_or brought who []))) (range_with_len 0 callers) of_caller

  -- all that was brought was taken or dropped, by histories of all shards
  pub all_brought : (histories : ℕ → History) → 0 < shards → ((i : ℕ) → i < shards → Ran limits policy shards brought rounds asked i (histories i)) → ((i : ℕ) → AreCommands (events_of (acts_in asked i)))
      → summed_in taken_in shards histories + summed_in dropped_in shards histories ≡ sum_by length brought
  all_brought histories some ran commands =
      let both = plus_all (λ i. summed_by taken_in (histories i)) (λ i. summed_by dropped_in (histories i)) (range_with_len 0 shards) in
      sym both
      ∙ sum_by-range (λ i. summed_by taken_in (histories i) + summed_by dropped_in (histories i)) (λ i. sum_by (λ who. length (part_of (λ (s : Sample). shard s.key shards) i (get_or brought who []))) (range_with_len 0 callers)) 0 shards
      (λ i below. at_shard i (histories i) (ran i (omega (arith, below))) (commands i))
      ∙ sum_by-across (λ i who. length (part_of (λ (s : Sample). shard s.key shards) i (get_or brought who []))) (range_with_len 0 shards) (range_with_len 0 callers)
      ∙ sum_by-alike (λ who. sum_by (λ i. length (part_of (λ (s : Sample). shard s.key shards) i (get_or brought who []))) (range_with_len 0 shards)) (λ who. length (get_or brought who [])) (range_with_len 0 callers) (λ who. all_parts shards some (get_or brought who []))
      ∙ all_lists brought callers (omega arith)

-- What an answer by the ends of loops says of their objects: those of receivers over their sources, that of the worker of the beat, and
-- others.
use Rattle.std.proofs.Common.{◌≡◌, ◌⊎◌, ℕ, zero, suc, ◌+◌, ◌<◌, ◌≤◌, Bool, true, false, List, [], ◌∷◌, ◌++◌, length, refl, sym, ap, ◌∙◌, inl, inr, arith}
use Rattle.std.specs.Prelude.{◌||◌, min, if◌then◌else◌, ⊤}
use Rattle.std.specs.List.{list_any}
use Rattle.std.proofs.lemmas.List.Folds.{list_any-append}
use Rattle.sd_model_outside.specs.Outside.{Object, Rose, last_count, object_at}
use Rattle.sd_model_outside.specs.Uses.{IsSpent}
use Rattle.sd_model_serve.specs.Receiving.{LoopEnd, Spent, Failed, Enough, LimitReached, EndsReceiver, EndsFlusher, IsShort, most_turns}
use Rattle.sd_model_call.specs.Opening.{OfSource, OfBeat}
use Rattle.sd_model_call.specs.Call.{Answer, Done, NotRead, NotWritten, Worn}
use Rattle.sd_model_call.specs.Server.{by_beat, by_receivers, ends_answer, reached_limit}
use Rattle.sd_law_call.specs.ServerCompleteness.{SourceTookMost}
use Rattle.sd_model_call.proofs.Short.{turns_answer}

-- how a loop over a source ended, which has seen at most so many flushes
pub record EndedSo (asked most : ℕ) (ended : LoopEnd) (source source_now : Object) : Type 0 where
  pub turned : ℕ
  pub turns : source_now.turns ≡ min (source.turns + turned) last_count
  pub seen : ℕ
  pub known : seen ≤ most
  pub ends : EndsReceiver asked ended source source_now seen turned

-- loops over sources, one each, did
abbrev pub AreEnded : (asked most : ℕ) → List LoopEnd → List Object → List Object → Type 0
AreEnded asked most [] sources sources_now = ⊤
AreEnded asked most (e ∷ es) [] sources_now = ⊥
AreEnded asked most (e ∷ es) (s ∷ sources) [] = ⊥
AreEnded asked most (e ∷ es) (s ∷ sources) (n ∷ sources_now) = EndedSo asked most e s n × AreEnded asked most es sources sources_now

-- a receiver that failed, or the answer is another's
abbrev pub ByReceiver : ℕ → Answer → List Object → List Object → Type 0
ByReceiver k answer ss ns = (i : ℕ) × (answer ≡ NotRead (OfSource (k + i))) × Rose (object_at i ss).faults (object_at i ns).faults

module _ (asked most : ℕ) (answer other : Answer) where
  behind_one : (k : ℕ) (s n : Object) (ss ns : List Object) → ByReceiver (k + 1) answer ss ns ⊎ (other ≡ answer) → ByReceiver k answer (s ∷ ss) (n ∷ ns) ⊎ (other ≡ answer)
  behind_one k s n ss ns (inl (i, is, rose)) = inl (suc i, is ∙ ap (λ j. NotRead (OfSource j)) (omega arith), rose)
  behind_one k s n ss ns (inr same) = inr same

  by_one : (k : ℕ) (es : List LoopEnd) (ss ns : List Object) → AreEnded asked most es ss ns → by_receivers k es other ≡ answer → ByReceiver k answer ss ns ⊎ (other ≡ answer)
  by_one k [] ss ns h is = inr is
  by_one k (e ∷ es) [] ns h is = absurd h
  by_one k (e ∷ es) (s ∷ ss) [] h is = absurd h
  by_one k (Spent ∷ es) (s ∷ ss) (n ∷ ns) h is = behind_one k s n ss ns (by_one (k + 1) es ss ns h.1 is)
  by_one k (Failed ∷ es) (s ∷ ss) (n ∷ ns) h is = inl (0, sym is ∙ ap (λ j. NotRead (OfSource j)) (omega arith), h.0.ends.0)
  by_one k (Enough flushes ∷ es) (s ∷ ss) (n ∷ ns) h is = behind_one k s n ss ns (by_one (k + 1) es ss ns h.1 is)
  by_one k (LimitReached turns ∷ es) (s ∷ ss) (n ∷ ns) h is = behind_one k s n ss ns (by_one (k + 1) es ss ns h.1 is)

by_flusher : (asked made : ℕ) (answer other : Answer) (ended : LoopEnd) (beat beat_now : Object) → EndsFlusher asked ended beat beat_now made → by_beat ended other ≡ answer
    → (answer ≡ NotRead OfBeat) × Rose beat.faults beat_now.faults ⊎ (other ≡ answer)
by_flusher asked made answer other Spent beat beat_now h is = inr is
by_flusher asked made answer other Failed beat beat_now h is = inl (sym is, h.0)
by_flusher asked made answer other (Enough flushes) beat beat_now h is = inr is
by_flusher asked made answer other (LimitReached turns) beat beat_now h is = inr is

by_turns : (es : List LoopEnd) (answer : Answer) → turns_answer es ≡ answer → (answer ≡ Worn most_turns) × (list_any reached_limit es ≡ true) ⊎ (answer ≡ Done) × (list_any reached_limit es ≡ false)
by_turns es answer is = by_test (list_any reached_limit es) refl where
  by_test : (limit_reached : Bool) → list_any reached_limit es ≡ limit_reached → (answer ≡ Worn most_turns) × (list_any reached_limit es ≡ true) ⊎ (answer ≡ Done) × (list_any reached_limit es ≡ false)
  by_test true found = inl (sym is ∙ ap (λ (b : Bool). if b then Worn most_turns else Done) found, found)
  by_test false found = inr (sym is ∙ ap (λ (b : Bool). if b then Worn most_turns else Done) found, found)

-- which loop took the most turns
abbrev pub OneSourceTookMost : List Object → List Object → Type 0
OneSourceTookMost ss ns = (i : ℕ) × SourceTookMost (object_at i ss) (object_at i ns)

module _ (rest : List LoopEnd) where
  limit_after : (s n : Object) (ss ns : List Object) → OneSourceTookMost ss ns ⊎ (list_any reached_limit rest ≡ true) → OneSourceTookMost (s ∷ ss) (n ∷ ns) ⊎ (list_any reached_limit rest ≡ true)
  limit_after s n ss ns (inl (i, most)) = inl (suc i, most)
  limit_after s n ss ns (inr is) = inr is

  pub limit_at_one : (asked most : ℕ) (es : List LoopEnd) (ss ns : List Object) → AreEnded asked most es ss ns → list_any reached_limit (es ++ rest) ≡ true → OneSourceTookMost ss ns ⊎ (list_any reached_limit rest ≡ true)
  limit_at_one asked most [] ss ns h is = inr is
  limit_at_one asked most (e ∷ es) [] ns h is = absurd h
  limit_at_one asked most (e ∷ es) (s ∷ ss) [] h is = absurd h
  limit_at_one asked most (Spent ∷ es) (s ∷ ss) (n ∷ ns) h is = limit_after s n ss ns (limit_at_one asked most es ss ns h.1 is)
  limit_at_one asked most (Failed ∷ es) (s ∷ ss) (n ∷ ns) h is = limit_after s n ss ns (limit_at_one asked most es ss ns h.1 is)
  limit_at_one asked most (Enough flushes ∷ es) (s ∷ ss) (n ∷ ns) h is = limit_after s n ss ns (limit_at_one asked most es ss ns h.1 is)
  limit_at_one asked most (LimitReached turns ∷ es) (s ∷ ss) (n ∷ ns) h is = inl (0, h.0.turns ∙ ap (λ k. min (s.turns + k) last_count) h.0.ends.1)

-- where enough flushes can't have been seen, and no loop failed or took the most turns, all sources are spent
spent_all : (asked most : ℕ) → IsShort asked most → (k : ℕ) (es : List LoopEnd) (other : Answer) (ss ns : List Object) → by_receivers k es other ≡ Done → list_any reached_limit es ≡ false → AreEnded asked most es ss ns
    → (i : ℕ) → i < length es → IsSpent (object_at i ns).content
spent_all asked most short k [] other ss ns done none h i below = absurd (omega (arith, below))
spent_all asked most short k (e ∷ es) other [] ns done none h i below = absurd h
spent_all asked most short k (e ∷ es) other (s ∷ ss) [] done none h i below = absurd h
spent_all asked most short k (Spent ∷ es) other (s ∷ ss) (n ∷ ns) done none h zero below = h.0.ends.0
spent_all asked most short k (Spent ∷ es) other (s ∷ ss) (n ∷ ns) done none h (suc i) below = spent_all asked most short (k + 1) es other ss ns done none h.1 i (omega (arith, below))
spent_all asked most short k (Failed ∷ es) other (s ∷ ss) (n ∷ ns) done none h i below = absurd (cc)
spent_all asked most short k (Enough flushes ∷ es) other (s ∷ ss) (n ∷ ns) done none h i below =
    let enough = h.0.ends.1 in let is = h.0.ends.2 in let few = short h.0.ends.0 in let known = h.0.known in absurd (omega (arith, enough, is, few, known))
spent_all asked most short k (LimitReached turns ∷ es) other (s ∷ ss) (n ∷ ns) done none h i below = absurd (cc)

-- the worker of the beat ended since nothing was left, or with all flushes that were asked for, where it did no more than that
pub flusher_done : (asked made : ℕ) (f : LoopEnd) (other : Answer) (beat beat_now : Object) → EndsFlusher asked f beat beat_now made → by_beat f other ≡ Done → reached_limit f ≡ false → (0 < asked) × (made ≡ asked) ⊎ IsSpent beat_now.content
flusher_done asked made Spent other beat beat_now h done none = inr h.0
flusher_done asked made Failed other beat beat_now h done none = absurd (cc)
flusher_done asked made (Enough n) other beat beat_now h done none = inl (h.0, h.2 ∙ h.1)
flusher_done asked made (LimitReached n) other beat beat_now h done none = absurd (cc)

pub both_false : (a b : Bool) → (a || b) ≡ false → (a ≡ false) × (b ≡ false)
both_false true b h = absurd (cc)
both_false false b h = (refl, h)

-- what an answer comes from: a receiver that failed; the beat; a loop that took the most turns; or all was done
abbrev pub ComesFrom : (received : List LoopEnd) (ticker : LoopEnd) (others : List LoopEnd) (ss ns : List Object) (beat beat_now : Object) → Answer → Type 0
ComesFrom received ticker others ss ns beat beat_now a =
    ByReceiver 0 a ss ns
    ⊎ (a ≡ NotRead OfBeat) × Rose beat.faults beat_now.faults
    ⊎ (a ≡ Worn most_turns) × (list_any reached_limit (received ++ ticker ∷ others) ≡ true)
    ⊎ (a ≡ Done) × (list_any reached_limit (received ++ ticker ∷ others) ≡ false)

module _ (asked most made : ℕ) (received : List LoopEnd) (ticker : LoopEnd) (others : List LoopEnd) (ss ns : List Object) (beat beat_now : Object) (loops : AreEnded asked most received ss ns) (ticked : EndsFlusher asked ticker beat beat_now made) where
  abbrev From : Answer → Type 0
  From a = ComesFrom received ticker others ss ns beat beat_now a

  abbrev all : List LoopEnd
  all = received ++ ticker ∷ others

  by_rest : (a : Answer) → (a ≡ NotRead OfBeat) × Rose beat.faults beat_now.faults ⊎ (turns_answer all ≡ a) → From a
  by_rest a (inl failed) = inr (inl failed)
  by_rest a (inr is) = inr (inr (by_turns all a is))

  by_others : (a : Answer) → ByReceiver 0 a ss ns ⊎ (by_beat ticker (turns_answer all) ≡ a) → From a
  by_others a (inl receiver) = inl receiver
  by_others a (inr is) = by_rest a (by_flusher asked made a (turns_answer all) ticker beat beat_now ticked is)

  pub comes_from : (a : Answer) → ends_answer received ticker others ≡ a → From a
  comes_from a is = by_others a (by_one asked most a (by_beat ticker (turns_answer all)) 0 received ss ns loops is)

-- where the answer is that all was done, the beat has nothing left or gave all flushes that were asked for, none of the others took the
-- most turns, and where enough flushes can't have been seen, the sources have nothing left
pub record AllDone (asked most made : ℕ) (received others : List LoopEnd) (ns : List Object) (beat_now : Object) : Type 0 where
  pub sources : IsShort asked most → (i : ℕ) → i < length received → IsSpent (object_at i ns).content
  pub beat : (0 < asked) × (made ≡ asked) ⊎ IsSpent beat_now.content
  pub none_reached_limit : list_any reached_limit others ≡ false

-- a beat that didn't give all flushes that were asked for has nothing left
pub beat_spent : (asked made : ℕ) (beat_now : Object) → IsShort asked made → (0 < asked) × (made ≡ asked) ⊎ IsSpent beat_now.content → IsSpent beat_now.content
beat_spent asked made beat_now short (inl (some, is)) = let few = short some in absurd (omega (arith, few, is))
beat_spent asked made beat_now short (inr spent) = spent

module _ (asked most made : ℕ) (received : List LoopEnd) (ticker : LoopEnd) (others : List LoopEnd) (ss ns : List Object) (beat beat_now : Object) (loops : AreEnded asked most received ss ns) (ticked : EndsFlusher asked ticker beat beat_now made)
    (done : ends_answer received ticker others ≡ Done) where
  abbrev every : List LoopEnd
  every = received ++ ticker ∷ others

  abbrev All : Type 0
  All = AllDone asked most made received others ns beat_now

  by_tests : list_any reached_limit every ≡ false → by_beat ticker (turns_answer every) ≡ Done → All
  by_tests none by =
      let one = both_false (list_any reached_limit received) _ (sym (list_any-append reached_limit received (ticker ∷ others)) ∙ none) in
      let two = both_false (reached_limit ticker) (list_any reached_limit others) one.1 in
      record {
        sources = λ short i below. spent_all asked most short 0 received _ ss ns done one.0 loops i below;
        beat = flusher_done asked made ticker _ beat beat_now ticked by two.0;
        none_reached_limit = two.1;
      }

  by_end : (Done ≡ Worn most_turns) × (list_any reached_limit every ≡ true) ⊎ (Done ≡ Done) × (list_any reached_limit every ≡ false) → by_beat ticker (turns_answer every) ≡ Done → All
  by_end (inl (is, limit_reached)) by = absurd (cc)
  by_end (inr (is, none)) by = by_tests none by

  by_flush : (Done ≡ NotRead OfBeat) × Rose beat.faults beat_now.faults ⊎ (turns_answer every ≡ Done) → by_beat ticker (turns_answer every) ≡ Done → All
  by_flush (inl (is, rose)) by = absurd (cc)
  by_flush (inr is) by = by_end (by_turns every Done is) by

  by_ends : ByReceiver 0 Done ss ns ⊎ (by_beat ticker (turns_answer every) ≡ Done) → All
  by_ends (inl (i, is, rose)) = absurd (cc)
  by_ends (inr is) = by_flush (by_flusher asked made Done (turns_answer every) ticker beat beat_now ticked is) is

  pub all_done : All
  all_done = by_ends (by_one asked most Done (by_beat ticker (turns_answer every)) 0 received ss ns loops done)

-- an answer that says that all was done is that of the whole text
pub whole_done : (whole : Answer) → (Done ≡ NotWritten) ⊎ (whole ≡ Done) → whole ≡ Done
whole_done whole (inl is) = absurd (cc)
whole_done whole (inr is) = is

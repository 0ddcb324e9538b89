-- Rounds, one after another.
use Rattle.std.proofs.Common.{◌≡◌, ℕ, ◌+◌, ◌<◌, ◌^◌, List, [], ◌∷◌, ◌++◌, length, map, flat_map, Option, refl, sym, ap, subst, ◌∙◌, arith, append_assoc, append-nil}
use Rattle.std.specs.Prelude.{Some, None}
use Rattle.std.proofs.lemmas.List.{map-append, length_push}
use Rattle.std.proofs.lemmas.Grind.{flat_map-append}
use Rattle.std.proofs.lemmas.List.Sums.{sum_by-append, sum_by-cons}
use Rattle.sd_model_outside.specs.Outside.{Object, Content, Ticks}
use Rattle.sd_outside.specs.Turns.{raised, GivesTick, turned}
use Rattle.sd_model_outside.specs.Uses.{with_ticks}
use Rattle.sd_model_outside.proofs.TurnLemmas.{with_ticks-append}
use Rattle.sd_model_shard.specs.History.{History}
use Rattle.sd_model_record.specs.Desk.{Marks, counted}
use Rattle.sd_model_outside.specs.Backend.{Backend}
use Rattle.sd_shared_desk.specs.Counts.{Part, HasCounted, nothing, plus, share}
use Rattle.sd_model_record.specs.DeskHistory.{DeskCall}
use Rattle.sd_shared_desk.proofs.CountLemmas.{counted_none, counted_next}
use Rattle.sd_pool.specs.Adding.{Adds}
use Rattle.sd_model_serve.specs.Rounds.{Round, RecordForm, last_second, round_calls, swaps_at}
use Rattle.sd_flush.specs.Made.{GivesRound, GivesRounds, MakesRound, MakesRounds, of_round, of_rounds}
use Rattle.sd_pool.proofs.ActsLemmas.{Adds-none, Adds-next}
use Rattle.sd_rows.specs.declared.row.Row.{Row}
use Rattle.sd_flush.specs.Flushing.{MakesRoundAt}
use Rattle.sd_model_serve.proofs.Short.{swap_of}
use Rattle.sd_desk.specs.Sums.{Count, Amounts}

-- the same amounts, where they are counted
counted_as : (a b : Amounts) (old new : Part) → ((c : Count) → a c ≡ b c) → HasCounted a old new → HasCounted b old new
counted_as a b old new same h = record {
  rises = h.rises;
  grows = λ c few. omega (arith, h.grows c few, same c);
  adds = λ c. h.adds c ∙ ap (counted (share old c)) (same c);
}

-- no ticks before those that are left
pub ticks_none : (content : Content) → content ≡ with_ticks [] content
ticks_none (Ticks left) = refl
ticks_none content = refl

-- the second of a round behind rounds
pub last_of : (rounds : List Round) (r : Round) → last_second (rounds ++ r ∷ []) ≡ Some r.ts
last_of [] r = refl
last_of (q ∷ []) r = refl
last_of (q ∷ p ∷ rounds) r = last_of (p ∷ rounds) r

-- swaps of a round behind those of rounds
pub swapped_next : (shards : ℕ) (own mid own_now : ℕ → History) (rounds : List Round) (r : Round) → Adds shards (swaps_at rounds) own mid → Adds shards (swaps_at (r ∷ [])) mid own_now
    → Adds shards (swaps_at (rounds ++ r ∷ [])) own own_now
swapped_next shards own mid own_now rounds r first second i below =
    Adds-next shards (swaps_at rounds) (swaps_at (r ∷ [])) own mid own_now first second i below
    ∙ ap (λ (acts : History). own i ++ acts) (sym (map-append (λ (q : Round). swap_of (q.tables i)) rounds (r ∷ [])))

-- what no round counts
pub none_counted : (part : Part) → HasCounted (of_rounds []) part part
none_counted part = counted_as nothing (of_rounds []) part part (λ c. refl) (counted_none part)

-- what a round counts behind rounds
pub round_counted : (part part_mid part_now : Part) (rounds : List Round) (r : Round) → HasCounted (of_rounds rounds) part part_mid → HasCounted (of_round r) part_mid part_now
    → HasCounted (of_rounds (rounds ++ r ∷ [])) part part_now
round_counted part part_mid part_now rounds r first second =
    counted_as (plus (of_rounds rounds) (of_round r)) (of_rounds (rounds ++ r ∷ [])) part part_now
    (λ c. sym (sum_by-append (λ (q : Round). of_round q c) rounds (r ∷ []) ∙ ap (λ n. of_rounds rounds c + n) (sum_by-cons (λ (q : Round). of_round q c) r [] ∙ omega arith)))
    (counted_next (of_rounds rounds) (of_round r) part part_mid part_now first second)

-- one call, and then another
pub both_calls : (a b : DeskCall) (was mid now : List DeskCall) → mid ≡ was ++ a ∷ [] → now ≡ mid ++ b ∷ [] → now ≡ was ++ a ∷ b ∷ []
both_calls a b was mid now first second = second ∙ ap (λ (l : List DeskCall). l ++ b ∷ []) first ∙ append_assoc was (a ∷ []) (b ∷ [])

-- what a round calls behind rounds
pub round_called : (part part_mid part_now : Part) (rounds : List Round) (r : Round) → part_mid.own ≡ part.own ++ flat_map round_calls rounds → part_now.own ≡ part_mid.own ++ round_calls r
    → part_now.own ≡ part.own ++ flat_map round_calls (rounds ++ r ∷ [])
round_called part part_mid part_now rounds r first second =
    let one : flat_map round_calls (r ∷ []) ≡ round_calls r = append-nil (round_calls r) in
    let all : flat_map round_calls (rounds ++ r ∷ []) ≡ flat_map round_calls rounds ++ round_calls r = flat_map-append round_calls rounds (r ∷ []) ∙ ap (λ (l : List DeskCall). flat_map round_calls rounds ++ l) one in
    second ∙ ap (λ (l : List DeskCall). l ++ round_calls r) first ∙ append_assoc part.own (flat_map round_calls rounds) (round_calls r) ∙ ap (λ (l : List DeskCall). part.own ++ l) (sym all)

-- a beat of which no tick was read
pub none_read : (beat : Object) → beat ≡ record beat { content = beat.content; turns = beat.turns + 0 }
none_read beat = ap (λ (n : ℕ). record beat { turns = n }) (let none : beat.turns ≡ beat.turns + 0 = omega arith in none)

-- ticks that a beat gave, and one more
pub given_next : (beat beat_mid beat_now : Object) (rounds : List Round) (r : Round) (ts : ℕ) → r.ts ≡ ts → beat.content ≡ with_ticks (map (λ q. q.ts) rounds) beat_mid.content → GivesTick ts beat_mid beat_now
    → beat.content ≡ with_ticks (map (λ q. q.ts) (rounds ++ r ∷ [])) beat_now.content
given_next beat beat_mid beat_now rounds r ts second first tick =
    first ∙ ap (with_ticks (map (λ (q : Round). q.ts) rounds)) content
    ∙ with_ticks-append beat_now.content (map (λ (q : Round). q.ts) rounds) (ts ∷ [])
    ∙ ap (λ (ticks : List ℕ). with_ticks ticks beat_now.content) (sym times) where
      content : beat_mid.content ≡ with_ticks (ts ∷ []) beat_now.content
      content = ap (λ (o : Object). o.content) tick

      times : map (λ (q : Round). q.ts) (rounds ++ r ∷ []) ≡ map (λ (q : Round). q.ts) rounds ++ ts ∷ []
      times = map-append (λ (q : Round). q.ts) rounds (r ∷ []) ∙ ap (λ (t : ℕ). map (λ (q : Round). q.ts) rounds ++ t ∷ []) second

-- nothing else of the beat changes
pub read_next : (beat beat_mid beat_now : Object) (made ts : ℕ) → beat.turns + made < 2 ^ 63 → beat_mid ≡ record beat { content = beat_mid.content; turns = beat.turns + made } → GivesTick ts beat_mid beat_now
    → beat_now ≡ record beat { content = beat_now.content; turns = beat.turns + (made + 1) }
read_next beat beat_mid beat_now made ts few first tick =
    sym (ap (λ (o : Object). record o { content = beat_now.content }) tick)
    ∙ ap (λ (o : Object). record (turned o) { content = beat_now.content }) first
    ∙ ap (λ (n : ℕ). record beat { content = beat_now.content; turns = n }) once where
      once : raised (beat.turns + made) ≡ beat.turns + (made + 1)
      once = omega (arith, few)

module _ {D : Type 0} (form : RecordForm) (gives : (Backend → List ℕ) → Marks → D → D → Type 0) where
  -- Rounds were made at the ticks that were read, as many, the last of them at this second.
  pub record SoFar (own own_now : ℕ → History) (part part_now : Part) (old now : D) (beat beat_now : Object) (made : ℕ) (last : Option ℕ) : Type 0 where
    pub rounds : List Round
    pub are_made : MakesRounds form gives rounds own own_now part part_now old now
    pub count : length rounds ≡ made
    pub given : beat.content ≡ with_ticks (map (λ r. r.ts) rounds) beat_now.content
    pub same : beat_now ≡ record beat { content = beat_now.content; turns = beat.turns + made }
    pub last_is : last ≡ last_second rounds

  -- the record of a round behind those of rounds
  given_behind : (rounds : List Round) (r : Round) (old mid new : D) → GivesRounds form gives rounds old mid → GivesRound form gives r mid new → GivesRounds form gives (rounds ++ r ∷ []) old new
  given_behind [] r old mid new first second = (new, subst (λ (d : D). GivesRound form gives r d new) first second, refl)
  given_behind (q ∷ rounds) r old mid new first second = (first.0, first.1, given_behind rounds r first.0 mid new first.2 second)

  pub no_rounds : (own : ℕ → History) (part : Part) (delivery : D) (beat : Object) → SoFar own own part part delivery delivery beat beat 0 None
  no_rounds own part delivery beat = record {
    rounds = [];
    are_made = record { swapped = Adds-none form.shards own; given = refl; counted = none_counted part; called = sym (append-nil part.own) };
    count = refl;
    given = ticks_none beat.content;
    same = none_read beat;
    last_is = refl;
  }

  module _ (own mid own_now : ℕ → History) (part part_mid part_now : Part) (old was new : D) where
    -- a round behind rounds
    rounds_next : (rounds : List Round) (r : Round) → MakesRounds form gives rounds own mid part part_mid old was → MakesRound form gives r mid own_now part_mid part_now was new
        → MakesRounds form gives (rounds ++ r ∷ []) own own_now part part_now old new
    rounds_next rounds r first second = record {
      swapped = swapped_next form.shards own mid own_now rounds r first.swapped second.swapped;
      given = given_behind rounds r old was new first.given second.given;
      counted = round_counted part part_mid part_now rounds r first.counted second.counted;
      called = round_called part part_mid part_now rounds r first.called second.called;
    }

    -- a tick, and its round
    pub SoFar-next : (beat beat_mid beat_now : Object) (made ts : ℕ) (before : Option ℕ) (marks : Marks) (waiting : List (List (Option Row))) → beat.turns + made < 2 ^ 63
        → SoFar own mid part part_mid old was beat beat_mid made before → GivesTick ts beat_mid beat_now
        → MakesRoundAt form gives ts marks mid own_now part_mid part_now was new waiting
        → SoFar own own_now part part_now old new beat beat_now (made + 1) (Some ts)
    SoFar-next beat beat_mid beat_now made ts before marks waiting few first tick second = record {
      rounds = first.rounds ++ second.round ∷ [];
      are_made = rounds_next first.rounds second.round first.are_made second.made;
      count = length_push first.rounds second.round ∙ ap (λ n. n + 1) first.count;
      given = given_next beat beat_mid beat_now first.rounds second.round ts second.second first.given tick;
      same = read_next beat beat_mid beat_now made ts few first.same tick;
      last_is = sym (last_of first.rounds second.round ∙ ap Some second.second);
    }

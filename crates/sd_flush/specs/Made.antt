-- Rounds that were made, what they add to a desk's numbers, and the tables of shards in order.
use Rattle.std.specs.Prelude.{◌≡◌, ℕ, List, [], ◌∷◌, ◌++◌, flat_map, get_or, sum_by}
use Rattle.std.specs.FinMap.{empty}
use Rattle.sd_model_shard.specs.Shard.{Table}
use Rattle.sd_model_shard.specs.History.{History}
use Rattle.sd_shared_desk.specs.Counts.{Part, HasCounted, plus, of_taken, of_marks}
use Rattle.sd_model_outside.specs.Backend.{Backend}
use Rattle.sd_model_record.specs.Desk.{Marks}
use Rattle.sd_pool.specs.Adding.{Adds}
use Rattle.sd_model_serve.specs.Rounds.{RecordForm, Round, round_calls, round_text, swaps_at}
use Rattle.sd_desk.specs.Sums.{Amounts}

-- the table of shard i among tables in the order of the shards, and an empty one past their end
abbrev pub table_at : List Table → ℕ → Table
table_at tables i = get_or tables i (record { live = empty })

-- what a round adds to the desk's numbers: the tally that it took, and its marks
abbrev pub of_round : Round → Amounts
of_round r = plus (of_taken r.tally) (of_marks r.marks)

-- what rounds add
abbrev pub of_rounds : List Round → Amounts
of_rounds rounds count = sum_by (λ r. of_round r count) rounds

module _ {D : Type 0} (form : RecordForm) (gives : (Backend → List ℕ) → Marks → D → D → Type 0) where
  -- a delivery was given the record of a round, and answered its marks
  abbrev pub GivesRound : Round → D → D → Type 0
  GivesRound r old new = gives (λ b. round_text form b r) r.marks old new

  -- those of rounds, one after another
  abbrev pub GivesRounds : List Round → D → D → Type 0
  GivesRounds [] old new = new ≡ old
  GivesRounds (r ∷ rounds) old new = (mid : D) × GivesRound r old mid × GivesRounds rounds mid new

  -- A round was made: each shard was swapped once, the desk's tally was taken, the delivery was given the record of both, and the
  -- desk was given the marks.
  pub record MakesRound (round : Round) (own own_now : ℕ → History) (part part_now : Part) (old new : D) : Type 0 where
    pub swapped : Adds form.shards (swaps_at (round ∷ [])) own own_now
    pub given : GivesRound round old new
    pub counted : HasCounted (of_round round) part part_now
    pub called : part_now.own ≡ part.own ++ round_calls round

  -- Rounds were made, one after another.
  pub record MakesRounds (rounds : List Round) (own own_now : ℕ → History) (part part_now : Part) (old new : D) : Type 0 where
    pub swapped : Adds form.shards (swaps_at rounds) own own_now
    pub given : GivesRounds rounds old new
    pub counted : HasCounted (of_rounds rounds) part part_now
    pub called : part_now.own ≡ part.own ++ flat_map round_calls rounds

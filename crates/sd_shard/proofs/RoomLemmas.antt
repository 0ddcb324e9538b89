-- What room a sample finds that isn't refused.
use Rattle.std.proofs.Common.{◌≡◌, ℕ, ◌+◌, ◌-◌, ◌^◌, ◌<◌, ◌≤◌, Bool, true, false, cond, not, ◌&&◌, List, [], ◌∷◌, refl, ap, ◌∙◌, Option, Some, None, arith, sum_by}
use Rattle.std.specs.FinMap.{entries, len, contains_key}
use Rattle.std.specs.Prelude.{nat_lt}
use Rattle.std.proofs.lemmas.Bool.{ltb-true}
use Rattle.std.proofs.lemmas.List.Sums.{sum_by-cons}
use Rattle.sd_model_text.specs.Lines.{Sample}
use Rattle.sd_model_shard.specs.Rows.{RowId, Rows, Kept, row_of, is_listed, samples_in}
use Rattle.sd_model_shard.specs.Shard.{State, Limits, Cause, NoRow, NoNumber, refusal, is_full, full_cause, last_number}
use Rattle.sd_model_shard.proofs.Short.{listed_in}

admits : (limits : Limits) (state : State) (live : ℕ) (b : Bool) (o : Option Cause) → nat_lt live limits.rows ≡ b → None ≡ cond (not b) (Some (NoRow live limits.rows)) o → live < limits.rows
admits limits state live true o test h = ltb-true live limits.rows test
admits limits state live false o test h = absurd (cc)

-- what the tests behind the first one say
abbrev tests_left : Limits → State → Sample → Option Cause
tests_left limits state s =
    cond (is_full limits state limits.sums_on_arrival (is_listed s.kind)) (Some (full_cause limits state limits.sums_on_arrival (is_listed s.kind)))
    (cond (nat_lt state.taken last_number) None (Some (NoNumber state.taken)))

-- a sample of a new row that isn't refused finds room for the row
pub room_for_row : (limits : Limits) (state : State) (s : Sample) → None ≡ refusal limits state s → contains_key state.live (row_of s) ≡ false → len state.live < limits.rows
room_for_row limits state s none absent =
    admits limits state (len state.live) (nat_lt (len state.live) limits.rows) (tests_left limits state s) refl
    (none ∙ ap (λ b. cond (not b && not (nat_lt (len state.live) limits.rows)) (Some (NoRow (len state.live) limits.rows)) (tests_left limits state s)) absent)

not_full : (a full : Bool) (x y : Cause) (rest : Option Cause) → None ≡ cond a (Some x) (cond full (Some y) rest) → full ≡ false
not_full true full x y rest h = absurd (cc)
not_full false true x y rest h = absurd (cc)
not_full false false x y rest h = refl

-- a sample that isn't refused finds room among the samples
pub room_left : (limits : Limits) (state : State) (s : Sample) → None ≡ refusal limits state s → is_full limits state limits.sums_on_arrival (is_listed s.kind) ≡ false
room_left limits state s none =
    not_full (not (contains_key state.live (row_of s)) && not (nat_lt (len state.live) limits.rows)) (is_full limits state limits.sums_on_arrival (is_listed s.kind)) _ _ _ none

below : (a b : ℕ) → not (nat_lt a b) ≡ false → a < b
below a b h = by_test (nat_lt a b) refl h where
  by_test : (t : Bool) → nat_lt a b ≡ t → not t ≡ false → a < b
  by_test true t h = ltb-true a b t
  by_test false t h = absurd (cc)

-- What the second test leaves: room for an entry where the sample is listed, and for one sample more.
pub record HasRoom (limits : Limits) (state : State) (listed : Bool) : Type 0 where
  pub entry : listed ≡ true → state.listed < limits.entries
  pub sum : state.held + 1 ≤ state.listed + cond listed 1 0 + 2 ^ 37
  pub held : state.held < 2 ^ 37 + 2 ^ 20

pub has_room : (limits : Limits) (state : State) (sums listed : Bool) → is_full limits state sums listed ≡ false → state.listed ≤ state.held → state.listed ≤ limits.entries → limits.entries ≤ 2 ^ 20
    → state.held ≤ state.listed + 2 ^ 37 → HasRoom limits state listed
has_room limits state false true h few within range summed = let lt = below state.held limits.entries h in record { entry = λ _. omega (arith, lt, few); sum = omega (arith, summed); held = omega (arith, lt, range) }
has_room limits state false false h few within range summed = let lt = below state.held limits.entries h in record { entry = λ e. absurd (cc); sum = omega (arith, lt, range); held = omega (arith, lt, range) }
has_room limits state true true h few within range summed = let lt = below state.listed limits.entries h in record { entry = λ _. lt; sum = omega (arith, summed); held = omega (arith, lt, range, summed) }
has_room limits state true false h few within range summed =
    let lt = below (state.held - state.listed) (2 ^ 37) h in record { entry = λ e. absurd (cc); sum = omega (arith, lt); held = omega (arith, lt, within, range) }

-- no more samples are listed than there are
pub listed_few : (rows : Rows) → listed_in rows ≤ samples_in rows
listed_few rows = by_rows (entries rows) where
  less : (b : Bool) (n : ℕ) → cond b n 0 ≤ n
  less true n = omega arith
  less false n = omega arith

  by_rows : (es : List (RowId × Kept)) → sum_by (λ (row : RowId × Kept). cond (is_listed row.0.kind) row.1.since.samples 0) es ≤ sum_by (λ (row : RowId × Kept). cond true row.1.since.samples 0) es
  by_rows [] = omega arith
  by_rows (e ∷ es) =
      omega (
        arith,
        by_rows es,
        less (is_listed e.0.kind) e.1.since.samples,
        sum_by-cons (λ (row : RowId × Kept). cond (is_listed row.0.kind) row.1.since.samples 0) e es,
        sum_by-cons (λ (row : RowId × Kept). cond true row.1.since.samples 0) e es,
      )

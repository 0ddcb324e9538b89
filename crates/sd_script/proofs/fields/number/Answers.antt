use Rattle.std.proofs.Common.{◌≡◌, ◌≢◌, ℕ, ◌^◌, ◌<◌, ◌≤◌, true, false, List, length, get_or, decimal, Option, Some, None, MatchOption, IfSome, IfNone, ◌⊎◌, ⊎_elim, sym, ◌∙◌, arith}
use Rattle.std.specs.Char.{is_ascii_digit}
use Rattle.std.specs.List.{list_all}
use Rattle.std.specs.Str.Parse.{digits_value}
use Rattle.sd_script.specs.Fields.{IsNumber}
use Rattle.sd_model_replay.proofs.Numbers.{IsWritten-from, number_written}
use Rattle.sd_script.proofs.fields.number.Goals as goal

-- what the value of digits is told as
abbrev IsValue : List ℕ → Option ℕ → Type 0
IsValue ds r = MatchOption r (list_all is_ascii_digit ds ≡ false) (λ n. (list_all is_ascii_digit ds ≡ true) × (n ≡ digits_value 10 ds))

-- 0 doesn't stand first, or no other digit follows it
abbrev HasNoLeadingZero : List ℕ → Type 0
HasNoLeadingZero ds = ((get_or ds 0 0 ≡ 48) × (length ds ≤ 1)) ⊎ (get_or ds 0 0 ≡ 48 → ⊥)

first_of : (ds : List ℕ) → HasNoLeadingZero ds → get_or ds 0 0 ≡ 48 → length ds ≤ 1
first_of ds form leading = ⊎_elim (λ alone. alone.1) (λ other. absurd (other leading)) form

number_of : (ds : List ℕ) (most : ℕ) (r : Option ℕ) → IsValue ds r → most ≤ 18 → 0 < length ds → length ds ≤ most → HasNoLeadingZero ds → IfSome r (IsNumber ds most)
number_of ds most None value few some short form = tt
number_of ds most (Some n) value few some short form =
    let written = number_written ds most few value.0 some short (first_of ds form) in
    rw value.1 (record { written = written.1; fits = written.0 })

no_number : (ds : List ℕ) (most : ℕ) (r : Option ℕ) → IsValue ds r → 0 < most → most ≤ 18 → IfNone r ((n : ℕ) → n < 10 ^ most → ds ≢ decimal n)
no_number ds most (Some n) value some few = tt
no_number ds most None value some few = λ n small same.
    let digits : true ≡ false = sym (IsWritten-from ds most n some few small same).digits ∙ value in
    cc

pub returns-then-is_empty-clause-other : goal.returns-then-is_empty-clause-other
returns-then-is_empty-clause-other c = λ n small same.
    let written = IsWritten-from c.args.digits.now c.args.most n c.requires.some c.requires.few small same in
    grind arith

pub returns-then-digits-gt1-clause-other : goal.returns-then-digits-gt1-clause-other
returns-then-digits-gt1-clause-other c = λ n small same.
    let written = IsWritten-from c.args.digits.now c.args.most n c.requires.some c.requires.few small same in
    let one : length c.args.digits.now ≤ 1 = written.first (grind arith) in
    omega arith

pub returns-clause-number : goal.returns-clause-number
returns-clause-number c =
    number_of c.args.digits.now c.args.most _ c.value_of.ensures c.requires.few (grind arith) (omega arith) c.else-digits-eq48.either

pub returns-clause-other : goal.returns-clause-other
returns-clause-other c =
    no_number c.args.digits.now c.args.most _ c.value_of.ensures c.requires.some c.requires.few

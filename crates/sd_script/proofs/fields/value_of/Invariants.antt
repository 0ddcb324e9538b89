use Rattle.std.proofs.Common.{◌≡◌, ℕ, ◌^◌, ◌<◌, List, drop}
use Rattle.std.specs.List.{list_all}
use Rattle.std.specs.Str.Parse.{digits_value, digits_value_after}
use Rattle.std.specs.Char.{is_ascii_digit}
use Rattle.sd_script.proofs.fields.value_of.Given as goal

-- the number so far and the digits that are left make the whole
pub record Reads (number index : ℕ) (digits : List ℕ) : Type 0 where
  pub value : digits_value_after 10 number (drop index digits) ≡ digits_value 10 digits
  pub form : list_all is_ascii_digit (drop index digits) ≡ list_all is_ascii_digit digits
  pub small : number < 10 ^ index

abbrev pub invariant-loop-digit : goal.invariant-loop-digit
invariant-loop-digit l = Reads l.number l.digit-index l.digits

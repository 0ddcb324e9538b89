-- An exponent that stands behind the digits of a number text, and the number that it makes of them.
use Rattle.std.specs.Prelude.{◌≡◌, ℕ, ◌*◌, ◌^◌, ℤ, pos, List, [], ◌∷◌, Option, Some, None, Result, Err, if◌then◌else◌}
use Rattle.sd_model_text.specs.Numbers.{NumberFlaw, BadShape, rounded, raised, lowered, within_range, is_mark, exponent_behind}

-- the exponent that a text is from its mark on: 0 where nothing stands there, and none where it has another form
abbrev pub exponent_at : List ℕ → Option ℤ
exponent_at [] = Some (pos 0)
exponent_at (b ∷ text) = if is_mark b then exponent_behind text else None

-- ten to an exponent is one power of ten over another
pub record IsPower (e : ℤ) (up down : ℕ) : Type 0 where
  pub above : raised e ≡ 10 ^ up
  pub below : lowered e ≡ 10 ^ down

-- the magnitude of the number n, of whose digits so many stand behind the point, times ten to an exponent
abbrev pub placed : ℕ → ℕ → Option ℤ → Result ℕ NumberFlaw
placed n places None = Err BadShape
placed n places (Some e) = within_range (rounded (n * 1000000 * raised e) (10 ^ places * lowered e))

-- What a second keeps of its fields.
use Rattle.std.specs.Prelude.{◌≡◌, ◌≤◌, [], ◌∷◌, ◌++◌, length, decimal}
use Rattle.sd_graphite.specs.declared.second.Second.TheInside.{Inside}

-- a space, its digits and the end of a line
pub record IsSecond (s : Inside) : Type 0 where
  pub text : s.text.items ≡ 32 ∷ decimal s.ts ++ 10 ∷ []
  pub short : length s.text.items ≤ 42

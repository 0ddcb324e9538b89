-- A sample of the code, as the definitions have it, and what the type keeps.
use Rattle.std.specs.Prelude.{◌≡◌, ◌^◌, ◌<◌, ◌≤◌, pos, ◌≤ℤ◌, length, unsigned_abs}
use Rattle.sd_model_text.specs.Lines as model
use Rattle.sd_model_text.specs.Names.{Timer}
use Rattle.sd_key.specs.Kind.{kind_of}
use Rattle.sd_line.specs.declared.sample.Sample.TheInside.{Inside}

abbrev pub sample_view : Inside → model.Sample
sample_view s =
    record {
      kind = kind_of s.kind;
      key = s.key;
      value = s.value.0;
      rate = unsigned_abs s.rate.0;
      is_signed = s.signed;
      member = s.member.items;
    }

-- The key isn't empty, the rate is from 0.000001 to 1000, the value's magnitude is at most 10 ^ 12, and a timer's value is
-- from 0 to 10 ^ 10.
pub record IsSample (s : Inside) : Type 0 where
  pub named : 0 < length s.key
  pub rate_low : pos 1 ≤ℤ s.rate.0
  pub rate_high : s.rate.0 ≤ℤ pos (10 ^ 9)
  pub value : unsigned_abs s.value.0 ≤ 10 ^ 18
  pub timer : kind_of s.kind ≡ Timer → (pos 0 ≤ℤ s.value.0) × (s.value.0 ≤ℤ pos (10 ^ 16))

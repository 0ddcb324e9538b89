-- What a good piece says, as the sample that it stands for.
use Rattle.std.specs.Prelude.{◌≡◌, ◌^◌, ◌<◌, ◌≤◌, ℕ, List, pos, ◌≤ℤ◌, length, unsigned_abs, ⊤}
use Rattle.sd_model_text.specs.Lines as model
use Rattle.sd_model_text.specs.Names.{Timer, fnv1a}
use Rattle.sd_key.specs.Kind.{kind_of}
use Rattle.sd_line.specs.declared.reading.KeyBytes.{KeyBytes}
use Rattle.sd_line.specs.declared.reading.KeyBytes.TheVariants.{Name, Cleaned}
use Rattle.sd_line.specs.declared.reading.Reading.TheInside.{Inside}

abbrev pub key_view : KeyBytes → List ℕ
key_view (Name bytes hash) = bytes.now
key_view (Cleaned key) = key.now

-- the hash of a name is its own
abbrev pub IsHashed : KeyBytes → Type 0
IsHashed (Name bytes hash) = hash ≡ fnv1a bytes.now
IsHashed (Cleaned key) = ⊤

abbrev pub reading_view : Inside → model.Sample
reading_view p =
    record {
      kind = kind_of p.kind;
      key = key_view p.key;
      value = p.value.0;
      rate = unsigned_abs p.rate.0;
      is_signed = p.signed;
      member = p.member.now;
    }

-- The key, the numbers and the member are within the limits of samples.
pub record IsReading (p : Inside) : Type 0 where
  pub some : 0 < length (key_view p.key)
  pub short : length (key_view p.key) ≤ 255
  pub hashed : IsHashed p.key
  pub rate_low : pos 1 ≤ℤ p.rate.0
  pub rate_high : p.rate.0 ≤ℤ pos (10 ^ 9)
  pub value : unsigned_abs p.value.0 ≤ 10 ^ 18
  pub timer : kind_of p.kind ≡ Timer → (pos 0 ≤ℤ p.value.0) × (p.value.0 ≤ℤ pos (10 ^ 16))
  pub member : length p.member.now ≤ 128

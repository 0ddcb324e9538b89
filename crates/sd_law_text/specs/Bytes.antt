-- What a list of bytes has or lacks: a byte, the mark of an exponent, a part.
use Rattle.std.specs.Prelude.{ℕ, ◌==◌, Bool, List, ◌≡◌, ◌++◌, false}
use Rattle.std.specs.List.{list_any}
use Rattle.sd_model_text.specs.Numbers.{is_mark}

-- whether a byte stands in a list
abbrev pub has_byte : ℕ → List ℕ → Bool
has_byte byte xs = list_any (λ x. x == byte) xs

-- a part stands somewhere in a key
abbrev pub HasPart : List ℕ → List ℕ → Type 0
HasPart key part = (prefix : List ℕ) × (back : List ℕ) × (key ≡ prefix ++ part ++ back)

-- a text has no mark of an exponent
abbrev pub HasNoMark : List ℕ → Type 0
HasNoMark text = list_any is_mark text ≡ false

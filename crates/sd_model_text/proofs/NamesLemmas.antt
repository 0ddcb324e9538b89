-- What cleaning leaves of a name, as a whole and byte by byte.
use Rattle.std.proofs.Common.{◌≡◌, ℕ, ◌<◌, ◌≤◌, true, false, ◌==◌, List, [], ◌∷◌, length, Ok, ap, arith, refl}
use Rattle.std.proofs.lemmas.Bool.Decides.{nat_tests}
use Rattle.std.proofs.lemmas.List.Elements.{All-head, All-tail, filter_passes}
use Rattle.std.specs.List.{AllPass}
use Rattle.sd_model_text.specs.Lists.{is_white_space}
use Rattle.sd_model_text.specs.Names.{is_name_byte, underscored, cleaned, as_key}
use Rattle.sd_model_text.proofs.Short.{dashed}

-- a byte of names is not white space
name_not_blank : (b : ℕ) → is_name_byte b ≡ true → is_white_space b ≡ false
name_not_blank b h = grind (arith, nat_tests)

-- nor is it a slash
name_not_slash : (b : ℕ) → is_name_byte b ≡ true → (b == 47) ≡ false
name_not_slash b h = grind (arith, nat_tests)

-- bytes of names stay as they are
pub cleaned-names : (name : List ℕ) → AllPass is_name_byte name → cleaned name ≡ name
cleaned-names [] h = refl
cleaned-names (b ∷ bs) h =
    let is_name = All-head (λ x. is_name_byte x ≡ true) b bs h in
    let rest = cleaned-names bs (All-tail (λ x. is_name_byte x ≡ true) b bs h) in
    let no_blank = name_not_blank b is_name in
    let no_slash = name_not_slash b is_name in
    rw (no_blank, no_slash, is_name) (ap (λ xs. b ∷ xs) rest)

-- what is left are bytes of names
pub cleaned-passes : (name : List ℕ) → AllPass is_name_byte (cleaned name)
cleaned-passes name = filter_passes is_name_byte (dashed (underscored name))

-- a key is the bytes that were left
pub as_key-Ok : (bytes key : List ℕ) → as_key bytes ≡ Ok key → bytes ≡ key
as_key-Ok [] key h = cc
as_key-Ok (b ∷ bs) key h = grind (arith, nat_tests)

-- 1 to 255 bytes are a key
pub as_key-fits : (bytes : List ℕ) → 0 < length bytes → length bytes ≤ 255 → as_key bytes ≡ Ok bytes
as_key-fits [] some short = absurd (omega arith)
as_key-fits (b ∷ bs) some short = grind (arith, nat_tests)

-- The words of a line, and the names of a deletion.
use Rattle.std.specs.Prelude.{◌≡◌, ℕ, ◌<◌, false, List, [], length, Option, slice_get}
use Rattle.std.specs.List.{All}
use Rattle.sd_model_text.specs.Lists.{is_white_space}
use Rattle.sd_model_record.specs.Admin.{Command, Delete, command}

-- a word has at least one byte, and no white space
pub record IsWord (word : List ℕ) : Type 0 where
  pub some : 0 < length word
  pub dense : All (λ b. is_white_space b ≡ false) word

-- the names of a deletion, and none of another command
abbrev pub names_of : Command → List (List ℕ)
names_of (Delete kind names) = names
names_of command = []

-- the i-th name of a command, from 0
abbrev pub name_at : Command → ℕ → Option (List ℕ)
name_at command i = slice_get (names_of command) i

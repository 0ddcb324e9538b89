-- Samples that wait to be submitted.
use Rattle.std.specs.Prelude.{◌≡◌, ℕ, List, [], ◌∷◌, ◌++◌, Result, Ok, Err, ⊤}
use Rattle.sd_model_text.specs.Lines.{Sample}
use Rattle.sd_line.specs.Piece.{Answers, filled}
use Rattle.sd_line.specs.declared.piece.Bad.{Bad}

-- among how many shards they are spread, for how many there is room, and those that wait, in order
pub record Waiting : Type 0 where
  pub shards : ℕ
  pub room : ℕ
  pub items : List Sample

-- one more waits, where an answer says that a piece is good
abbrev pub joined_by : Waiting → Sample → Result ⊤ Bad → Waiting
joined_by w s (Ok _) = record w { items = w.items ++ s ∷ [] }
joined_by w s (Err bad) = w

-- The next of the pieces of a datagram was read; its sample, where it has one, waits behind the others.
pub record Reads (lines lines_now : List (List ℕ)) (old new : Waiting) (answer : Result ⊤ Bad) : Type 0 where
  pub piece : List ℕ
  pub sample : Sample
  pub next : lines ≡ piece ∷ lines_now
  pub answers : Answers piece (filled sample answer)
  pub left : new ≡ joined_by old sample answer

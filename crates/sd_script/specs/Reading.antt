-- A reader of a script: of how many receivers it reads, how many bytes it has read, the body of the record that it read
-- last, and the bytes that it took from the source ahead of what it read.
use Rattle.std.specs.Prelude.{ℕ, List}
use Rattle.sd_model_outside.specs.Outside.{Content, put_back}

pub record Reading : Type 0 where
  pub receivers : ℕ
  pub at : ℕ
  pub body : List ℕ
  pub pending : List ℕ

-- what is left to read, where the source tells what it has left
abbrev pub left : Reading → Content → Content
left reader content = put_back reader.pending content

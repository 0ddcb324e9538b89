-- What stands next in a script, and the text that is read of it.
use Rattle.std.specs.Prelude.{◌≡◌, ℕ, ◌≤◌, List, [], ◌++◌, length, ◌<◌, IsTrue, take, slice_index}
use Rattle.sd_model_text.specs.Lists.{Lacks}
use Rattle.sd_model_outside.specs.Outside.{Content, Reads, put_back}
use Rattle.sd_model_replay.specs.Script.{Begins, Body, Executed, Ending, Faulty, Next, end_word, spelled}

-- as many bytes stand there as may, and one more, and they fit
abbrev pub IsWhole : Body → List ℕ → Type 0
IsWhole body rest = (body.len ≤ body.most) × (body.len < length rest) × (slice_index rest body.len ≡ 10) × (IsTrue body.is_line → Lacks 10 (take body.len rest))

-- the text that is read of what stands next
abbrev pub next_text : Next → List ℕ
next_text (Executed command) = spelled command
next_text Ending = end_word
next_text (Faulty flaw) = []

-- What stands next in a script that has old left: its text is read, and behind it these bytes were read ahead, and the
-- source has new left.
pub record StandsNext (receivers : ℕ) (next : Next) (old : Content) (ahead : List ℕ) (new : Content) : Type 0 where
  pub begins : Begins receivers next (next_text next ++ ahead) new
  pub reads : Reads old (next_text next) (put_back ahead new)

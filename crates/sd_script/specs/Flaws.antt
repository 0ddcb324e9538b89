-- What is wrong with a record in the code, as the definitions have it.
use Rattle.std.specs.Prelude.{◌⊎◌, ℕ, List, length, take, ◌≤◌, ◌<◌}
use Rattle.sd_model_outside.specs.Outside.{Content, IsAtEnd}
use Rattle.sd_model_replay.specs.Script.{Body, ScriptFlaw, BadWord, BadLength, CutShort, IsWrong}
use Rattle.sd_script.specs.declared.flaw.Flaw.{Flaw}
use Rattle.sd_script.specs.declared.flaw.Flaw.TheVariants.{Word, Length, Truncated}
use Rattle.sd_model_text.specs.Lists.{Lacks}

-- fewer than 40 bytes without a newline
abbrev pub IsPartOfLine : List ℕ → Type 0
IsPartOfLine bytes = Lacks 10 bytes × (length bytes < 40)

abbrev pub flaw_of : Flaw → ScriptFlaw
flaw_of Word = BadWord
flaw_of Length = BadLength
flaw_of Truncated = CutShort

-- bytes with no newline among the first ones have this flaw, where nothing stands behind them
abbrev pub HasLineFlaw : List ℕ → ScriptFlaw → Type 0
HasLineFlaw bytes BadWord = Lacks 10 (take 40 bytes) × (40 ≤ length bytes)
HasLineFlaw bytes BadLength = ⊥
HasLineFlaw bytes CutShort = IsPartOfLine bytes

-- a body has this flaw, by what stands behind the first line and what the source has left behind it
abbrev pub HasBodyFlaw : Body → List ℕ → Content → ScriptFlaw → Type 0
HasBodyFlaw body rest left BadWord = ⊥
HasBodyFlaw body rest left BadLength = (body.most < body.len) ⊎ IsWrong body rest
HasBodyFlaw body rest left CutShort = ((body.len ≤ body.most) × (length rest ≤ body.len)) × IsAtEnd left

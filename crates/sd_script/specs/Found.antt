-- What stands at the start of bytes.
use Rattle.std.specs.Prelude.{◌≡◌, ℕ, ◌+◌, List, ◌∷◌, ◌++◌, length, drop, Result, Ok, Err, IfSome}
use Rattle.std.specs.Option.{option_map_or}
use Rattle.sd_model_outside.specs.Outside.{Content}
use Rattle.sd_model_replay.specs.Script.{head_line, body_of, IsForm, HasFlaw}
use Rattle.sd_script.specs.Next.{IsWhole}
use Rattle.sd_script.specs.Flaws.{flaw_of}
use Rattle.sd_script.specs.Head.{head_of}
use Rattle.sd_script.specs.declared.flaw.Flaw.{Flaw}
use Rattle.sd_script.specs.declared.head.Head.{Head}
use Rattle.sd_script.specs.declared.record.Found.{Found}

-- the bytes begin with a first line and its newline, which are so many bytes
pub record BeginsWithLine (receivers : ℕ) (head : Head) (line : ℕ) (bytes : List ℕ) : Type 0 where
  pub form : IsForm receivers (head_of head)
  pub size : line ≡ length (head_line (head_of head)) + 1
  pub whole : bytes ≡ head_line (head_of head) ++ 10 ∷ drop line bytes

-- the bytes begin with a record whose body, if it has one, is whole
pub record BeginsWith (receivers : ℕ) (found : Found) (bytes : List ℕ) : Type 0 where
  pub prefix : BeginsWithLine receivers found.head found.line bytes
  pub body : IfSome (body_of (head_of found.head)) (λ b. IsWhole b (drop found.line bytes))

-- a record stands at the start of bytes that were read, or one with a flaw
abbrev pub IsPrefix : ℕ → List ℕ → Content → Result Found Flaw → Type 0
IsPrefix receivers bytes left (Ok found) = BeginsWith receivers found bytes
IsPrefix receivers bytes left (Err flaw) = HasFlaw receivers (flaw_of flaw) bytes left

-- how many bytes a record has: its first line, and its body and the newline behind it, if it has one
abbrev pub size_of : Found → ℕ
size_of found = found.line + option_map_or (λ b. b.len + 1) (body_of (head_of found.head)) 0

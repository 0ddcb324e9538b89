-- What a drill has left, and what a read gives.
use Rattle.std.specs.Prelude.{◌≡◌, ℕ, ◌≤◌, List, [], ◌++◌, length, take, drop}
use Rattle.sd_model_outside.specs.Outside.{Object, Left, HasRead, object_of}
use Rattle.sd_outside.specs.Places.{last_place}
use Rattle.sd_script.specs.Texts.{text_from}
use Rattle.sd_script.specs.declared.drill.Drill.{Drill}

-- the bytes at hand that weren't given yet
abbrev pub at_hand : Drill → List ℕ
at_hand d = drop d.given d.text.items

-- the bytes that it has left
abbrev pub left_of : Drill → List ℕ
left_of d = at_hand d ++ text_from d.packets d.next

-- what is seen of it, which never failed
abbrev pub seen_of : Drill → Object
seen_of d = object_of (Left (left_of d)) 0 (last_place d.opened_at)

-- A read put the next n bytes into the start of a buffer: none only at the end.
pub record Gives (old new : Drill) (buf filled : List ℕ) (n : ℕ) : Type 0 where
  pub within : n ≤ length filled
  pub content : HasRead (take n filled) (seen_of old) (seen_of new)
  pub end : n ≡ 0 → left_of old ≡ []
  pub rest : drop n filled ≡ drop n buf

-- What a source in memory has, and what its calls leave.
use Rattle.std.specs.Prelude.{◌≡◌, ℕ, ◌≤◌, List, drop, length, take, min}
use Rattle.sd_model_outside.specs.Outside.{Object, Left, HasRead, fresh}
use Rattle.sd_memory.specs.MemObject.{content_of, seen_by}
use Rattle.sd_memory.specs.declared.mem_object.MemObject.{MemObject}
use Rattle.sd_memory.specs.declared.mem_source.BytesLeft.{BytesLeft}

-- a source in memory
abbrev pub MemSource : Type 0
MemSource = MemObject BytesLeft

-- the bytes that are left
abbrev pub bytes_of : BytesLeft → List ℕ
bytes_of left = drop left.taken left.bytes.items

-- those that it has left
abbrev pub left_of : MemSource → List ℕ
left_of s = bytes_of (content_of s)

-- how many bytes a read gives at most
abbrev pub most_of : MemSource → ℕ
most_of s = (content_of s).most

-- what is seen of a source that has them left, was never opened and never failed
abbrev pub bare : BytesLeft → Object
bare left = fresh (Left (bytes_of left))

-- what is seen of it
abbrev pub seen_of : MemSource → Object
seen_of = seen_by bare

-- a read put the next n bytes into the start of a buffer, as many as there were, as it had room for, and as a read gives
pub record Gives (old new : MemSource) (buf filled : List ℕ) (n : ℕ) : Type 0 where
  pub count : n ≡ min (min (length buf) (length (left_of old))) (most_of old)
  pub within : n ≤ length filled
  pub content : HasRead (take n filled) (seen_of old) (seen_of new)
  pub rest : drop n filled ≡ drop n buf

-- What contracts read of a buffer that is out, and what a write does to it.
use Rattle.std.specs.Prelude.{◌≡◌, ℕ, ◌-◌, ◌<◌, List, [], length, take, min, None}
use Rattle.sd_model_outside.specs.Outside.{Object, Buffer, HasFailed, given, last_count, object_of}
use Rattle.sd_outside.specs.Turns.{raised}
use Rattle.sd_outlet.specs.Buf.{text_of, size_of}
use Rattle.sd_outlet.specs.declared.out_buf.OutBuf.{OutBuf}

-- its text
abbrev pub text_in : OutBuf → List ℕ
text_in b = text_of b.buf

-- how many bytes it can hold
abbrev pub size_in : OutBuf → ℕ
size_in b = size_of b.buf

-- how many bytes more it has room for
abbrev pub room_in : OutBuf → ℕ
room_in b = size_in b - length (text_in b)

-- how often a write failed
abbrev pub faults_in : OutBuf → ℕ
faults_in b = b.faults

-- what is seen of it, which is opened nowhere
abbrev pub seen_of : OutBuf → Object
seen_of b = object_of (Buffer (size_in b) (text_in b)) (min b.faults last_count) None

-- nothing was written into it yet, and no write failed
abbrev pub IsNewBuf : OutBuf → Type 0
IsNewBuf b = (text_in b ≡ []) × (faults_in b ≡ 0)

-- a write of xs took the n bytes at its start, as many as there was room for
pub record Takes (old new : OutBuf) (xs : List ℕ) (n : ℕ) : Type 0 where
  pub count : n ≡ min (length xs) (room_in old)
  pub some : 0 < n
  pub content : seen_of new ≡ given (take n xs) (seen_of old)
  pub size : size_in new ≡ size_in old

-- a write failed, which was counted
pub record Fails (old new : OutBuf) : Type 0 where
  pub failed : HasFailed (seen_of old) (seen_of new)
  pub faults : faults_in new ≡ raised (faults_in old)
  pub size : size_in new ≡ size_in old

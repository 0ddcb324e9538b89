-- What contracts read of an outlet and of its feed.
use Rattle.std.specs.Prelude.{◌≡◌, ℕ, ◌+◌, ◌≤◌, ◌^◌, Bool, true, false, List, length, Option, Some, None, IfSome, IsSome}
use Rattle.crossbeam_queue.specs.Passes.{view, IsPassOf, ruled_capacity}
use Rattle.sd_outlet.specs.declared.buf.Buf.{Buf}
use Rattle.sd_outlet.specs.declared.feed.Feed.{Feed}
use Rattle.sd_outlet.specs.declared.outlet.Outlet.{Outlet}
use Rattle.sd_outlet.specs.declared.out_buf.OutBuf.{OutBuf}
use Rattle.sd_outlet.specs.Buf.{size_of}
use Rattle.sd_outlet.specs.OutBuf.{size_in, IsNewBuf}
use Rattle.sd_outlet.specs.StopFlag.{IsSeatOf}

-- how many buffers an outlet has
abbrev pub buffers : Outlet → ℕ
buffers o = ruled_capacity o.full

-- how many bytes each of them can hold
abbrev pub bytes_of : Outlet → ℕ
bytes_of o = o.bytes

-- the texts that were sent, in order
abbrev pub sent : Feed → List (List ℕ)
sent f = (view f.full).put

-- how many texts were sent
abbrev pub sends_of : Feed → ℕ
sends_of f = f.sends

-- how often there was no buffer, or a send was refused, up to the last count
abbrev pub refusals_of : Feed → ℕ
refusals_of f = f.refusals

-- whether a buffer is out
abbrev pub is_out : Feed → Bool
is_out f = f.out

-- how many texts were sent when it was stopped, if it was
abbrev pub stopped_at : Feed → Option ℕ
stopped_at f = f.stopped

-- it keeps the buffer of a send that was refused
abbrev pub Keeps : Feed → Type 0
Keeps f = IsSome f.kept

-- one where there is a buffer
abbrev pub one_kept : Option Buf → ℕ
one_kept None = 0
one_kept (Some b) = 1

-- one where a buffer is out
abbrev pub one_out : Bool → ℕ
one_out false = 0
one_out true = 1

-- how many buffers it has taken and not sent
abbrev pub held : Feed → ℕ
held f = one_kept f.kept + one_out f.out

-- The feed is this outlet's: it puts into the queue of full buffers, takes out of that of empty ones, and raises the flag. It
-- has sent as many texts as it counts, and each buffer that it took was sent, is kept or is out.
pub record IsFeedOf (o : Outlet) (f : Feed) : Type 0 where
  pub full : IsPassOf o.full f.full
  pub empty : IsPassOf o.empty f.empty
  pub stop : IsSeatOf o.stop f.stop
  pub puts : (view f.full).puts ≡ true
  pub full_size : (view f.full).size ≡ bytes_of o
  pub takes : (view f.empty).takes ≡ true
  pub empty_size : (view f.empty).size ≡ bytes_of o
  pub least : buffers o ≤ (view f.empty).least
  pub raises : f.stop.me.0.raises ≡ true
  pub raised : f.stop.me.0.raised ≡ f.stopped
  pub kept : IfSome f.kept (λ b. size_of b ≡ bytes_of o)
  pub one : f.out ≡ true → f.kept ≡ None
  pub counted : f.sends ≡ length (sent f)
  pub few : f.sends ≤ 2 ^ 61
  pub balance : length (view f.empty).taken ≡ length (sent f) + held f

-- nothing was sent or refused, no buffer is out, and it isn't stopped
pub record IsNew (f : Feed) : Type 0 where
  pub sends : sends_of f ≡ 0
  pub refusals : refusals_of f ≡ 0
  pub out : is_out f ≡ false
  pub stopped : stopped_at f ≡ None

-- the same texts were sent, and it is stopped where it was
pub record HasSentSame (old new : Feed) : Type 0 where
  pub sent : sent new ≡ sent old
  pub sends : sends_of new ≡ sends_of old
  pub stopped : stopped_at new ≡ stopped_at old

-- the buffer has this outlet's size
abbrev pub IsBufOf : Outlet → OutBuf → Type 0
IsBufOf o b = size_in b ≡ bytes_of o

-- the buffer has this outlet's size, and nothing was written into it yet
abbrev pub IsNewBufOf : Outlet → OutBuf → Type 0
IsNewBufOf o b = IsBufOf o b × IsNewBuf b

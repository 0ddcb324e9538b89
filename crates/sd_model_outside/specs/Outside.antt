-- What is known of the objects outside the program: what they tell of their content, how often they failed, where they were opened.
use Rattle.std.specs.Prelude.{◌≡◌, ℕ, ◌+◌, ◌-◌, ◌^◌, ◌<◌, ◌≤◌, min, take, Bool, true, false, List, [], ◌∷◌, ◌++◌, length, Option, Some, None, IfSome, get_or}

-- Where an object is opened: at a file, at a host and a port, or where datagrams come, with the bytes of room that are asked for.
pub data Place : Type 0 where
  File : (name : List ℕ) → Place
  Host : (host : List ℕ) (port : ℕ) → Place
  Datagrams : (host : List ℕ) (port receive_buffer : ℕ) → Place

-- where a count that has no more room stops
abbrev pub last_count : ℕ
last_count = 2 ^ 64 - 1

-- a count of faults has risen by n or more, or is at its end
abbrev pub RoseBy : ℕ → ℕ → ℕ → Type 0
RoseBy n before now = min (before + n) last_count ≤ now

-- a count of faults has risen, or is at its end
abbrev pub Rose : ℕ → ℕ → Type 0
Rose before now = RoseBy 1 before now

-- one text that a backend was given, and whether it was ended
pub record BackendText : Type 0 where
  pub bytes : List ℕ
  pub is_ended : Bool

-- What the two ends of a session tell: the bytes that are left to read of it, and those that were written to it.
pub record Session : Type 0 where
  pub left : Option (List ℕ)
  pub written : Option (List ℕ)

-- one question of a probe: where it was asked, and whether it was answered
pub record Question : Type 0 where
  pub place : Place
  pub is_answered : Bool

-- What an object tells of its content: nothing; of a source the bytes that it has left; of a sink how many bytes it was given, up
-- to the last count, or which, and of one with a size that size too; of a backend a list of bytes for each round, those that no
-- write goes to any more and then the open one; of a wire the packets that were sent; of a source of datagrams those that it has
-- left; of a beat the Unix seconds of the flushes that it has left; of a door the sessions that it has left, and those that were
-- given back; of a probe the replies that it has left, and the questions.
pub data Content : Type 0 where
  Unknown : Content
  Left : (bytes : List ℕ) → Content
  Number : (n : ℕ) → Content
  Bytes : (bytes : List ℕ) → Content
  Buffer : (size : ℕ) (bytes : List ℕ) → Content
  Rounds : (rounds : List BackendText) (open_list : Option (List ℕ)) → Content
  Packets : (packets : List (List ℕ)) → Content
  Datagrams : (left : List (List ℕ)) → Content
  Ticks : (left : List ℕ) → Content
  Sessions : (left back : List Session) → Content
  Replies : (left : List (List ℕ)) (questions : List Question) → Content

-- How far the ticks of a beat are apart, in milliseconds, and whether they come where the system's clock is at a multiple of that.
pub record Interval : Type 0 where
  pub ms : ℕ
  pub is_aligned : Bool

-- What is seen of an object: what it tells, how often it failed, and where it was last opened. A source of datagrams, a beat and a
-- door have turns that they took, a door whether a session is out, and a beat the interval of its last start.
pub record Object : Type 0 where
  pub content : Content
  pub faults : ℕ
  pub opened_at : Option Place
  pub turns : ℕ
  pub is_out : Bool
  pub interval : Option Interval

-- an object that takes no turns
abbrev pub object_of : Content → ℕ → Option Place → Object
object_of content faults opened_at = record { content = content; faults = faults; opened_at = opened_at; turns = 0; is_out = false; interval = None }

-- an object that tells this, has never failed, and was neither opened nor started
abbrev pub fresh : Content → Object
fresh content = object_of content 0 None

-- what is seen of one of several objects by its number, and of one that isn't there
abbrev pub object_at : ℕ → List Object → Object
object_at i objects = get_or objects i (fresh Unknown)

-- an object that tells this instead
abbrev pub telling : Content → Object → Object
telling content o = record o { content = content }

-- an object that was opened here
abbrev pub opened : Place → Object → Object
opened place o = record o { opened_at = Some place }

-- An object was used, and no more is said: it is where it was last opened, and its count of faults hasn't fallen.
pub record Used (old new : Object) : Type 0 where
  pub faults : old.faults ≤ new.faults
  pub opened_at : new.opened_at ≡ old.opened_at

-- A call on an object failed: it was used, its count of faults rose, and nothing else of it changed.
pub record HasFailed (old new : Object) : Type 0 where
  pub used : Used old new
  pub rose : Rose old.faults new.faults
  pub same : new ≡ record old { faults = new.faults }

-- the bytes that a source has left, where it tells them
abbrev pub left_in : Content → Option (List ℕ)
left_in (Left bytes) = Some bytes
left_in content = None

-- these bytes before what a source has left
abbrev pub put_back : List ℕ → Content → Content
put_back bytes (Left rest) = Left (bytes ++ rest)
put_back bytes content = content

-- a source that had old left gave these bytes, and has new left
abbrev pub Reads : Content → List ℕ → Content → Type 0
Reads old bytes new = old ≡ put_back bytes new

-- these bytes were read of a source, and nothing else of it changed
abbrev pub HasRead : List ℕ → Object → Object → Type 0
HasRead bytes old new = old ≡ telling (put_back bytes new.content) new

-- A read of a source failed, once fewer than so many bytes were read of it.
pub record FailedBehind (most : ℕ) (old new : Object) : Type 0 where
  pub bytes : List ℕ
  pub before : Object
  pub few : length bytes < most
  pub read : HasRead bytes old before
  pub failed : HasFailed before new

-- a source that tells what it has left has nothing left
abbrev pub IsAtEnd : Content → Type 0
IsAtEnd content = IfSome (left_in content) (λ bytes. bytes ≡ [])

-- after a write of these bytes, which begins a list where none is open
abbrev pub appended : Content → List ℕ → Content
appended (Number n) xs = Number (min (n + length xs) last_count)
appended (Bytes ys) xs = Bytes (ys ++ xs)
appended (Buffer size ys) xs = Buffer size (ys ++ xs)
appended (Rounds rounds (Some ys)) xs = Rounds rounds (Some (ys ++ xs))
appended (Rounds rounds None) [] = Rounds rounds None
appended (Rounds rounds None) (x ∷ xs) = Rounds rounds (Some (x ∷ xs))
appended content xs = content

-- an object after a write of these bytes
abbrev pub given : List ℕ → Object → Object
given bytes o = telling (appended o.content bytes) o

-- An object was used and failed, once it was given a prefix of these bytes, and not all of them.
pub record HasFailedBehind (bytes : List ℕ) (old new : Object) : Type 0 where
  pub used : Used old new
  pub rose : Rose old.faults new.faults
  pub prefix : (n : ℕ) × (n < length bytes) × (new.content ≡ appended old.content (take n bytes))

-- the lists of a backend, with one that is open
abbrev pub lists_of : List BackendText → Option (List ℕ) → List BackendText
lists_of rounds None = rounds
lists_of rounds (Some bytes) = rounds ++ record { bytes = bytes; is_ended = false } ∷ []

-- after `begin`, which leaves an open list as it is
abbrev pub begun : Content → Content
begun (Rounds rounds open_list) = Rounds (lists_of rounds open_list) (Some [])
begun content = content

-- after `finish`, which ends the open list, if there is one
abbrev pub ended : Content → Content
ended (Rounds rounds (Some bytes)) = Rounds (rounds ++ record { bytes = bytes; is_ended = true } ∷ []) None
ended content = content

-- after this packet was sent
abbrev pub with_packet : Content → List ℕ → Content
with_packet (Packets packets) packet = Packets (packets ++ packet ∷ [])
with_packet content packet = content

-- What is done with objects: turns of sources, beats and doors; sends on wires; questions of a probe; what flushes do to a backend.
use Rattle.std.specs.{Prelude.{◌≡◌, ℕ, List, [], ◌++◌, Option, Some, None, ⊤, Bool, true, false, ◌≤◌, ◌∷◌, length, count_by, filter_map, option_map, slice_get, ◌⊎◌, ◌==◌, not, take, ◌≢◌, sum_by}, List.{take_while}}
use Rattle.sd_model_outside.specs.Outside.{Content, Bytes, Buffer, Datagrams, Ticks, Sessions, Session, Object, left_in, HasFailed, object_at, Place, Unknown, Replies, Used, Rose, appended, begun, ended, telling, with_packet}

-- these datagrams before those that a source has left
abbrev pub with_datagrams : List (List ℕ) → Content → Content
with_datagrams datagrams (Datagrams left) = Datagrams (datagrams ++ left)
with_datagrams datagrams content = content

-- these ticks before those that a beat has left
abbrev pub with_ticks : List ℕ → Content → Content
with_ticks ticks (Ticks left) = Ticks (ticks ++ left)
with_ticks ticks content = content

-- these sessions before those that a door has left
abbrev pub with_sessions : List Session → Content → Content
with_sessions sessions (Sessions left back) = Sessions (sessions ++ left) back
with_sessions sessions content = content

-- these sessions after those that were given back to a door
abbrev pub with_back : List Session → Content → Content
with_back sessions (Sessions left back) = Sessions left (back ++ sessions)
with_back sessions content = content

-- nothing is left of datagrams, ticks or sessions, where these are told
abbrev pub IsSpent : Content → Type 0
IsSpent (Datagrams left) = left ≡ []
IsSpent (Ticks left) = left ≡ []
IsSpent (Sessions left back) = left ≡ []
IsSpent content = ⊤

-- the bytes that a sink was given, where it tells them
abbrev pub written_in : Content → Option (List ℕ)
written_in (Bytes bytes) = Some bytes
written_in (Buffer size bytes) = Some bytes
written_in content = None

-- what the two ends of a session tell, that which asks and that which is told
abbrev pub session_of : Object → Object → Session
session_of asking answered = record { left = left_in asking.content; written = written_in answered.content }

-- a send of a packet that failed, and left what the wire had, or that put the packet at its end
abbrev pub HasSent : List ℕ → Bool → Object → Object → Type 0
HasSent packet true old new = HasFailed old new
HasSent packet false old new = new ≡ telling (with_packet old.content packet) old

-- One send on a wire: the packet, and whether the send failed.
pub record WireSend : Type 0 where
  pub packet : List ℕ
  pub is_failed : Bool

-- what sends do to a wire, one after another
abbrev pub AfterSends : List WireSend → Object → Object → Type 0
AfterSends [] old new = new ≡ old
AfterSends (s ∷ sends) old new = (mid : Object) × HasSent s.packet s.is_failed old mid × AfterSends sends mid new

-- Each of the wires had the sends of its number, one after another, and there is a wire for each send.
pub record AfterSendsOn (sends : ℕ → List WireSend) (old new : List Object) : Type 0 where
  pub each : (i : ℕ) → AfterSends (sends i) (object_at i old) (object_at i new)
  pub no_others : (i : ℕ) → length old ≤ i → sends i ≡ []
  pub count : length new ≡ length old

-- A packet that was repeated, and of each of its sends whether it failed.
pub record Sending : Type 0 where
  pub packet : List ℕ
  pub failed : List Bool

-- how many sends failed
abbrev pub failures : List Bool → ℕ
failures failed = count_by (λ f. f) failed

-- each wire got the sends on it, and nothing else
abbrev pub AreRepeated : List Sending → List Object → List Object → Type 0
AreRepeated sendings old new = AfterSendsOn (λ i. filter_map (λ s. option_map (λ f. record { packet = s.packet; is_failed = f }) (slice_get s.failed i)) sendings) old new

-- what a probe tells after a question that was answered by a line, which takes the next reply, or that failed
abbrev pub Tells : Place → Option (List ℕ) → Content → Content → Type 0
Tells place (Some line) (Replies (reply ∷ left) questions) new =
    (line ≡ take 1024 (take_while (λ byte. not (byte == 10)) reply)) × (new ≡ Replies left (questions ++ record { place = place; is_answered = true } ∷ []))
Tells place (Some line) (Replies [] questions) new = ⊥
Tells place None (Replies left questions) new = new ≡ Replies left (questions ++ record { place = place; is_answered = false } ∷ [])
Tells place answer content new = new ≡ content

-- a count of faults stays where a question was answered, and rises where it failed
abbrev pub FaultsBy : Option (List ℕ) → ℕ → ℕ → Type 0
FaultsBy (Some line) before now = now ≡ before
FaultsBy None before now = Rose before now

-- A question was asked at a place, and answered by a line or not. The probe may tell nothing from then on; nothing else changed.
pub record HasAsked (place : Place) (answer : Option (List ℕ)) (old new : Object) : Type 0 where
  pub used : Used old new
  pub faults : FaultsBy answer old.faults new.faults
  pub content : (new.content ≡ Unknown) ⊎ Tells place answer old.content new.content
  pub same : new ≡ record old { content = new.content; faults = new.faults }

-- questions were asked at places, in order, with these answers
abbrev pub AreAsked : List Place → List (Option (List ℕ)) → Object → Object → Type 0
AreAsked [] [] old new = new ≡ old
AreAsked (place ∷ places) (answer ∷ answers) old new = (then : Object) × HasAsked place answer old then × AreAsked places answers then new
AreAsked places answers old new = ⊥

-- How a backend took part in a flush.
pub data Mark : Type 0 where
  NotUsed Written Fault : Mark

-- what a mark counts as a fault
abbrev pub fault_of : Mark → ℕ
fault_of NotUsed = 0
fault_of Written = 0
fault_of Fault = 1

-- a mark says whether the backend is used
abbrev pub FitsUse : Bool → Mark → Type 0
FitsUse true mark = mark ≢ NotUsed
FitsUse false mark = mark ≡ NotUsed

-- A flush failed at a backend: its count of faults rose, and it was given nothing, or a prefix of the text, in an open list.
pub record HasMissed (text : List ℕ) (old new : Object) : Type 0 where
  pub used : Used old new
  pub rose : Rose old.faults new.faults
  pub prefix : (new.content ≡ old.content) ⊎ ((n : ℕ) × (n ≤ length text) × (new.content ≡ appended (begun old.content) (take n text)))

-- What a flush does to a backend, by its mark: it is given the whole text, begun and ended; it is untouched; it missed the flush.
abbrev pub AfterMark : Mark → List ℕ → Object → Object → Type 0
AfterMark Written text old new = new ≡ telling (ended (appended (begun old.content) text)) old
AfterMark NotUsed text old new = new ≡ old
AfterMark Fault text old new = HasMissed text old new

-- A flush's text for a backend, and its mark.
pub record Delivery : Type 0 where
  pub text : List ℕ
  pub mark : Mark

-- what flushes do to a backend, one after another
abbrev pub AfterDeliveries : List Delivery → Object → Object → Type 0
AfterDeliveries [] old new = new ≡ old
AfterDeliveries (d ∷ deliveries) old new = (mid : Object) × AfterMark d.mark d.text old mid × AfterDeliveries deliveries mid new

-- how many flushes a backend missed
abbrev pub missed : List Delivery → ℕ
missed deliveries = sum_by (λ d. fault_of d.mark) deliveries

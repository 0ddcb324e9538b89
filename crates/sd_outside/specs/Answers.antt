-- What holds by what an object answered.
use Rattle.std.specs.Prelude.{◌≡◌, ℕ, List, []}
use Rattle.sd_model_outside.specs.Outside.{Object, HasFailed}
use Rattle.sd_outside.specs.Turns.{raised}
use Rattle.sd_outside.specs.declared.datagrams.Next.{Next}
use Rattle.sd_outside.specs.declared.datagrams.Next.TheVariants as next
use Rattle.sd_outside.specs.declared.beat.Tick.{Tick}
use Rattle.sd_outside.specs.declared.beat.Tick.TheVariants as tick
use Rattle.sd_outside.specs.declared.door.Entry.{Entry}
use Rattle.sd_outside.specs.declared.door.Entry.TheVariants as entry

-- by what a source of datagrams answered: a datagram of so many bytes; its end; nothing for now; a fault
abbrev pub MatchNext : Next → (ℕ → Type 0) → Type 0 → Type 0 → Type 0 → Type 0
MatchNext (next.Packet n) packet end idle failed = packet n
MatchNext next.End packet end idle failed = end
MatchNext next.Idle packet end idle failed = idle
MatchNext next.Failed packet end idle failed = failed

-- by what a beat answered: a second; its end; a fault
abbrev pub MatchTick : Tick → (ℕ → Type 0) → Type 0 → Type 0 → Type 0
MatchTick (tick.At second) at end failed = at second
MatchTick tick.End at end failed = end
MatchTick tick.Failed at end failed = failed

-- by what a door answered: the two ends of a session; its end; nothing for now; a fault
abbrev pub MatchEntry : {A T : Type 0} → Entry A T → (A → T → Type 0) → Type 0 → Type 0 → Type 0 → Type 0
MatchEntry (entry.Session asking telling) session end idle failed = session asking telling
MatchEntry entry.End session end idle failed = end
MatchEntry entry.Idle session end idle failed = idle
MatchEntry entry.Failed session end idle failed = failed

-- an object has nothing left, and nothing changed
pub record HasEnded {X : Type 0} (left : List X) (old new : Object) : Type 0 where
  pub none : left ≡ []
  pub same : new ≡ old

-- a call failed, which was counted
pub record Fails (old new : Object) : Type 0 where
  pub failed : HasFailed old new
  pub faults : new.faults ≡ raised old.faults

-- What a reader of a script answers, and what it leaves: `had` and `has` are what the source tells before the call and
-- after it.
use Rattle.std.specs.Prelude.{◌≡◌, ℕ, ◌+◌, List, [], length, min, ⊤}
use Rattle.sd_model_outside.specs.Outside.{Content, last_count}
use Rattle.sd_model_replay.specs.Script.{Packet as PacketRecord, Flush as FlushRecord, Admin as AdminRecord, spelled, end_word, Next, Executed, Ending, Faulty}
use Rattle.sd_script.specs.Next.{StandsNext}
use Rattle.sd_script.specs.Flaws.{flaw_of}
use Rattle.sd_script.specs.Reading.{Reading, left}
use Rattle.sd_script.specs.declared.reader.Item.{Item}
use Rattle.sd_script.specs.declared.reader.Item.TheVariants.{Packet, Flush, Admin, End, Fault}

-- what an answer says that stands next, with the body that the reader lends
abbrev pub next_of : Item → List ℕ → Next
next_of (Packet who moment) body = Executed (PacketRecord who moment body)
next_of (Flush ts) body = Executed (FlushRecord ts)
next_of (Admin moment) body = Executed (AdminRecord moment body)
next_of End body = Ending
next_of (Fault flaw) body = Faulty (flaw_of flaw)

-- a body is lent with a packet and with an admin line alone
abbrev pub Lends : Item → List ℕ → Type 0
Lends (Packet who moment) body = ⊤
Lends (Flush ts) body = body ≡ []
Lends (Admin moment) body = ⊤
Lends End body = body ≡ []
Lends (Fault flaw) body = body ≡ []

-- how many bytes were read once that was, up to the last count
abbrev pub at_behind : Next → ℕ → ℕ
at_behind (Executed command) at = min (at + length (spelled command)) last_count
at_behind Ending at = min (at + length end_word) last_count
at_behind (Faulty flaw) at = at

-- what stands next was read, or is a flaw in the bytes that are pending then
pub record ReadsItem (item : Item) (old : Reading) (had : Content) (new : Reading) (has : Content) : Type 0 where
  pub stands : StandsNext old.receivers (next_of item new.body) (left old had) new.pending has
  pub at : new.at ≡ at_behind (next_of item new.body) old.at
  pub lends : Lends item new.body
  pub receivers : new.receivers ≡ old.receivers

-- nothing was read
pub record Stays (old : Reading) (had : Content) (new : Reading) (has : Content) : Type 0 where
  pub left : left new has ≡ left old had
  pub at : new.at ≡ old.at
  pub body : new.body ≡ []
  pub receivers : new.receivers ≡ old.receivers

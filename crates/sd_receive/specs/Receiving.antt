-- What a receiver did, and how it ended.
use Rattle.std.specs.Prelude.{◌≡◌, ℕ, ◌+◌, min, Bool, List, [], ◌∷◌, Option, Some, None}
use Rattle.sd_model_outside.specs.Outside.{Object, last_count}
use Rattle.sd_repeater.specs.Sent.{AreSent}
use Rattle.sd_model_shard.specs.History.{History}
use Rattle.sd_shared_desk.specs.Counts.{Part, HasCalled, HasCounted, plus, of_tally, of_sends}
use Rattle.sd_model_record.specs.DeskHistory.{DeskCall, RepeaterFaults}
use Rattle.sd_model_record.specs.Record.{Tally}
use Rattle.sd_model_outside.specs.Uses.{failures}
use Rattle.sd_model_serve.specs.Receiving as model
use Rattle.sd_model_serve.specs.Receiving.{EndsReceiver, Spent, Enough, LimitReached, CountsDatagrams}
use Rattle.sd_receive.specs.Received.{FilesDatagrams, HasReceived}
use Rattle.sd_desk.specs.Tally.{tally_of}
use Rattle.sd_outside.specs.declared.datagrams.Ended.{Ended}
use Rattle.sd_outside.specs.declared.datagrams.Ended.TheVariants.{End, Failed, Stopped, Worn}
use Rattle.sd_receive.specs.declared.received.Received.{Received}
use Rattle.sd_desk.specs.Sums.{RoundsMade}

-- a call counts sends that failed
abbrev pub IsFailedSend : DeskCall → Type 0
IsFailedSend call = (n : ℕ) × (call.event ≡ RepeaterFaults n)

-- A datagram was sent on every wire, its good samples were submitted, and what it counts for was added at the desk, with the
-- sends that failed.
pub record TakesDatagram (says : ℕ → Type 0) (shards : ℕ) (datagram : List ℕ) (wires wires_now : List Object) (own own_now : ℕ → History) (part part_now : Part) (tally : Tally) (taken : ℕ) : Type 0 where
  pub failed : List Bool
  pub filed : FilesDatagrams shards (datagram ∷ []) own own_now tally taken
  pub sends : AreSent datagram failed wires wires_now
  pub counted : HasCounted (plus (of_tally tally) (of_sends (failures failed))) part part_now
  pub called : HasCalled (CountsDatagrams says (datagram ∷ [])) part part_now

-- why a receiver ended, after so many turns of its source
abbrev pub EndsSo : ℕ → Ended → Object → Object → Part → ℕ → Type 0
EndsSo run_flushes End source source_now part_now turned = EndsReceiver run_flushes Spent source source_now (part_now.seen RoundsMade) turned
EndsSo run_flushes Failed source source_now part_now turned = EndsReceiver run_flushes model.Failed source source_now (part_now.seen RoundsMade) turned
EndsSo run_flushes (Stopped rounds) source source_now part_now turned = EndsReceiver run_flushes (Enough rounds) source source_now (part_now.seen RoundsMade) turned
EndsSo run_flushes (Worn turns) source source_now part_now turned = EndsReceiver run_flushes (LimitReached turns) source source_now (part_now.seen RoundsMade) turned

-- how many datagrams a turn may have read, by how it ended the receiver, if it did
abbrev pub most_read : Option Ended → ℕ
most_read None = 1
most_read (Some ended) = 0

-- What a receiver did, and how it ended. Its source took so many turns, counted up to the last count, and is where it was.
pub record Receives (says : ℕ → Type 0) (shards run_flushes : ℕ) (source source_now : Object) (wires wires_now : List Object) (own own_now : ℕ → History) (part part_now : Part) (got : Received) : Type 0 where
  pub turned : ℕ
  pub takes : HasReceived says shards turned source source_now wires wires_now own own_now part part_now (tally_of got.tally) got.taken
  pub turns : source_now.turns ≡ min (source.turns + turned) last_count
  pub place : source_now.opened_at ≡ source.opened_at
  pub ends : EndsSo run_flushes got.ended source source_now part_now turned

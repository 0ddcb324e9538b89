-- The reads of a stream, and the streams of a door, whose lines were sent.
use Rattle.std.specs.Prelude.{◌≡◌, ◌⊎◌, ℕ, ◌<◌, List, [], ◌∷◌, count_by, flat_map, length}
use Rattle.std.specs.List.{AllZip}
use Rattle.sd_model_outside.specs.Outside.{HasFailed, HasRead, IsAtEnd, Object}
use Rattle.sd_model_record.specs.Totals.{Total}
use Rattle.sd_model_settings.specs.Entries.{Node}
use Rattle.sd_model_serve.specs.Sessions.{ServesDoor, Visit}
use Rattle.sd_model_stream.specs.Streams.{StreamLine, ReadsStream, Stream, IsStreamOf}
use Rattle.sd_tcp.specs.Cutting.{Cutting, CutsOn}
use Rattle.sd_model_proxy.specs.Relays.{is_long, lines_ended, lines_of_cut}
use Rattle.sd_model_proxy.specs.Routes.{Read}
use Rattle.sd_proxy.specs.Forwarding.{Forwards, TakesLines}
use Rattle.sd_proxy.specs.Looking.{PassSeen, SendsByLooks}
use Rattle.sd_proxy.specs.declared.stream_room.StreamRoom.{StreamRoom}
use Rattle.sd_proxy.specs.declared.waiting.Waiting.{Waiting}

-- it has room for the bytes of a read
abbrev pub IsStreamRoom : StreamRoom → Type 0
IsStreamRoom room = 0 < length room.buf.items

-- Bytes of a stream were given to a cutter, and the lines that it gave were taken.
pub record TakesBytes (nodes : List Node) (up : ℕ) (bytes : List ℕ) (cutter cutter_now : Cutting) (waiting waiting_now : List Waiting)
    (wires wires_now : List Object) (totals totals_now : List Total) : Type 0 where
  pub cuts : List StreamLine
  pub cut : CutsOn cuts bytes cutter cutter_now
  pub takes : TakesLines nodes up (flat_map lines_of_cut cuts) (count_by is_long cuts) waiting waiting_now wires wires_now totals totals_now

-- lines of a stream as they were read together, with the nodes that were up
abbrev pub cuts_read : List StreamLine → (up : ℕ) → Read
cuts_read cuts up = record { lines = flat_map lines_of_cut cuts; long = count_by is_long cuts; up = up }

-- Bytes of a stream were given to a cutter, and the lines that it gave were sent.
pub record SendsBytes (most : ℕ) (nodes : List Node) (up : ℕ) (bytes : List ℕ) (cutter cutter_now : Cutting)
    (wires wires_now : List Object) (totals totals_now : List Total) : Type 0 where
  pub cuts : List StreamLine
  pub cut : CutsOn cuts bytes cutter cutter_now
  pub forwards : Forwards most nodes 0 (cuts_read cuts up ∷ []) wires wires_now totals totals_now

-- Bytes were read, at least one, and given to a cutter, and the lines that it gave were sent by one look, and counted at the desk.
pub record SendsRead (most : ℕ) (nodes : List Node) (own own_now : PassSeen) (source source_now : Object) (cutter cutter_now : Cutting)
    (wires wires_now : List Object) (totals : List Total) : Type 0 where
  pub bytes : List ℕ
  pub some : 0 < length bytes
  pub read : HasRead bytes source source_now
  pub cuts : List StreamLine
  pub cut : CutsOn cuts bytes cutter cutter_now
  pub up : ℕ
  pub sends : SendsByLooks most nodes own own_now (cuts_read cuts up ∷ []) wires wires_now totals

-- no more is read: the source is at its end, or failed
abbrev pub CannotRead : Object → Object → Type 0
CannotRead source source_now = ((source_now ≡ source) × IsAtEnd source_now.content) ⊎ HasFailed source source_now

-- A stream was read, and the lines that each read ended were sent by one look, and counted at the desk.
pub record SendsStream (most : ℕ) (nodes : List Node) (own own_now : PassSeen) (source source_now : Object) (wires wires_now : List Object)
    (totals : List Total) : Type 0 where
  pub stream : Stream
  pub went : ReadsStream stream source source_now
  pub reads : List Read
  pub are : AllZip (λ cuts r. (r.lines ≡ flat_map lines_of_cut cuts) × (r.long ≡ count_by is_long cuts)) (lines_ended [] stream.reads) reads
  pub sends : SendsByLooks most nodes own own_now reads wires wires_now totals

-- The sessions of a door were read as streams, one after another, and given back, and the lines that each read ended were sent by one
-- look, and counted at the desk.
pub record SendsStreams (most : ℕ) (nodes : List Node) (own own_now : PassSeen) (door door_now : Object) (wires wires_now : List Object)
    (totals : List Total) : Type 0 where
  pub visits : List Visit
  pub failures : ℕ
  pub streams : List Stream
  pub served : ServesDoor visits failures door door_now
  pub went : AllZip IsStreamOf visits streams
  pub reads : List Read
  pub are : AllZip (λ cuts r. (r.lines ≡ flat_map lines_of_cut cuts) × (r.long ≡ count_by is_long cuts)) (flat_map (λ s. lines_ended [] s.reads) streams) reads
  pub sends : SendsByLooks most nodes own own_now reads wires wires_now totals

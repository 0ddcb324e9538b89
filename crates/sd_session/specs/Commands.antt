-- What admin lines ask of a shard.
use Rattle.std.specs.Prelude.{List, ⊤}
use Rattle.std.specs.List.{AllByRecursion}
use Rattle.sd_model_shard.specs.Shard.{Swap, Event, Submit, Delete, Dump, Look}

-- an event is one that an admin line asks for: a deletion, a dump or a look
abbrev pub IsCommand : Event → Type 0
IsCommand (Submit sample) = ⊥
IsCommand Swap = ⊥
IsCommand (Delete kind pattern) = ⊤
IsCommand (Dump kind) = ⊤
IsCommand Look = ⊤

-- all of the events are
abbrev pub AreCommands : List Event → Type 0
AreCommands events = AllByRecursion IsCommand events

-- The room for a line.
use Rattle.std.specs.Prelude.{◌≡◌, length}
use Rattle.sd_model_serve.specs.Sessions.{too_many}
use Rattle.sd_talk.specs.declared.room.LineRoom.{LineRoom}

-- there is room for the longest line with its newline
abbrev pub IsLineRoom : LineRoom → Type 0
IsLineRoom room = length room.bytes.items ≡ too_many

-- Lines of the code.
use Rattle.std.specs.Prelude.{◌≤◌, length, ⊤}
use Rattle.sd_model_stream.specs.Streams as model
use Rattle.sd_tcp.specs.declared.cut.Cut.{Cut}
use Rattle.sd_tcp.specs.declared.cut.Cut.TheVariants.{Line, Long}
use Rattle.sd_model_text.specs.Lines.{longest_datagram}

-- a line, as the definitions have it
abbrev pub cut_view : Cut → model.StreamLine
cut_view (Line bytes) = model.Line bytes.now
cut_view Long = model.Long

-- it has at most as many bytes as a datagram, unless it is said to be too long
abbrev pub IsShort : Cut → Type 0
IsShort (Line bytes) = length bytes.now ≤ longest_datagram
IsShort Long = ⊤

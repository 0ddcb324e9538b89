-- What a cutter holds of the line that it has begun.
use Rattle.std.specs.Prelude.{ℕ, Bool, if◌then◌else◌, List}
use Rattle.sd_model_stream.specs.Streams.{StreamLine, Line, Long}

-- a line of which these bytes are held, or none where it is too long
abbrev pub line_held : Bool → List ℕ → StreamLine
line_held is_long bytes = if is_long then Long else Line bytes

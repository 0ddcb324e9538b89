-- What a cutter holds of a stream that comes piece by piece.
use Rattle.std.specs.Prelude.{◌≡◌, ℕ, Bool, true, false, List, [], ◌∷◌, if◌then◌else◌, ◌==◌, ◌++◌, suc, nat_le, length}
use Rattle.sd_model_text.specs.Lists.{split}
use Rattle.sd_model_stream.specs.Streams.{StreamLine, Line, Long, stream_lines}
use Rattle.sd_model_text.specs.Lines.{longest_datagram}

-- the last of parts; where there is none, no byte
abbrev pub last_part : List (List ℕ) → List ℕ
last_part [] = []
last_part (part ∷ []) = part
last_part (part ∷ next ∷ more) = last_part (next ∷ more)

-- the rest of a stream: what stands behind its last newline, which is no line
abbrev pub rest_of : List ℕ → List ℕ
rest_of stream = last_part (split 10 stream)

-- A cutter: the line that it has begun, and whether a newline has ended that.
pub record Cutting : Type 0 where
  pub line : StreamLine
  pub is_ready : Bool

-- a cutter that has begun no line
abbrev pub nothing_cut : Cutting
nothing_cut = record { line = Line []; is_ready = false }

-- a line with bytes more behind it
abbrev pub longer : StreamLine → List ℕ → StreamLine
longer (Line begun) bytes = if nat_le (length (begun ++ bytes)) longest_datagram then Line (begun ++ bytes) else Long
longer Long bytes = Long

-- the line that a cutter has ready, if it has one
abbrev pub ready_in : Cutting → List StreamLine
ready_in c = if c.is_ready then c.line ∷ [] else []

-- how many bytes there are up to the first newline and with it, or in all
abbrev pub through_newline : List ℕ → ℕ
through_newline [] = 0
through_newline (b ∷ bytes) = if b == 10 then 1 else suc (through_newline bytes)

-- A cutter was given this stream so far, and gave these lines: they and the one that it has ready are the lines of the stream,
-- and what it has begun is the stream's rest.
pub record HasCut (given : List StreamLine) (stream : List ℕ) (c : Cutting) : Type 0 where
  pub lines : given ++ ready_in c ≡ stream_lines stream
  pub ended : c.is_ready ≡ true → rest_of stream ≡ []
  pub begun : c.is_ready ≡ false → c.line ≡ (if nat_le (length (rest_of stream)) longest_datagram then Line (rest_of stream) else Long)

-- A cutter was given these bytes, and gave these lines, whatever stream it had been given before.
pub record CutsOn (lines : List StreamLine) (bytes : List ℕ) (old new : Cutting) : Type 0 where
  pub on : (given : List StreamLine) (stream : List ℕ) → HasCut given stream old → HasCut (given ++ lines) (stream ++ bytes) new

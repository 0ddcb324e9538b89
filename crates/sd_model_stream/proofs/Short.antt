-- Short names that proofs have for parts of definitions.
use Rattle.std.specs.Prelude.{List, flat_map, ℕ, ◌+◌, length, sum_by, if◌then◌else◌, nat_le}
use Rattle.sd_model_stream.specs.Streams.{LineTrace, samples_of_line, lines_in, Stream, IsStreamOf, Line, Long, StreamLine}
use Rattle.sd_model_text.specs.Lines.{Sample, longest_datagram}
use Rattle.sd_model_serve.specs.Sessions.{faults_among, Visit}
use Rattle.std.specs.List.{AllZip}

-- bytes without a newline, as a line
abbrev pub cut_of : List ℕ → StreamLine
cut_of part = if nat_le (length part) longest_datagram then Line part else Long

-- each of a door's sessions was the stream at its place
abbrev pub AreStreamsOf : List Visit → List Stream → Type 0
AreStreamsOf = AllZip IsStreamOf

-- how many reads there were of streams
abbrev pub reads_in : List Stream → ℕ
reads_in streams = sum_by (λ s. length s.reads) streams

-- the good samples that it brought
abbrev pub brought_in_lines : LineTrace → List Sample
brought_in_lines l = flat_map samples_of_line (lines_in l.streams)

-- the failures of its door, and the sessions that are faults
abbrev pub faults_in_lines : LineTrace → ℕ
faults_in_lines l = l.failures + faults_among l.visits

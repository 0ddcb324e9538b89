-- The samples of a stream.
use Rattle.std.specs.Prelude.{ℕ, List, flat_map}
use Rattle.sd_model_text.specs.Lines.{Sample}
use Rattle.sd_model_stream.specs.Streams.{samples_of_line, stream_lines}

-- the samples of a stream: those of its lines, in order
abbrev pub stream_samples : List ℕ → List Sample
stream_samples stream = flat_map samples_of_line (stream_lines stream)

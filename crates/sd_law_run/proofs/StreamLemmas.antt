-- The samples of streams.
use Rattle.std.proofs.Common.{◌≡◌, List, [], ◌∷◌, ◌++◌, refl, ap, ◌∙◌}
use Rattle.std.specs.Prelude.{flat_map}
use Rattle.std.proofs.lemmas.Grind.{flat_map-append}
use Rattle.sd_model_stream.specs.Streams.{samples_of_line, stream_lines, Stream, bytes_in, lines_in}
use Rattle.sd_law_run.specs.Samples.{stream_samples}

pub samples_of_streams : (streams : List Stream) → flat_map samples_of_line (lines_in streams) ≡ flat_map (λ (s : Stream). stream_samples (bytes_in s)) streams
samples_of_streams [] = refl
samples_of_streams (s ∷ streams) =
    flat_map-append samples_of_line (stream_lines (bytes_in s)) (lines_in streams) ∙ ap (λ samples. stream_samples (bytes_in s) ++ samples) (samples_of_streams streams)

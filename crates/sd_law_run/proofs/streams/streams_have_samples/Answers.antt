use Rattle.sd_law_run.proofs.StreamLemmas.{samples_of_streams}
use Rattle.sd_law_run.proofs.streams.streams_have_samples.Goals as goal

pub returns : goal.returns
returns c = samples_of_streams

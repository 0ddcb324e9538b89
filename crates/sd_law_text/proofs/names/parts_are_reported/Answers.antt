use Rattle.sd_model_text.proofs.PartLemmas.{part_found}
use Rattle.sd_law_text.proofs.PartLemmas.{found_part}
use Rattle.sd_law_text.proofs.names.parts_are_reported.Goals as goal

pub returns : goal.returns
returns c part key = (found_part part key, λ (prefix, back, is). part_found part key prefix back is)

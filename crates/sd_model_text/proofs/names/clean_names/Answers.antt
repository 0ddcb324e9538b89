-- Bytes of names stay as they are.
use Rattle.std.proofs.Common.{ap, ◌∙◌}
use Rattle.sd_model_text.specs.Names.{as_key}
use Rattle.sd_model_text.proofs.NamesLemmas.{as_key-fits, cleaned-names}
use Rattle.sd_model_text.proofs.names.clean_names.Goals as goal

pub returns : goal.returns
returns c name names some short = ap as_key (cleaned-names name names) ∙ as_key-fits name some short

use Rattle.sd_model_text.proofs.Rounding.{round_symmetric}
use Rattle.sd_model_text.proofs.numbers.rounding_is_symmetric.Goals as goal

pub returns : goal.returns
returns c = round_symmetric

use Rattle.sd_model_text.proofs.Rounding.{round_monotone}
use Rattle.sd_model_text.proofs.numbers.rounding_is_monotone.Goals as goal

pub returns : goal.returns
returns c = round_monotone

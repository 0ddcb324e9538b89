use Rattle.sd_model_text.proofs.Rounding.{round_near}
use Rattle.sd_model_text.proofs.numbers.rounding_is_near.Goals as goal

pub returns : goal.returns
returns c = round_near

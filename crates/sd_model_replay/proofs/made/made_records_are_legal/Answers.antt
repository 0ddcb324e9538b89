use Rattle.sd_model_replay.proofs.MadeLemmas.{legal_commands}
use Rattle.sd_model_replay.proofs.made.made_records_are_legal.Goals as goal

pub returns : goal.returns
returns c = legal_commands

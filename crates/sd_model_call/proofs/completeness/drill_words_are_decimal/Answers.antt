use Rattle.sd_model_call.proofs.WordsLemmas.{drill_read, drill_written}
use Rattle.sd_model_call.proofs.completeness.drill_words_are_decimal.Goals as goal

pub returns-clause-written : goal.returns-clause-written
returns-clause-written c n some few = drill_written n some few

pub returns-clause-read : goal.returns-clause-read
returns-clause-read c words n is = drill_read words n is

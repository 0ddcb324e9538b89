use Rattle.std.proofs.Common.{rules}
use Rattle.sd_outlet.proofs.FlagSteps.{begins, splits}
use Rattle.sd_outlet.proofs.stop_flag.StopFlag.open.Goals as goal

pub of_words-requires : goal.of_words-requires
of_words-requires c = begins

pub split_seat-reads-requires : goal.split_seat-reads-requires
split_seat-reads-requires c = (search rules, search rules, splits _ _)

use Rattle.std.proofs.Common.{◌≡◌, length}
use Rattle.sd_model_text.specs.Lists.{is_white_space, trim_end}
use Rattle.sd_proxy_desk.proofs.reply.trimmed.Given as goal

abbrev pub invariant-loop-rest : goal.invariant-loop-rest
invariant-loop-rest l = trim_end is_white_space l.rest ≡ trim_end is_white_space l.bytes

abbrev pub decreases-loop-rest : goal.decreases-loop-rest
decreases-loop-rest l = length l.rest

use Rattle.std.proofs.Common.{length}
use Rattle.sd_config.proofs.config_value.+push_joined.Given as goal

abbrev pub decreases-push_joined : goal.decreases-push_joined
decreases-push_joined g l = length l.parts.now

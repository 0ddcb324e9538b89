use Rattle.std.proofs.Common.{length}
use Rattle.sd_config.proofs.allowed.+allowed_among.Given as goal

abbrev pub decreases-allowed_among : goal.decreases-allowed_among
decreases-allowed_among l = length l.among.now

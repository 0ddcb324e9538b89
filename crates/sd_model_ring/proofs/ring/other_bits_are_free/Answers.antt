use Rattle.sd_model_ring.proofs.Owners.{same-bits}
use Rattle.sd_model_ring.proofs.ring.other_bits_are_free.Goals as goal

pub returns : goal.returns
returns c = same-bits

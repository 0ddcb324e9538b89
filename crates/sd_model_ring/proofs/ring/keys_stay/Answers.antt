use Rattle.sd_model_ring.proofs.Owners.{owner-stays}
use Rattle.sd_model_ring.proofs.ring.keys_stay.Goals as goal

pub returns : goal.returns
returns c = owner-stays

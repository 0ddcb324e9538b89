use Rattle.sd_model_outside.specs.Backend.{Graphite, Console}
use Rattle.sd_delivery.proofs.outlets.LeadsDelivery.end.Goals as goal

pub stop-requires : goal.stop-requires
stop-requires c = record { ready = c.requires.ready Graphite }

pub stop-requires-2 : goal.stop-requires-2
stop-requires-2 c = record { ready = c.requires.ready Console }

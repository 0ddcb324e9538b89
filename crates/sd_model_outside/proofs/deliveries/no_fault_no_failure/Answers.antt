use Rattle.sd_model_outside.specs.Uses.{missed}
use Rattle.sd_model_outside.proofs.DeliveryLemmas.{all_counts, none_missed, written_flush}
use Rattle.sd_model_outside.proofs.deliveries.no_fault_no_failure.Goals as goal

pub returns-clause-flush : goal.returns-clause-flush
returns-clause-flush c mark text old new used steady after = written_flush mark text old new used steady after

pub returns-clause-flushes : goal.returns-clause-flushes
returns-clause-flushes c deliveries old new steady after = none_missed (missed deliveries) old new steady (all_counts deliveries old new after)

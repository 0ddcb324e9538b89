use Rattle.sd_law_run.proofs.EarlierLemmas.{settings_kept, earlier_rules_in_force, earlier_transport_in_force, settings_kept_before_outlets, transport_before_outlets, settings_kept_before_sums, no_sums_before_sums, no_room_before_sums, settings_kept_before_batches, none_before_batches}
use Rattle.sd_law_run.proofs.earlier.earlier_files.Goals as goal

pub returns-clause-kept : goal.returns-clause-kept
returns-clause-kept c = settings_kept

pub returns-clause-rules : goal.returns-clause-rules
returns-clause-rules c = earlier_rules_in_force

pub returns-clause-transport : goal.returns-clause-transport
returns-clause-transport c = earlier_transport_in_force

pub returns-clause-kept_before_outlets : goal.returns-clause-kept_before_outlets
returns-clause-kept_before_outlets c = settings_kept_before_outlets

pub returns-clause-none_before_outlets : goal.returns-clause-none_before_outlets
returns-clause-none_before_outlets c = transport_before_outlets

pub returns-clause-kept_before_sums : goal.returns-clause-kept_before_sums
returns-clause-kept_before_sums c = settings_kept_before_sums

pub returns-clause-no_sums_before : goal.returns-clause-no_sums_before
returns-clause-no_sums_before c = no_sums_before_sums

pub returns-clause-no_room_before : goal.returns-clause-no_room_before
returns-clause-no_room_before c = no_room_before_sums

pub returns-clause-kept_before_batches : goal.returns-clause-kept_before_batches
returns-clause-kept_before_batches c = settings_kept_before_batches

pub returns-clause-none_before_batches : goal.returns-clause-none_before_batches
returns-clause-none_before_batches c = none_before_batches

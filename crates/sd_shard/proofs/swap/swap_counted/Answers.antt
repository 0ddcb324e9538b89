use Rattle.sd_model_shard.specs.Shard.{table_of as handed_out}
use Rattle.sd_epoch.specs.Table.{table_of}
use Rattle.sd_shard.specs.Shard.{state_of}
use Rattle.sd_shard.proofs.TableLemmas.{same_table}
use Rattle.sd_shard.proofs.swap.swap_counted.Goals as goal

pub returns-clause-table : goal.returns-clause-table
returns-clause-table g c = same_table (table_of c.swap.result) (handed_out (state_of c.args.shard.now)) c.swap.ensures.table

pub returns-clause-state : goal.returns-clause-state
returns-clause-state g c = c.swap.ensures.state

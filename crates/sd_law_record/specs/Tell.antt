-- Swaps whose rows tell their journals.
use Rattle.std.specs.Prelude.{List}
use Rattle.std.specs.List.{AllByRecursion}
use Rattle.sd_model_shard.specs.Rows.{Tell}
use Rattle.sd_model_shard.specs.History.{Flushed}

-- each table tells its journal
abbrev pub AllTell : List Flushed → Type 0
AllTell flushes = AllByRecursion (λ f. Tell f.table.live f.journal) flushes

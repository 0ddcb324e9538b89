use Rattle.std.proofs.Common.{ap, ◌∙◌}
use Rattle.std.proofs.lemmas.Grind.{flat_map-append}
use Rattle.std.specs.Prelude.{flat_map}
use Rattle.sd_model_text.specs.Lines.{samples_of}
use Rattle.sd_model_serve.specs.Receiving.{asks}
use Rattle.sd_model_serve.proofs.ActsLemmas.{asks-append}
use Rattle.sd_pool.proofs.ActsLemmas.{Adds-none, Adds-next}
use Rattle.sd_law_run.proofs.acts.acts_add_up.Goals as goal

pub returns-clause-none : goal.returns-clause-none
returns-clause-none c = Adds-none

pub returns-clause-next : goal.returns-clause-next
returns-clause-next c = Adds-next

pub returns-clause-samples : goal.returns-clause-samples
returns-clause-samples c = asks-append

pub returns-clause-datagrams : goal.returns-clause-datagrams
returns-clause-datagrams c shards i xs ys =
    ap (asks shards i) (flat_map-append samples_of xs ys) ∙ asks-append shards i (flat_map samples_of xs) (flat_map samples_of ys)

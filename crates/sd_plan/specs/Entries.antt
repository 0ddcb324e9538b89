-- Entries of lists as the definitions have them.
use Rattle.std.specs.Prelude.{List, map}
use Rattle.sd_decimal.specs.declared.number.Limit.{Limit}
use Rattle.sd_decimal.specs.declared.number.Limit.TheVariants.{Below, Infinite}
use Rattle.sd_model_text.specs.Numbers as numbers
use Rattle.sd_model_settings.specs.Entries as model
use Rattle.sd_plan.specs.declared.entries.Classes.{Classes}
use Rattle.sd_plan.specs.declared.entries.Target.{Target}
use Rattle.sd_plan.specs.declared.entries.Node.{Node}

abbrev pub limit_of : Limit → numbers.Limit
limit_of (Below m) = numbers.Below m.0
limit_of Infinite = numbers.Infinite

abbrev pub limits_of : List Limit → List numbers.Limit
limits_of = map limit_of

abbrev pub classes_view : Classes → model.Classes
classes_view c = record { metric = c.metric.items; limits = limits_of c.limits.items }

abbrev pub target_view : Target → model.Target
target_view t = record { host = t.host.items; port = t.port }

abbrev pub node_view : Node → model.Node
node_view n = record { host = n.host.items; port = n.port; adminport = n.adminport }

-- How Graphite's names are made, as the definitions have it.
use Rattle.sd_model_settings.specs.Settings as model
use Rattle.sd_plan.specs.declared.names.Namespace.{Namespace}

abbrev pub namespace_view : Namespace → model.Namespace
namespace_view s =
    record {
      legacy = s.legacy;
      global_prefix = s.global_prefix.items;
      prefix_counter = s.prefix_counter.items;
      prefix_timer = s.prefix_timer.items;
      prefix_gauge = s.prefix_gauge.items;
      prefix_set = s.prefix_set.items;
      global_suffix = s.global_suffix.items;
    }

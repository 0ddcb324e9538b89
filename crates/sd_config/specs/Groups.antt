-- The groups of settings as the definitions have them.
use Rattle.std.specs.Prelude.{map}
use Rattle.sd_model_settings.specs.Settings as model
use Rattle.sd_plan.specs.Values.{micros, name_bytes}
use Rattle.sd_plan.specs.Entries.{classes_view, target_view, node_view}
use Rattle.sd_config.specs.declared.groups.Server.{Server}
use Rattle.sd_config.specs.declared.groups.Deletions.{Deletions}
use Rattle.sd_config.specs.declared.groups.Addresses.{Addresses}
use Rattle.sd_config.specs.declared.groups.EntryLists.{EntryLists}
use Rattle.sd_config.specs.declared.groups.Sizes.{Sizes}
use Rattle.sd_config.specs.declared.groups.FlushRules.{FlushRules}
use Rattle.sd_config.specs.declared.groups.Transport.{Transport}

abbrev pub server_view : Server → model.Server
server_view s =
    record {
      port = s.port;
      mgmt_port = s.mgmt_port;
      flush_interval = s.flush_interval;
      percent_threshold = micros s.percent_threshold.items;
    }

abbrev pub deletions_view : Deletions → model.Deletions
deletions_view s =
    record { idle_stats = s.idle_stats; counters = s.counters; timers = s.timers; sets = s.sets; gauges = s.gauges }

abbrev pub addresses_view : Addresses → model.Addresses
addresses_view s =
    record {
      prefix_stats = s.prefix_stats.items;
      address = s.address.items;
      mgmt_address = s.mgmt_address.items;
      backends = name_bytes s.backends.items;
      graphite_host = s.graphite_host.items;
      graphite_port = s.graphite_port;
    }

abbrev pub entry_lists_view : EntryLists → model.EntryLists
entry_lists_view s =
    record {
      histogram = map classes_view s.histogram.items;
      repeater = map target_view s.repeater.items;
      nodes = map node_view s.nodes.items;
    }

abbrev pub sizes_view : Sizes → model.Sizes
sizes_view s =
    record {
      check_interval = s.check_interval;
      cache_size = s.cache_size;
      shards = s.shards;
      rows = s.rows;
      entries = s.entries;
      receivers = s.receivers;
      run_flushes = s.run_flushes;
    }

abbrev pub flush_rules_view : FlushRules → model.FlushRules
flush_rules_view s =
    record { gauges_max_ttl = s.gauges_max_ttl; calculated_timer_metrics = name_bytes s.calculated_timer_metrics.items }

abbrev pub transport_view : Transport → model.Transport
transport_view s =
    record {
      outlets = s.outlets;
      outlet_bytes = s.outlet_bytes;
      tcp_port = s.tcp_port;
      sums_on_arrival = s.sums_on_arrival;
      proxy_mgmt_port = s.proxy_mgmt_port;
      align_flushes = s.align_flushes;
      batch_bytes = s.batch_bytes;
      receive_buffer = s.receive_buffer;
    }

use Rattle.std.proofs.lemmas.Result.{IfOk-at_ok}
use Rattle.toml.specs.View.{table_view}
use Rattle.sd_model_settings.specs.Table.{server, addresses, namespace, entry_lists, sizes, flush_rules, transport}
use Rattle.sd_model_settings.specs.Settings.{top}
use Rattle.sd_law_settings.specs.Ranges.{AreInRange}
use Rattle.sd_law_settings.proofs.SettingsInRange.{server_in_range, addresses_in_range, namespace_in_range, entry_lists_in_range, sizes_in_range, flush_rules_in_range, transport_in_range}
use Rattle.sd_config.proofs.settings.settings_in.Goals as goal

pub of-requires : goal.of-requires
of-requires c = (IfOk-at_ok (AreInRange server) c.in_ok-port.ensures (server_in_range (top (table_view c.args.table.now)))).1.1.1.0

pub of-requires-2 : goal.of-requires-2
of-requires-2 c = (IfOk-at_ok (AreInRange entry_lists) c.in_ok-histogram.ensures (entry_lists_in_range (top (table_view c.args.table.now)))).0

pub of-requires-3 : goal.of-requires-3
of-requires-3 c = (IfOk-at_ok (AreInRange flush_rules) c.in_ok-gauges_max_ttl.ensures (flush_rules_in_range (top (table_view c.args.table.now)))).1.0

pub invariant_of-plan : goal.invariant_of-plan
invariant_of-plan c = record { interval = (IfOk-at_ok (AreInRange server) c.in_ok-port.ensures (server_in_range (top (table_view c.args.table.now)))).1.1.0 }

pub invariant_of-result : goal.invariant_of-result
invariant_of-result c =
    let s = top (table_view c.args.table.now) in
    let of_server = IfOk-at_ok (AreInRange server) c.in_ok-port.ensures (server_in_range s) in
    let of_lists = IfOk-at_ok (AreInRange entry_lists) c.in_ok-histogram.ensures (entry_lists_in_range s) in (
      (of_server.0, of_server.1.0),
      IfOk-at_ok (AreInRange addresses) c.in_ok-addresses.ensures (addresses_in_range s),
      IfOk-at_ok (AreInRange namespace) c.in_ok-namespace.ensures (namespace_in_range _),
      of_lists.1.0,
      of_lists.1.1.0,
      IfOk-at_ok (AreInRange sizes) c.in_ok-sizes.ensures (sizes_in_range s),
      (IfOk-at_ok (AreInRange flush_rules) c.in_ok-gauges_max_ttl.ensures (flush_rules_in_range s)).0,
      IfOk-at_ok (AreInRange transport) c.in_ok-transport.ensures (transport_in_range s),
    )

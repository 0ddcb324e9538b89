use Rattle.std.proofs.Common.{◌≡◌, map, string_bytes}
use Rattle.toml.specs.View.{table_view}
use Rattle.sd_model_settings.specs.Settings.{names, first_unknown}
use Rattle.sd_config.proofs.known_names.first_unknown.Given as goal

abbrev pub invariant-loop-name : goal.invariant-loop-name
invariant-loop-name l =
    first_unknown l.prefix (map (λ k. k.now) l.known) (map string_bytes l.name-iterator)
    ≡ first_unknown l.prefix (map (λ k. k.now) l.known) (names (table_view l.table))

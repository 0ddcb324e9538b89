-- Which faults have words on what is allowed.
use Rattle.std.specs.Prelude.{ℕ, Bool, false, ◌||◌, ◌++◌, List, map, codes}
use Rattle.std.specs.List.{list_any}
use Rattle.std.specs.Str.{bytes_eq}
use Rattle.sd_model_settings.specs.Table.{namespace, setting_names}
use Rattle.sd_model_settings.specs.Settings.{setting_tables, top_names}
use Rattle.sd_config.specs.declared.fault.ConfigFault.{ConfigFault}
use Rattle.sd_config.specs.declared.fault.ConfigFault.TheVariants.{OutOfMemory, NotToml, Unknown, WrongKind, OutOfRange}

-- the name of a setting, or of the file
abbrev pub is_reported_name : List ℕ → Bool
is_reported_name name =
    list_any (λ k. bytes_eq k name) (top_names setting_tables)
    || (list_any (λ k. bytes_eq k name) (map (λ n. codes "graphite." ++ n) (setting_names namespace)) || bytes_eq name (codes "file"))

-- a fault of the value of a setting, or of the file
abbrev pub tells_a_setting : ConfigFault → Bool
tells_a_setting (WrongKind name) = is_reported_name name.items
tells_a_setting (OutOfRange name) = is_reported_name name.items
tells_a_setting OutOfMemory = false
tells_a_setting NotToml = false
tells_a_setting (Unknown name) = false

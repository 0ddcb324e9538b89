-- Values and tables of the code as the definitions have them.
use Rattle.std.specs.Prelude.{ℕ, Bool, List, Option, Some, None, String}
use Rattle.std.proofs.Common.{Bor}
use Rattle.std.specs.BTreeMap.{BTreeMap}
use Rattle.std.specs.declared.alloc.Global.{Global}
use Rattle.toml.specs.declared.value.Value.{Value}
use Rattle.toml.specs.Data.{Members, no_members}
use Rattle.toml.specs.View.{table_view}
use Rattle.sd_model_settings.specs.Values.{is_name_text, is_filled_prefix, is_host}
use Rattle.sd_model_settings.specs.Entries.{is_backend, is_class_name}
use Rattle.sd_model_settings.specs.Settings as model
use Rattle.sd_config.specs.declared.values.TextRule.{TextRule}
use Rattle.sd_config.specs.declared.values.TextRule.TheVariants.{Prefix, FilledPrefix, Host, Backend, ClassName, Metric}
use Rattle.sd_config.specs.declared.section.Section.{Section}

-- the test that a text has to pass
abbrev pub passes : TextRule → List ℕ → Bool
passes Prefix = is_name_text 64
passes FilledPrefix = is_filled_prefix
passes Host = is_host
passes Backend = is_backend
passes ClassName = is_class_name
passes Metric = is_name_text 255

-- the length that it has at most
abbrev pub longest : TextRule → ℕ
longest Prefix = 64
longest FilledPrefix = 64
longest Host = 64
longest Backend = 64
longest ClassName = 64
longest Metric = 255

-- the members of a table, where there is one
abbrev pub members_of : Option (Bor (BTreeMap (String Global) Value)) → Members
members_of None = no_members
members_of (Some t) = table_view t.now

-- a table with what stands before its names
abbrev pub section_of : Section → model.Section
section_of s = record { prefix = s.prefix.now; members = members_of s.table }

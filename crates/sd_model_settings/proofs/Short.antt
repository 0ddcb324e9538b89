-- Short names that proofs have for parts of definitions.
use Rattle.std.specs.Prelude.{List, ℕ, ◌+◌, length, [], codes, Result, Bool, nat_le, not, unsigned_abs, ℤ, ◌&&◌, ◌==◌, Ok, if◌then◌else◌, Err, ◌++◌, map, ◌∷◌, decimal}
use Rattle.sd_model_outside.specs.Backend as Backend
use Rattle.sd_model_settings.specs.Settings.{Settings, Section}
use Rattle.sd_model_settings.specs.ConfigText.{group_lines, config_line, limit_text, with_commas}
use Rattle.sd_model_settings.specs.Table.{entry_lists}
use Rattle.toml.specs.Data.{Members, Data, Items}
use Rattle.sd_model_settings.specs.Values.{members, ValueFlaw, are_distinct, listed, ranged, text, decimal as decimal_in, mapped, entry, OtherKind, are_at_most, each}
use Rattle.std.specs.Str.{bytes_eq}
use Rattle.sd_model_settings.specs.Entries.{is_backend, is_class_name, is_inf, Target, host_and_port, is_limit, has_early_inf, Classes, Node}
use Rattle.sd_model_text.specs.Numbers.{Below, Infinite, Limit, ascends}
use Rattle.std.specs.List.{list_all}
use Rattle.std.specs.Ordering.{int_eq}

-- an entry of `nodes`
abbrev pub node_line : List ℕ → Node → List ℕ
node_line name n = config_line name (n.host ++ 58 ∷ decimal n.port ++ 58 ∷ decimal n.adminport)

-- an entry of `repeater`
abbrev pub repeater_line : List ℕ → Target → List ℕ
repeater_line name t = config_line name (t.host ++ 58 ∷ decimal t.port)

-- an entry of `histogram`: its metric, and its limits after a space
abbrev pub histogram_line : List ℕ → Classes → List ℕ
histogram_line name c = config_line name (c.metric ++ 32 ∷ with_commas (map limit_text c.limits))

-- thresholds, no two of them equal
abbrev pub are_thresholds : List ℤ → Bool
are_thresholds xs = list_all (λ z. nat_le (unsigned_abs z) 100000000 && not (unsigned_abs z == 0)) xs && are_distinct int_eq xs

-- at most 64 limits, of which the last alone may be `inf`; elsewhere that is of another kind
abbrev pub bins_of : Items → Result (List Limit) ValueFlaw
bins_of ds = if has_early_inf ds then Err OtherKind else ranged (λ limits. list_all is_limit limits && ascends limits) (ranged (are_at_most 64) (each (λ d. if is_inf d then Ok Infinite else mapped Below (decimal_in d)) ds))

-- limits in range that ascend
abbrev pub are_limits : List Limit → Bool
are_limits limits = list_all is_limit limits && ascends limits

-- a byte of a host: from 33 to 126
abbrev pub is_host_byte : ℕ → Bool
is_host_byte b = nat_le 33 b && nat_le b 126

-- an entry of `repeater`: a table with `host` and `port`
abbrev pub target : Data → Result Target ValueFlaw
target = entry (λ ms. mapped (λ p. record { host = p.0; port = p.1 }) (host_and_port ms))

-- a limit: `inf`, or a decimal
abbrev pub limit : Data → Result Limit ValueFlaw
limit d = if is_inf d then Ok Infinite else mapped Below (decimal_in d)

-- a threshold in millionths: from -100 to 100, and not 0
abbrev pub is_threshold : ℤ → Bool
is_threshold z = nat_le (unsigned_abs z) 100000000 && not (unsigned_abs z == 0)

-- a list of names of classes, each at most once
abbrev pub class_names : Data → Result (List (List ℕ)) ValueFlaw
class_names d = ranged (are_distinct bytes_eq) (listed 16 (text is_class_name) d)

-- a list of backends, each at most once
abbrev pub backends : Data → Result (List (List ℕ)) ValueFlaw
backends d = ranged (are_distinct bytes_eq) (listed (length Backend.backends + 1) (text is_backend) d)

-- a line for each entry of a list of tables, and none where it is empty
abbrev pub entry_lines : Settings → List (List ℕ)
entry_lines s = group_lines [] entry_lists s.lists

-- its table `graphite`
abbrev pub inside_graphite : Members → Section
inside_graphite ms = record { prefix = codes "graphite."; members = ms }

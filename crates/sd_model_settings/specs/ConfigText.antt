-- The reply to `config`: a line for each setting in force, in the order and under the names of the file.
use Rattle.std.specs.{Prelude.{ℕ, if◌then◌else◌, List, [], ◌∷◌, ◌++◌, map, codes, decimal}, List.{join_with_byte}}
use Rattle.sd_model_text.specs.Numbers.{number_text, Limit, Below, Infinite}
use Rattle.sd_model_settings.specs.{Entries.{Classes, Target, Node, SettingKind, Whole, Share, Flag, Prefix, FilledPrefix, Host, Thresholds, Backends, ClassNames, Histograms, Targets, Nodes, Value}, Table.{SettingTable, Values, Then, server, deletion_rules, addresses, namespace, entry_lists, sizes, flush_rules, transport}, Settings.{Settings}}

-- a line: a name, a colon, a space and a value
abbrev pub config_line : List ℕ → List ℕ → List ℕ
config_line name value = name ++ 58 ∷ 32 ∷ value ++ 10 ∷ []

-- the text of a limit
abbrev pub limit_text : Limit → List ℕ
limit_text (Below z) = number_text z
limit_text Infinite = codes "inf"

-- texts joined by commas
abbrev pub with_commas : List (List ℕ) → List ℕ
with_commas = join_with_byte 44

-- the lines of a value under its name: one, or one for each entry of a list of tables
abbrev pub value_lines : List ℕ → (kind : SettingKind) → Value kind → List (List ℕ)
value_lines name (Whole least most) n = config_line name (decimal n) ∷ []
value_lines name (Share least most all earlier) n = config_line name (decimal n) ∷ []
value_lines name Flag b = config_line name (if b then codes "true" else codes "false") ∷ []
value_lines name Prefix s = config_line name s ∷ []
value_lines name FilledPrefix s = config_line name s ∷ []
value_lines name Host s = config_line name s ∷ []
value_lines name Thresholds zs = config_line name (with_commas (map number_text zs)) ∷ []
value_lines name Backends names = config_line name (with_commas names) ∷ []
value_lines name ClassNames names = config_line name (with_commas names) ∷ []
value_lines name Histograms entries = map (λ c. config_line name (c.metric ++ 32 ∷ with_commas (map limit_text c.limits))) entries
value_lines name Targets entries = map (λ t. config_line name (t.host ++ 58 ∷ decimal t.port)) entries
value_lines name Nodes entries = map (λ n. config_line name (n.host ++ 58 ∷ decimal n.port ++ 58 ∷ decimal n.adminport)) entries

-- the lines of a group's values, by its table, where its names have something before them
abbrev pub group_lines : {A : Type 0} → List ℕ → SettingTable A → A → List (List ℕ)
group_lines prefix (Values v) values = []
group_lines prefix (Then s rest) values = value_lines (prefix ++ s.name) s.kind (s.value values) ++ group_lines prefix (rest (s.value values)) values

-- the lines before those of entries
abbrev pub first_lines : Settings → List (List ℕ)
first_lines s =
    group_lines [] server s.server ++ group_lines [] deletion_rules s.deletions ++ group_lines [] addresses s.addresses
    ++ group_lines (codes "graphite.") namespace s.namespace

-- the lines after those of entries
abbrev pub back_lines : Settings → List (List ℕ)
back_lines s = group_lines [] sizes s.sizes ++ group_lines [] flush_rules s.rules ++ group_lines [] transport s.transport

-- the lines of all settings
abbrev pub config_lines : Settings → List (List ℕ)
config_lines s = first_lines s ++ group_lines [] entry_lists s.lists ++ back_lines s

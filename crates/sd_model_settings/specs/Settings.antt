-- What a settings file sets, or its first fault; the known names; the defaults; what a record is made by, and Graphite's names.
use Rattle.std.specs.{Prelude.{ℕ, nat_lt, if◌then◌else◌, List, length, take, codes, Option, Some, None, Result, Ok, Err, IfErr, [], ◌∷◌, ◌++◌, ℤ, ok_or}, Str.{is_utf8, bytes_eq}, List.{list_any}, Option.{option_or}}
use Rattle.toml.specs.{Data.{Members, Data, array, table, Items, no_items, item, no_members, member, get_member}, Parse.{parse_document}}
use Rattle.sd_model_text.specs.Lists.{◌>>=◌}
use Rattle.sd_model_settings.specs.{Values.{ValueFlaw, OtherKind, OutsideRange, members}, Entries.{Classes, read_as}, Table.{server, deletion_rules, addresses, namespace, entry_lists, sizes, flush_rules, transport, setting_names}}
pub use Rattle.sd_model_settings.specs.Table.{SettingTable, Values, Then, Server, Deletions, Addresses, Namespace, EntryLists, Sizes, FlushRules, Transport}

-- Why a file sets nothing, with the name of a setting.
pub data SettingsFlaw : Type 0 where
  NotToml : SettingsFlaw
  Unknown WrongKind OutOfRange : (name : List ℕ) → SettingsFlaw

-- a name as a fault has it: its first 64 bytes
abbrev pub shown : List ℕ → List ℕ
shown name = take 64 name

-- a value that was read, with the name of its setting beside what is wrong
abbrev pub with_name : {A : Type 0} → List ℕ → Result A ValueFlaw → Result A SettingsFlaw
with_name name (Ok x) = Ok x
with_name name (Err OtherKind) = Err (WrongKind (shown name))
with_name name (Err OutsideRange) = Err (OutOfRange (shown name))

-- The members of a table of the file, and what is before their names in a fault.
pub record Section : Type 0 where
  pub prefix : List ℕ
  pub members : Members

-- the whole file
abbrev pub top : Members → Section
top ms = record { prefix = []; members = ms }

-- the value in force: the one that is given, as it is read, or else the default
abbrev pub in_force : {A : Type 0} → List ℕ → (Data → Result A ValueFlaw) → A → Option Data → Result A SettingsFlaw
in_force name read default None = Ok default
in_force name read default (Some d) = with_name name (read d)

-- the value in force of what has a name
abbrev pub found : {A : Type 0} → Section → List ℕ → (Data → Result A ValueFlaw) → A → Result A SettingsFlaw
found s name read default = in_force (s.prefix ++ name) read default (get_member name s.members)

-- the values that a section sets by a table, or the first fault
unfoldable pub read : {A : Type 0} → SettingTable A → Section → Result A SettingsFlaw
read (Values v) section = Ok v
read (Then s rest) section = found section s.name (read_as s.kind) s.default >>= (λ x. read (rest x) section)

-- The values of all settings.
pub record Settings : Type 0 where
  pub server : Server
  pub deletions : Deletions
  pub addresses : Addresses
  pub namespace : Namespace
  pub lists : EntryLists
  pub sizes : Sizes
  pub rules : FlushRules
  pub transport : Transport

-- The table, group by group.
pub record Tables : Type 0 where
  pub server : SettingTable Server
  pub deletions : SettingTable Deletions
  pub addresses : SettingTable Addresses
  pub namespace : SettingTable Namespace
  pub lists : SettingTable EntryLists
  pub sizes : SettingTable Sizes
  pub rules : SettingTable FlushRules
  pub transport : SettingTable Transport

-- today's
abbrev pub setting_tables : Tables
setting_tables = record { server = server; deletions = deletion_rules; addresses = addresses; namespace = namespace; lists = entry_lists; sizes = sizes; rules = flush_rules; transport = transport }

-- the values that a file sets by a table; what `graphite` is decides before what it has
unfoldable pub settings_in : Tables → Section → Result Settings SettingsFlaw
settings_in t s = do
  of-server ← read t.server s
  of-deletions ← read t.deletions s
  of-addresses ← read t.addresses s
  graphite ← found s (codes "graphite") members no_members
  of-namespace ← read t.namespace (record { prefix = codes "graphite."; members = graphite })
  of-lists ← read t.lists s
  of-sizes ← read t.sizes s
  of-rules ← read t.rules s
  of-transport ← read t.transport s
  Ok (record { server = of-server; deletions = of-deletions; addresses = of-addresses; namespace = of-namespace; lists = of-lists; sizes = of-sizes; rules = of-rules; transport = of-transport })

-- the names that are known at the top of a file
abbrev pub top_names : Tables → List (List ℕ)
top_names t =
    (codes "graphite" ∷ []) ++ setting_names t.server ++ setting_names t.deletions ++ setting_names t.addresses ++ setting_names t.lists
    ++ setting_names t.sizes ++ setting_names t.rules ++ setting_names t.transport

-- the names that a table has, which ascend by their bytes
abbrev pub names : Members → List (List ℕ)
names no_members = []
names (member name d ms) = name ∷ names ms

-- the first of some names that isn't known, after the name of its table
abbrev pub first_unknown : List ℕ → List (List ℕ) → List (List ℕ) → Option (List ℕ)
first_unknown prefix known [] = None
first_unknown prefix known (name ∷ rest) = if list_any (λ k. bytes_eq k name) known then first_unknown prefix known rest else Some (prefix ++ name)

-- the first unknown name in a value; what isn't a table is passed over
abbrev pub unknown_in : List ℕ → List (List ℕ) → Option Data → Option (List ℕ)
unknown_in prefix known (Some (table ms)) = first_unknown prefix known (names ms)
unknown_in prefix known _ = None

-- the first unknown name in the entries of a list, in their order
abbrev pub unknown_among : List ℕ → List (List ℕ) → Items → Option (List ℕ)
unknown_among prefix known no_items = None
unknown_among prefix known (item d ds) = option_or (unknown_in prefix known (Some d)) (unknown_among prefix known ds)

-- the first unknown name in a value's entries; what isn't a list is passed over
abbrev pub unknown_in_list : List ℕ → List (List ℕ) → Option Data → Option (List ℕ)
unknown_in_list prefix known (Some (array ds)) = unknown_among prefix known ds
unknown_in_list prefix known _ = None

-- the first unknown name inside `graphite`, and in the entries of `histogram`, `repeater` and `nodes`, in this order
abbrev pub unknown_inside : Members → Option (List ℕ)
unknown_inside doc =
    option_or (unknown_in (codes "graphite.") (setting_names namespace) (get_member (codes "graphite") doc))
    (option_or (unknown_in_list (codes "histogram.") (codes "metric" ∷ codes "bins" ∷ []) (get_member (codes "histogram") doc))
    (option_or (unknown_in_list (codes "repeater.") (codes "host" ∷ codes "port" ∷ []) (get_member (codes "repeater") doc))
    (unknown_in_list (codes "nodes.") (codes "host" ∷ codes "port" ∷ codes "adminport" ∷ []) (get_member (codes "nodes") doc))))

-- the first name of a file that a table doesn't know
unfoldable pub unknown : Tables → Members → Option (List ℕ)
unknown t doc = option_or (first_unknown [] (top_names t) (names doc)) (unknown_inside doc)

-- a name that isn't known comes before all settings
abbrev pub unless_unknown : Option (List ℕ) → Result Settings SettingsFlaw → Result Settings SettingsFlaw
unless_unknown (Some name) rest = Err (Unknown (shown name))
unless_unknown None rest = rest

-- the table that bytes are, which have to be UTF-8 and TOML
unfoldable pub document : List ℕ → Result Members SettingsFlaw
document bytes = if is_utf8 bytes then ok_or (parse_document bytes) NotToml else Err NotToml

-- the values that a file of at most 65,536 bytes sets by a table, or its first fault
unfoldable pub settings_by : Tables → List ℕ → Result Settings SettingsFlaw
settings_by t bytes =
    if nat_lt 65536 (length bytes) then Err (OutOfRange (codes "file"))
    else (do
      doc ← document bytes
      unless_unknown (unknown t doc) (settings_in t (top doc)))

-- the values that a file sets, or its first fault
unfoldable pub settings : List ℕ → Result Settings SettingsFlaw
settings bytes = settings_by setting_tables bytes

-- the value, where no flaw was read
abbrev pub value_read : {A : Type 0} (r : Result A SettingsFlaw) → IfErr r (λ flaw. ⊥) → A
value_read (Ok x) none = x
value_read (Err flaw) none = absurd none

-- the settings of an empty file: the default of each
unfoldable pub default_settings : Settings
unfolding read settings_in
default_settings = value_read (settings_in setting_tables (top no_members)) tt

-- What a record is made by: the interval of rates in milliseconds, the thresholds, the bins, the chosen classes of timers' lines.
pub record Plan : Type 0 where
  pub interval_ms : ℕ
  pub thresholds : List ℤ
  pub histograms : List Classes
  pub calculated : List (List ℕ)

-- the plan that settings make
abbrev pub plan_of : Settings → Plan
plan_of s =
    record {
      interval_ms = s.server.flush_interval;
      thresholds = s.server.percent_threshold;
      histograms = s.lists.histogram;
      calculated = s.rules.calculated_timer_metrics;
    }

-- What Graphite's names are made of: the namespace, and the prefix of the server's own metrics.
pub record Names : Type 0 where
  pub namespace : Namespace
  pub prefix_stats : List ℕ

-- the names that settings make
abbrev pub names_of : Settings → Names
names_of s = record { namespace = s.namespace; prefix_stats = s.addresses.prefix_stats }

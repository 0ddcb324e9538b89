-- The ranges that the values of every accepted file are in, as those rely on them who use the values.
use Rattle.std.specs.Prelude.{◌≡◌, ◌≢◌, ℕ, ◌+◌, ◌*◌, ◌<◌, ◌≤◌, true, ℤ, pos, unsigned_abs, List, length, All, nat_le, ◌&&◌}
use Rattle.std.specs.List.{AllPass}
use Rattle.std.specs.Ordering.{int_eq}
use Rattle.std.specs.Str.{bytes_eq}
use Rattle.sd_model_outside.specs.Backend.{backends}
use Rattle.sd_model_text.specs.Names.{is_name_byte}
use Rattle.sd_model_settings.specs.Values.{are_distinct}
use Rattle.sd_model_text.specs.Numbers.{Limit, ascends}
use Rattle.sd_model_settings.specs.Entries.{is_backend, is_limit, Classes, Target, Node, is_class_name, SettingKind, Whole, Share, Flag, Prefix, FilledPrefix, Host, Thresholds, Backends, ClassNames, Histograms, Targets, Nodes, Value}
use Rattle.sd_model_settings.specs.Table.{SettingTable, Values, Then, Namespace, server, addresses, namespace, entry_lists, sizes, flush_rules, transport}
use Rattle.sd_model_settings.specs.Settings.{Settings}

-- a number from least to most
abbrev pub IsWithin : ℕ → ℕ → ℕ → Type 0
IsWithin least most n = (least ≤ n) × (n ≤ most)

-- The text of a prefix.
pub record IsPrefix (s : List ℕ) : Type 0 where
  pub short : length s ≤ 64
  pub bytes : AllPass is_name_byte s

-- The text of a host.
pub record IsHost (s : List ℕ) : Type 0 where
  pub some : 0 < length s
  pub short : length s ≤ 64
  pub bytes : AllPass (λ b. nat_le 33 b && nat_le b 126) s

-- a threshold in millionths
abbrev pub IsThreshold : ℤ → Type 0
IsThreshold z = (unsigned_abs z ≤ 100000000) × (z ≢ pos 0)

-- At most 16 thresholds, no two of them equal.
pub record AreThresholds (xs : List ℤ) : Type 0 where
  pub few : length xs ≤ 16
  pub range : All IsThreshold xs
  pub distinct : are_distinct int_eq xs ≡ true

-- Backends, each at most once.
pub record AreBackends (names : List (List ℕ)) : Type 0 where
  pub few : length names ≤ length backends + 1
  pub known : AllPass is_backend names
  pub distinct : are_distinct bytes_eq names ≡ true

-- Names of classes of timers' lines, each at most once.
pub record AreClassNames (names : List (List ℕ)) : Type 0 where
  pub few : length names ≤ 16
  pub known : AllPass is_class_name names
  pub distinct : are_distinct bytes_eq names ≡ true

-- At most 64 limits that ascend.
pub record AreLimits (limits : List Limit) : Type 0 where
  pub few : length limits ≤ 64
  pub range : AllPass is_limit limits
  pub ascending : ascends limits ≡ true

-- An entry of `histogram`.
pub record IsClasses (c : Classes) : Type 0 where
  pub short : length c.metric ≤ 255
  pub bytes : AllPass is_name_byte c.metric
  pub limits : AreLimits c.limits

-- At most 16 entries of `histogram`.
pub record AreHistograms (entries : List Classes) : Type 0 where
  pub few : length entries ≤ 16
  pub range : All IsClasses entries

-- An entry of `repeater`.
pub record IsTarget (t : Target) : Type 0 where
  pub host : IsHost t.host
  pub port : IsWithin 1 65535 t.port

-- At most 16 entries of `repeater`.
pub record AreTargets (entries : List Target) : Type 0 where
  pub few : length entries ≤ 16
  pub range : All IsTarget entries

-- An entry of `nodes`.
pub record IsNode (n : Node) : Type 0 where
  pub host : IsHost n.host
  pub port : IsWithin 1 65535 n.port
  pub adminport : IsWithin 1 65535 n.adminport

-- At most 64 entries of `nodes`.
pub record AreNodes (entries : List Node) : Type 0 where
  pub few : length entries ≤ 64
  pub range : All IsNode entries

-- a value of a kind is in its range
abbrev pub IsInRange : (kind : SettingKind) → Value kind → Type 0
IsInRange (Whole least most) n = IsWithin least most n
IsInRange (Share least most all earlier) n = IsWithin least most n × (earlier * n ≤ all)
IsInRange Flag b = Unit {0}
IsInRange Prefix s = IsPrefix s
IsInRange FilledPrefix s = IsPrefix s × (0 < length s)
IsInRange Host s = IsHost s
IsInRange Thresholds zs = AreThresholds zs
IsInRange Backends names = AreBackends names
IsInRange ClassNames names = AreClassNames names
IsInRange Histograms entries = AreHistograms entries
IsInRange Targets entries = AreTargets entries
IsInRange Nodes entries = AreNodes entries

-- each value of a group is in the range that its table has for it
abbrev pub AreInRange : {A : Type 0} → SettingTable A → A → Type 0
AreInRange (Values v) values = Unit {0}
AreInRange (Then s rest) values = IsInRange s.kind (s.value values) × AreInRange (rest (s.value values)) values

-- how Graphite's names are made is in range
abbrev pub NamespaceInRange : Namespace → Type 0
NamespaceInRange = AreInRange namespace

-- Each setting is in its range.
pub record InRange (s : Settings) : Type 0 where
  pub server : AreInRange server s.server
  pub addresses : AreInRange addresses s.addresses
  pub namespace : NamespaceInRange s.namespace
  pub lists : AreInRange entry_lists s.lists
  pub sizes : AreInRange sizes s.sizes
  pub rules : AreInRange flush_rules s.rules
  pub transport : AreInRange transport s.transport

-- The table of settings: a line for each, with its name, its kind and range, its default, and the value that it sets. The lines are
-- in eight groups, in the order of the settings' numbers; a table of the file, as `graphite`, has a group of its own.
use Rattle.std.specs.Prelude.{ℕ, Bool, true, false, ℤ, pos, List, [], ◌∷◌, codes}
use Rattle.sd_model_settings.specs.Entries.{Classes, Target, Node, SettingKind, Whole, Share, Flag, Prefix, FilledPrefix, Host, Thresholds, Backends, ClassNames, Histograms, Targets, Nodes, Value}

-- A setting of a group: its name, its kind, its default, and which of the group's values it sets.
pub record Setting (A : Type 0) : Type 0 where
  pub name : List ℕ
  pub kind : SettingKind
  pub default : Value kind
  pub value : A → Value kind

-- The settings of a group, in order, and after them the group's values. What one sets may have a say in those after it.
pub data SettingTable (A : Type 0) : Type 0 where
  Values : A → SettingTable A
  Then : (s : Setting A) → (Value s.kind → SettingTable A) → SettingTable A

infixl 10 ◌>>=◌
-- a setting, and those after it, which may use what it sets
abbrev pub ◌>>=◌ : {A : Type 0} (s : Setting A) → (Value s.kind → SettingTable A) → SettingTable A
s >>= rest = Then s rest

-- a line of the table
abbrev pub setting : {A : Type 0} → List ℕ → (kind : SettingKind) → Value kind → (A → Value kind) → Setting A
setting name kind default value = record { name = name; kind = kind; default = default; value = value }

-- Ports, the time between two flushes in milliseconds, and the thresholds of timers.
pub record Server : Type 0 where
  pub port : ℕ
  pub mgmt_port : ℕ
  pub flush_interval : ℕ
  pub percent_threshold : List ℤ

abbrev pub server : SettingTable Server
server = do
  port ← setting (codes "port") (Whole 1 65535) 8125 (λ v. v.port)
  mgmt_port ← setting (codes "mgmt_port") (Whole 1 65535) 8126 (λ v. v.mgmt_port)
  flush_interval ← setting (codes "flushInterval") (Whole 1 86400000) 10000 (λ v. v.flush_interval)
  percent_threshold ← setting (codes "percentThreshold") Thresholds (pos 90000000 ∷ []) (λ v. v.percent_threshold)
  Values (record { port = port; mgmt_port = mgmt_port; flush_interval = flush_interval; percent_threshold = percent_threshold })

-- Which kinds of rows are deleted when idle; the first is the default of the others.
pub record Deletions : Type 0 where
  pub idle_stats : Bool
  pub counters : Bool
  pub timers : Bool
  pub sets : Bool
  pub gauges : Bool

abbrev pub deletion_rules : SettingTable Deletions
deletion_rules = do
  idle_stats ← setting (codes "deleteIdleStats") Flag false (λ v. v.idle_stats)
  counters ← setting (codes "deleteCounters") Flag idle_stats (λ v. v.counters)
  timers ← setting (codes "deleteTimers") Flag idle_stats (λ v. v.timers)
  sets ← setting (codes "deleteSets") Flag idle_stats (λ v. v.sets)
  gauges ← setting (codes "deleteGauges") Flag idle_stats (λ v. v.gauges)
  Values (record { idle_stats = idle_stats; counters = counters; timers = timers; sets = sets; gauges = gauges })

-- The prefix of the server's own metrics, the addresses that it listens at, and where records go.
pub record Addresses : Type 0 where
  pub prefix_stats : List ℕ
  pub address : List ℕ
  pub mgmt_address : List ℕ
  pub backends : List (List ℕ)
  pub graphite_host : List ℕ
  pub graphite_port : ℕ

abbrev pub addresses : SettingTable Addresses
addresses = do
  prefix_stats ← setting (codes "prefixStats") FilledPrefix (codes "statsd") (λ v. v.prefix_stats)
  address ← setting (codes "address") Host (codes "0.0.0.0") (λ v. v.address)
  mgmt_address ← setting (codes "mgmt_address") Host (codes "0.0.0.0") (λ v. v.mgmt_address)
  backends ← setting (codes "backends") Backends (codes "graphite" ∷ []) (λ v. v.backends)
  graphite_host ← setting (codes "graphiteHost") Host (codes "127.0.0.1") (λ v. v.graphite_host)
  graphite_port ← setting (codes "graphitePort") (Whole 1 65535) 2003 (λ v. v.graphite_port)
  Values (record { prefix_stats = prefix_stats; address = address; mgmt_address = mgmt_address; backends = backends; graphite_host = graphite_host; graphite_port = graphite_port })

-- How Graphite's names are made; these settings are in the file's table `graphite`.
pub record Namespace : Type 0 where
  pub legacy : Bool
  pub global_prefix : List ℕ
  pub prefix_counter : List ℕ
  pub prefix_timer : List ℕ
  pub prefix_gauge : List ℕ
  pub prefix_set : List ℕ
  pub global_suffix : List ℕ

abbrev pub namespace : SettingTable Namespace
namespace = do
  legacy ← setting (codes "legacyNamespace") Flag true (λ v. v.legacy)
  global_prefix ← setting (codes "globalPrefix") Prefix (codes "stats") (λ v. v.global_prefix)
  prefix_counter ← setting (codes "prefixCounter") Prefix (codes "counters") (λ v. v.prefix_counter)
  prefix_timer ← setting (codes "prefixTimer") Prefix (codes "timers") (λ v. v.prefix_timer)
  prefix_gauge ← setting (codes "prefixGauge") Prefix (codes "gauges") (λ v. v.prefix_gauge)
  prefix_set ← setting (codes "prefixSet") Prefix (codes "sets") (λ v. v.prefix_set)
  global_suffix ← setting (codes "globalSuffix") Prefix [] (λ v. v.global_suffix)
  Values (record { legacy = legacy; global_prefix = global_prefix; prefix_counter = prefix_counter; prefix_timer = prefix_timer; prefix_gauge = prefix_gauge; prefix_set = prefix_set; global_suffix = global_suffix })

-- The lists of tables.
pub record EntryLists : Type 0 where
  pub histogram : List Classes
  pub repeater : List Target
  pub nodes : List Node

abbrev pub entry_lists : SettingTable EntryLists
entry_lists = do
  histogram ← setting (codes "histogram") Histograms [] (λ v. v.histogram)
  repeater ← setting (codes "repeater") Targets [] (λ v. v.repeater)
  nodes ← setting (codes "nodes") Nodes [] (λ v. v.nodes)
  Values (record { histogram = histogram; repeater = repeater; nodes = nodes })

-- Times in milliseconds, and numbers of things.
pub record Sizes : Type 0 where
  pub check_interval : ℕ
  pub cache_size : ℕ
  pub shards : ℕ
  pub rows : ℕ
  pub entries : ℕ
  pub receivers : ℕ
  pub run_flushes : ℕ

-- the sizes, with the most entries of a shard and of all shards
abbrev pub sizes_by : ℕ → ℕ → SettingTable Sizes
sizes_by most all = do
  check_interval ← setting (codes "checkInterval") (Whole 1 86400000) 10000 (λ v. v.check_interval)
  cache_size ← setting (codes "cacheSize") (Whole 1 1000000) 10000 (λ v. v.cache_size)
  shards ← setting (codes "shards") (Whole 1 16) 4 (λ v. v.shards)
  rows ← setting (codes "rows") (Whole 1 16384) 4096 (λ v. v.rows)
  entries ← setting (codes "entries") (Share 1 most all shards) 65536 (λ v. v.entries)
  receivers ← setting (codes "receivers") (Whole 1 16) 2 (λ v. v.receivers)
  run_flushes ← setting (codes "runFlushes") (Whole 0 1000000000) 0 (λ v. v.run_flushes)
  Values (record { check_interval = check_interval; cache_size = cache_size; shards = shards; rows = rows; entries = entries; receivers = receivers; run_flushes = run_flushes })

abbrev pub sizes : SettingTable Sizes
sizes = sizes_by 1048576 2097152

-- At which swap after its last sample an idle gauge goes, and the names of the classes of timers' lines that are chosen.
pub record FlushRules : Type 0 where
  pub gauges_max_ttl : ℕ
  pub calculated_timer_metrics : List (List ℕ)

abbrev pub flush_rules : SettingTable FlushRules
flush_rules = do
  gauges_max_ttl ← setting (codes "gaugesMaxTTL") (Whole 1 1000000000) 1 (λ v. v.gauges_max_ttl)
  calculated_timer_metrics ← setting (codes "calculatedTimerMetrics") ClassNames [] (λ v. v.calculated_timer_metrics)
  Values (record { gauges_max_ttl = gauges_max_ttl; calculated_timer_metrics = calculated_timer_metrics })

-- How many texts may wait for each backend and of how many bytes each may be, the port of streams of lines, whether the samples of
-- counters and gauges are summed up as they come and take none of a shard's entries, the port at which a proxy answers admin lines,
-- whether flushes are at multiples of their interval of the system's clock, how many bytes of lines a proxy puts into one datagram,
-- and how many bytes of room for waiting datagrams each receiver asks the system for; port and room 0 are none, 0 bytes one line each.
pub record Transport : Type 0 where
  pub outlets : ℕ
  pub outlet_bytes : ℕ
  pub tcp_port : ℕ
  pub sums_on_arrival : Bool
  pub proxy_mgmt_port : ℕ
  pub align_flushes : Bool
  pub batch_bytes : ℕ
  pub receive_buffer : ℕ

abbrev pub transport : SettingTable Transport
transport = do
  outlets ← setting (codes "outlets") (Whole 0 64) 0 (λ v. v.outlets)
  outlet_bytes ← setting (codes "outletBytes") (Share 65536 16777216 268435456 outlets) 4194304 (λ v. v.outlet_bytes)
  tcp_port ← setting (codes "tcp_port") (Whole 0 65535) 0 (λ v. v.tcp_port)
  sums_on_arrival ← setting (codes "sumsOnArrival") Flag false (λ v. v.sums_on_arrival)
  proxy_mgmt_port ← setting (codes "proxy_mgmt_port") (Whole 0 65535) 0 (λ v. v.proxy_mgmt_port)
  align_flushes ← setting (codes "alignFlushes") Flag false (λ v. v.align_flushes)
  batch_bytes ← setting (codes "batchBytes") (Whole 0 65507) 0 (λ v. v.batch_bytes)
  receive_buffer ← setting (codes "receiveBuffer") (Whole 0 1073741824) 0 (λ v. v.receive_buffer)
  Values (record { outlets = outlets; outlet_bytes = outlet_bytes; tcp_port = tcp_port; sums_on_arrival = sums_on_arrival; proxy_mgmt_port = proxy_mgmt_port; align_flushes = align_flushes; batch_bytes = batch_bytes; receive_buffer = receive_buffer })

-- the names of a group's settings
abbrev pub setting_names : {A : Type 0} → SettingTable A → List (List ℕ)
setting_names (Values v) = []
setting_names (Then s rest) = s.name ∷ setting_names (rest s.default)

-- What a file set before some of the settings were known: before gauges could live longer, lines of timers were chosen, and a
-- shard had more than 65,536 entries; then before backends had outlets and lines came in streams; then before sums were made on
-- arrival and receivers asked for room; and then before a proxy answered admin lines and put several lines into a datagram, and flushes
-- were aligned.
use Rattle.std.specs.Prelude.{ℕ, if◌then◌else◌, List, [], ◌∷◌, ◌++◌, false, codes, Result}
use Rattle.std.specs.List.{list_any}
use Rattle.std.specs.Str.{bytes_eq}
use Rattle.sd_model_settings.specs.Table.{SettingTable, Values, Then, FlushRules, Transport, sizes_by}
use Rattle.sd_model_settings.specs.Settings.{SettingsFlaw, Settings, Tables, setting_tables, settings_by}

-- a gauge that goes when idle goes at the first swap, and no class of lines is chosen
abbrev pub earlier_rules : FlushRules
earlier_rules = record { gauges_max_ttl = 1; calculated_timer_metrics = [] }

-- no text waits for a backend, no port takes streams of lines, no sum is made on arrival, a proxy answers no admin line, flushes are not
-- aligned, a datagram has one line, and no room is asked for
abbrev pub earlier_transport : Transport
earlier_transport = record { outlets = 0; outlet_bytes = 4194304; tcp_port = 0; sums_on_arrival = false; proxy_mgmt_port = 0; align_flushes = false; batch_bytes = 0; receive_buffer = 0 }

-- a table without the settings of some names, which have their defaults
abbrev pub without : {A : Type 0} → List (List ℕ) → SettingTable A → SettingTable A
without unset (Values v) = Values v
without unset (Then s rest) =
    if list_any (λ name. bytes_eq name s.name) unset then without unset (rest s.default) else Then s (λ x. without unset (rest x))

-- the names that came last; those that came with sums on arrival and since; with outlets and since; and with longer lives of gauges
abbrev pub names_since_batches : List (List ℕ)
names_since_batches = codes "proxy_mgmt_port" ∷ codes "alignFlushes" ∷ codes "batchBytes" ∷ []

abbrev pub names_since_sums : List (List ℕ)
names_since_sums = codes "sumsOnArrival" ∷ codes "receiveBuffer" ∷ names_since_batches

abbrev pub names_since_outlets : List (List ℕ)
names_since_outlets = codes "outlets" ∷ codes "outletBytes" ∷ codes "tcp_port" ∷ names_since_sums

abbrev pub names_since_ttl : List (List ℕ)
names_since_ttl = codes "gaugesMaxTTL" ∷ codes "calculatedTimerMetrics" ∷ names_since_outlets

-- a table of settings without those of some names, which stand in the last two groups
abbrev pub tables_without : List (List ℕ) → Tables
tables_without unset = record setting_tables { rules = without unset setting_tables.rules; transport = without unset setting_tables.transport }

-- before gauges could live longer, where a shard had at most 65,536 entries, which fit 16 shards
unfoldable pub earlier_settings : List ℕ → Result Settings SettingsFlaw
earlier_settings = settings_by (record (tables_without names_since_ttl) { sizes = sizes_by 65536 1048576 })

-- before backends had outlets
unfoldable pub settings_before_outlets : List ℕ → Result Settings SettingsFlaw
settings_before_outlets = settings_by (tables_without names_since_outlets)

-- before sums were made on arrival and receivers asked for room
unfoldable pub settings_before_sums : List ℕ → Result Settings SettingsFlaw
settings_before_sums = settings_by (tables_without names_since_sums)

-- before a proxy answered admin lines and put several lines into a datagram, and flushes were aligned
unfoldable pub settings_before_batches : List ℕ → Result Settings SettingsFlaw
settings_before_batches = settings_by (tables_without names_since_batches)

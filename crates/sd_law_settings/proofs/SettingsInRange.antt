-- The settings of an accepted file are in range.
use Rattle.std.proofs.Common.{◌≡◌, ℕ, ◌*◌, ◌≤◌, true, nat_lt, nat_le, pos, List, [], ◌∷◌, length, codes, Option, Some, None, Result, Ok, IfOk, refl, inl, inr, arith}
use Rattle.std.specs.Prelude.{⊤}
use Rattle.std.proofs.lemmas.Bool.{cases_Bool}
use Rattle.std.proofs.lemmas.Bool.Decides.{nat_tests}
use Rattle.toml.specs.Data.{Data, no_members}
use Rattle.sd_model_settings.specs.Values.{flag, whole_read, members}
use Rattle.sd_model_settings.specs.Entries.{SettingKind, Whole, Share, Flag, Prefix, FilledPrefix, Host, Thresholds, Backends, ClassNames, Histograms, Targets, Nodes, Value, read_as}
use Rattle.sd_model_settings.specs.Table.{SettingTable, Values, Then, server, deletion_rules, addresses, namespace, entry_lists, sizes, flush_rules, transport}
use Rattle.sd_model_settings.specs.Settings.{unknown, SettingsFlaw, Section, found, read, top, Settings, setting_tables, settings_in, unless_unknown, document, settings_by, settings}
use Rattle.sd_model_text.specs.Lists.{◌>>=◌}
use Rattle.sd_law_settings.specs.Ranges.{IsWithin, IsHost, AreThresholds, AreBackends, AreClassNames, AreHistograms, AreTargets, AreNodes, IsInRange, AreInRange, InRange}
use Rattle.sd_law_settings.proofs.ValuesInRange.{anything_in_range, bind_in_range, found_in_range, ranged_in_range, whole_in_range}
use Rattle.sd_law_settings.proofs.EntriesInRange.{is_prefix-prefix, is_host-host, prefix_in_range, filled_prefix_in_range, host_in_range, thresholds_in_range, backends_in_range, class_names_in_range, histogram_in_range, repeater_in_range, nodes_in_range}
use Rattle.sd_model_settings.proofs.Short.{inside_graphite}

-- what is read as a kind is in its range
read_as_in_range : (kind : SettingKind) (d : Data) → IfOk (read_as kind d) (IsInRange kind)
read_as_in_range (Whole least most) d = whole_in_range least most d
read_as_in_range (Share least most all earlier) d =
    ranged_in_range (λ n. nat_le (earlier * n) all) (whole_read least most d) (IsWithin least most) (λ n. IsWithin least most n × (earlier * n ≤ all)) (whole_in_range least most d)
    (λ n within e. (within, grind (arith, nat_tests)))
read_as_in_range Flag d = anything_in_range (flag d)
read_as_in_range Prefix d = prefix_in_range d
read_as_in_range FilledPrefix d = filled_prefix_in_range d
read_as_in_range Host d = host_in_range d
read_as_in_range Thresholds d = thresholds_in_range d
read_as_in_range Backends d = backends_in_range d
read_as_in_range ClassNames d = class_names_in_range d
read_as_in_range Histograms d = histogram_in_range d
read_as_in_range Targets d = repeater_in_range d
read_as_in_range Nodes d = nodes_in_range d

-- each default of a table is in its range, where what was set before it is
abbrev pub AreDefaultsInRange : {A : Type 0} → SettingTable A → Type 0
AreDefaultsInRange (Values v) = Unit {0}
AreDefaultsInRange (Then s rest) = IsInRange s.kind s.default × ((x : Value s.kind) → IsInRange s.kind x → AreDefaultsInRange (rest x))

-- what holds of a table's values, whatever is set, where each value is in its range
abbrev pub AtEnd : {A : Type 0} → SettingTable A → (A → Type 0) → Type 0
AtEnd (Values v) P = P v
AtEnd (Then s rest) P = (x : Value s.kind) → IsInRange s.kind x → AtEnd (rest x) P

pub at_end : {A : Type 0} (t : SettingTable A) (P : A → Type 0) (section : Section) → AreDefaultsInRange t → AtEnd t P → IfOk (read t section) P
unfolding read
at_end (Values v) P section defaults h = h
at_end (Then s rest) P section defaults h =
    bind_in_range (found section s.name (read_as s.kind) s.default) (λ x. read (rest x) section) (IsInRange s.kind) P
    (found_in_range section s.name (read_as s.kind) s.default (IsInRange s.kind) defaults.0 (read_as_in_range s.kind))
    (λ x p. at_end (rest x) P section (defaults.1 x p) (h x p))

one_threshold : AreThresholds (pos 90000000 ∷ [])
one_threshold = record { few = omega arith; range = λ k d l. grind arith; distinct = refl }

one_backend : AreBackends (codes "graphite" ∷ [])
one_backend = record { few = omega arith; known = λ k d l. grind arith; distinct = refl }

-- a default, and those behind it
both : {P Q : Type 0} → P → Q → P × Q
both p q = (p, q)

server_defaults : AreDefaultsInRange server
server_defaults =
    both (omega arith, omega arith) (λ _ _. both (omega arith, omega arith) (λ _ _. both (omega arith, omega arith) (λ _ _. both one_threshold (λ _ _. tt))))

addresses_defaults : AreDefaultsInRange addresses
addresses_defaults =
    both (is_prefix-prefix (codes "statsd") refl, omega arith) (λ _ _. both (is_host-host (codes "0.0.0.0") refl) (λ _ _.
    both (is_host-host (codes "0.0.0.0") refl) (λ _ _. both one_backend (λ _ _.
    both (is_host-host (codes "127.0.0.1") refl) (λ _ _. both (omega arith, omega arith) (λ _ _. tt))))))

namespace_defaults : AreDefaultsInRange namespace
namespace_defaults =
    both tt (λ _ _. both (is_prefix-prefix (codes "stats") refl) (λ _ _. both (is_prefix-prefix (codes "counters") refl) (λ _ _.
    both (is_prefix-prefix (codes "timers") refl) (λ _ _. both (is_prefix-prefix (codes "gauges") refl) (λ _ _.
    both (is_prefix-prefix (codes "sets") refl) (λ _ _. both (is_prefix-prefix [] refl) (λ _ _. tt)))))))

entry_lists_defaults : AreDefaultsInRange entry_lists
entry_lists_defaults =
    both (record { few = omega arith; range = λ k d l. absurd (omega arith) }) (λ _ _.
    both (record { few = omega arith; range = λ k d l. absurd (omega arith) }) (λ _ _.
    both (record { few = omega arith; range = λ k d l. absurd (omega arith) }) (λ _ _. tt)))

sizes_defaults : AreDefaultsInRange sizes
sizes_defaults =
    both (omega arith, omega arith) (λ _ _. both (omega arith, omega arith) (λ _ _. both (omega arith, omega arith) (λ shards few.
    both (omega arith, omega arith) (λ _ _. both ((omega arith, omega arith), omega arith) (λ _ _.
    both (omega arith, omega arith) (λ _ _. both (omega arith, omega arith) (λ _ _. tt)))))))

flush_rules_defaults : AreDefaultsInRange flush_rules
flush_rules_defaults =
    both (omega arith, omega arith) (λ _ _. both (record { few = omega arith; known = λ k d l. absurd (omega arith); distinct = refl }) (λ _ _. tt))

transport_defaults : AreDefaultsInRange transport
transport_defaults =
    both (omega arith, omega arith) (λ outlets few. both ((omega arith, omega arith), omega arith) (λ _ _.
    both (omega arith, omega arith) (λ _ _. both tt (λ _ _. both (omega arith, omega arith) (λ _ _. both tt (λ _ _.
    both (omega arith, omega arith) (λ _ _. both (omega arith, omega arith) (λ _ _. tt))))))))

pub server_in_range : (s : Section) → IfOk (read server s) (AreInRange server)
server_in_range s = at_end server (AreInRange server) s server_defaults (λ _ p _ m _ f _ t. (p, (m, (f, (t, tt)))))

pub addresses_in_range : (s : Section) → IfOk (read addresses s) (AreInRange addresses)
addresses_in_range s = at_end addresses (AreInRange addresses) s addresses_defaults (λ _ p _ a _ m _ b _ g _ o. (p, (a, (m, (b, (g, (o, tt)))))))

pub namespace_in_range : (s : Section) → IfOk (read namespace s) (AreInRange namespace)
namespace_in_range s = at_end namespace (AreInRange namespace) s namespace_defaults (λ _ l _ g _ c _ t _ u _ e _ x. (l, (g, (c, (t, (u, (e, (x, tt))))))))

pub entry_lists_in_range : (s : Section) → IfOk (read entry_lists s) (AreInRange entry_lists)
entry_lists_in_range s = at_end entry_lists (AreInRange entry_lists) s entry_lists_defaults (λ _ h _ r _ n. (h, (r, (n, tt))))

pub sizes_in_range : (s : Section) → IfOk (read sizes s) (AreInRange sizes)
sizes_in_range s = at_end sizes (AreInRange sizes) s sizes_defaults (λ _ i _ c _ h _ r _ e _ v _ f. (i, (c, (h, (r, (e, (v, (f, tt))))))))

pub flush_rules_in_range : (s : Section) → IfOk (read flush_rules s) (AreInRange flush_rules)
flush_rules_in_range s = at_end flush_rules (AreInRange flush_rules) s flush_rules_defaults (λ _ g _ n. (g, (n, tt)))

pub transport_in_range : (s : Section) → IfOk (read transport s) (AreInRange transport)
transport_in_range s = at_end transport (AreInRange transport) s transport_defaults (λ _ o _ b _ t _ a _ p _ f _ n _ r. (o, (b, (t, (a, (p, (f, (n, (r, tt)))))))))

-- a value of which nothing is asked, before the rest
pub value_then : {A B : Type 0} (r : Result A SettingsFlaw) (f : A → Result B SettingsFlaw) (Q : B → Type 0) → ((x : A) → IfOk (f x) Q) → IfOk (r >>= f) Q
value_then r f Q h = bind_in_range r f (λ x. ⊤) Q (anything_in_range r) (λ x p. h x)

pub settings_in_in_range : (s : Section) → IfOk (settings_in setting_tables s) InRange
unfolding settings_in
settings_in_in_range s =
    bind_in_range (read server s) _ (AreInRange server) InRange (server_in_range s) (λ server r.
    value_then (read deletion_rules s) _ InRange (λ deletion_rules.
    bind_in_range (read addresses s) _ (AreInRange addresses) InRange (addresses_in_range s) (λ addresses a.
    value_then (found s (codes "graphite") members no_members) _ InRange (λ graphite.
    bind_in_range (read namespace (inside_graphite graphite)) _ (AreInRange namespace) InRange (namespace_in_range (inside_graphite graphite)) (λ namespace n.
    bind_in_range (read entry_lists s) _ (AreInRange entry_lists) InRange (entry_lists_in_range s) (λ lists l.
    bind_in_range (read sizes s) _ (AreInRange sizes) InRange (sizes_in_range s) (λ sizes z.
    bind_in_range (read flush_rules s) _ (AreInRange flush_rules) InRange (flush_rules_in_range s) (λ rules u.
    bind_in_range (read transport s) _ (AreInRange transport) InRange (transport_in_range s) (λ transport t.
    record { server = r; addresses = a; namespace = n; lists = l; sizes = z; rules = u; transport = t })))))))))

known_in_range : (name : Option (List ℕ)) (r : Result Settings SettingsFlaw) → IfOk r InRange → IfOk (unless_unknown name r) InRange
known_in_range None r h = h
known_in_range (Some name) r h = tt

pub settings_in_range : (bytes : List ℕ) → IfOk (settings bytes) InRange
unfolding settings settings_by
settings_in_range bytes = elim (cases_Bool (nat_lt 65536 (length bytes))) [
  | inl e ↦ rw e tt
  | inr e ↦ rw e (value_then (document bytes) _ InRange (λ doc. known_in_range (unknown setting_tables doc) (settings_in setting_tables (top doc)) (settings_in_in_range (top doc))))
]

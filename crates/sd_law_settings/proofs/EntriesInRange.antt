-- Texts, thresholds, backends and entries that were read are in range.
use Rattle.std.proofs.Common.{◌≡◌, ℕ, ◌+◌, ◌<◌, ◌≤◌, true, ◌&&◌, nat_lt, nat_le, ℤ, List, [], ◌∷◌, length, map, codes, IfOk, All, refl, ap, inl, inr, arith}
use Rattle.std.specs.Prelude.{⊤}
use Rattle.std.proofs.lemmas.Bool.{and_parts, or_cases, cases_Bool, false≢true}
use Rattle.std.proofs.lemmas.Bool.Decides.{nat_tests}
use Rattle.std.proofs.lemmas.List.Sums.{AllPass-from_list_all}
use Rattle.std.proofs.lemmas.Slice.Eq.{bytes_eq-Decides}
use Rattle.std.specs.List.{list_any, list_all, AllPass}
use Rattle.std.specs.Str.{bytes_eq}
use Rattle.toml.specs.Data.{Data, array, Items, Members, get_member}
use Rattle.sd_model_outside.specs.Backend as Backend
use Rattle.sd_model_text.specs.Names.{is_name_byte}
use Rattle.sd_model_settings.specs.Values.{text, whole_read, is_name_text, is_filled_prefix, is_host, decimal, each, are_at_most, listed, one_or_list, are_distinct, ranged, both, required}
use Rattle.sd_model_text.specs.Numbers.{Limit}
use Rattle.sd_model_settings.specs.Entries.{thresholds, is_backend, is_limit, has_early_inf, bins_read, classes, host_and_port, node, class_name, timer_classes, is_class_name}
use Rattle.sd_law_settings.specs.Ranges.{IsWithin, IsPrefix, IsHost, IsThreshold, AreThresholds, AreBackends, AreClassNames, AreLimits, IsClasses, AreHistograms, IsTarget, AreTargets, IsNode, AreNodes}
use Rattle.sd_law_settings.proofs.ValuesInRange.{anything_in_range, ranged_in_range, mapped_in_range, both_in_range, whole_in_range, text_in_range, each_in_range, few, listed_in_range, entry_in_range, required_in_range, optional_in_range}
use Rattle.sd_model_settings.proofs.Short.{backends, class_names, is_threshold, limit, target, is_host_byte, are_limits, bins_of, are_thresholds}

pub is_prefix-prefix : (s : List ℕ) → is_name_text 64 s ≡ true → IsPrefix s
is_prefix-prefix s e =
    let parts = and_parts (nat_le (length s) 64) (list_all is_name_byte s) e in
    record { short = grind (arith, nat_tests); bytes = AllPass-from_list_all is_name_byte s parts.1 }

pub is_host-host : (s : List ℕ) → is_host s ≡ true → IsHost s
is_host-host s e =
    let parts = and_parts (nat_lt 0 (length s) && nat_le (length s) 64) (list_all is_host_byte s) e in
    record { some = grind (arith, nat_tests); short = grind (arith, nat_tests); bytes = AllPass-from_list_all is_host_byte s parts.1 }

pub prefix_in_range : (d : Data) → IfOk (text (is_name_text 64) d) IsPrefix
prefix_in_range d = text_in_range (is_name_text 64) IsPrefix is_prefix-prefix d

pub filled_prefix_in_range : (d : Data) → IfOk (text is_filled_prefix d) (λ s. IsPrefix s × (0 < length s))
filled_prefix_in_range d =
    text_in_range is_filled_prefix (λ s. IsPrefix s × (0 < length s)) (λ s e. let parts = and_parts (nat_lt 0 (length s)) (is_name_text 64 s) e in (is_prefix-prefix s parts.1, grind (arith, nat_tests))) d

pub host_in_range : (d : Data) → IfOk (text is_host d) IsHost
host_in_range d = text_in_range is_host IsHost is_host-host d

threshold : (z : ℤ) → is_threshold z ≡ true → IsThreshold z
threshold z e = grind (arith, nat_tests)

thresholds_apart : (xs : List ℤ) → length xs ≤ 16 → are_thresholds xs ≡ true → AreThresholds xs
thresholds_apart xs short e =
    let parts = and_parts _ _ e in
    record {
      few = short;
      range = λ k d l. threshold _ (AllPass-from_list_all is_threshold xs parts.0 k d l);
      distinct = parts.1;
    }

pub thresholds_in_range : (d : Data) → IfOk (thresholds d) AreThresholds
thresholds_in_range d =
    ranged_in_range are_thresholds _ (λ xs. length xs ≤ 16) AreThresholds
    (ranged_in_range (are_at_most 16) _ (λ xs. All (λ z. ⊤) xs) (λ xs. length xs ≤ 16) (each_in_range decimal (λ z. ⊤) (λ e. anything_in_range (decimal e)) (one_or_list d)) (λ xs p e. few 16 xs e))
    thresholds_apart

pub backends_in_range : (d : Data) → IfOk (backends d) AreBackends
backends_in_range d =
    ranged_in_range (are_distinct bytes_eq) _ (λ xs. (length xs ≤ length Backend.backends + 1) × All (λ s. is_backend s ≡ true) xs) AreBackends
    (listed_in_range (length Backend.backends + 1) (text is_backend) (λ s. is_backend s ≡ true) _ (text_in_range is_backend (λ s. is_backend s ≡ true) (λ s e. e)) (λ xs all short. (short, all)) d)
    (λ xs p e. record { few = p.0; known = p.1; distinct = e })

pub class_names_in_range : (d : Data) → IfOk (class_names d) AreClassNames
class_names_in_range d =
    ranged_in_range (are_distinct bytes_eq) _ (λ xs. (length xs ≤ 16) × All (λ s. is_class_name s ≡ true) xs) AreClassNames
    (listed_in_range 16 (text is_class_name) (λ s. is_class_name s ≡ true) _ (text_in_range is_class_name (λ s. is_class_name s ≡ true) (λ s e. e)) (λ xs all short. (short, all)) d)
    (λ xs p e. record { few = p.0; known = p.1; distinct = e })

limits_apart : (ls : List Limit) → length ls ≤ 64 → are_limits ls ≡ true → AreLimits ls
limits_apart ls short e =
    let parts = and_parts _ _ e in
    record { few = short; range = AllPass-from_list_all is_limit ls parts.0; ascending = parts.1 }

late_inf_in_range : (ds : Items) → IfOk (ranged are_limits (ranged (are_at_most 64) (each limit ds))) AreLimits
late_inf_in_range ds =
    ranged_in_range are_limits _ (λ ls. length ls ≤ 64) AreLimits
    (ranged_in_range (are_at_most 64) _ (λ ls. All (λ l. ⊤) ls) (λ ls. length ls ≤ 64) (each_in_range limit (λ l. ⊤) (λ e. anything_in_range (limit e)) ds) (λ ls p e. few 64 ls e))
    limits_apart

bins_of_in_range : (ds : Items) → IfOk (bins_of ds) AreLimits
bins_of_in_range ds = elim (cases_Bool (has_early_inf ds)) [
  | inl e ↦ rw e tt
  | inr e ↦ rw e (late_inf_in_range ds)
]

bins_in_range : (d : Data) → IfOk (bins_read d) AreLimits
bins_in_range (array ds) = bins_of_in_range ds
bins_in_range _ = tt

metric_in_range : (d : Data) → IfOk (text (is_name_text 255) d) (λ s. (length s ≤ 255) × AllPass is_name_byte s)
metric_in_range d =
    text_in_range (is_name_text 255) (λ s. (length s ≤ 255) × AllPass is_name_byte s)
    (λ s e. let parts = and_parts (nat_le (length s) 255) (list_all is_name_byte s) e in (grind (arith, nat_tests), AllPass-from_list_all is_name_byte s parts.1)) d

classes_in_range : (d : Data) → IfOk (classes d) IsClasses
classes_in_range = entry_in_range _ IsClasses (λ ms.
    mapped_in_range _ _ (λ p. ((length p.0 ≤ 255) × AllPass is_name_byte p.0) × AreLimits p.1) IsClasses
    (both_in_range _ _ (λ s. (length s ≤ 255) × AllPass is_name_byte s) AreLimits
    (required_in_range (text (is_name_text 255)) (λ s. (length s ≤ 255) × AllPass is_name_byte s) metric_in_range (get_member (codes "metric") ms))
    (required_in_range bins_read AreLimits bins_in_range (get_member (codes "bins") ms)))
    (λ p q. record { short = q.0.0; bytes = q.0.1; limits = q.1 }))

place_in_range : (ms : Members) → IfOk (host_and_port ms) (λ p. IsHost p.0 × IsWithin 1 65535 p.1)
place_in_range ms =
    both_in_range _ _ IsHost (IsWithin 1 65535) (required_in_range (text is_host) IsHost host_in_range (get_member (codes "host") ms))
    (required_in_range (whole_read 1 65535) (IsWithin 1 65535) (whole_in_range 1 65535) (get_member (codes "port") ms))

target_in_range : (d : Data) → IfOk (target d) IsTarget
target_in_range = entry_in_range _ IsTarget (λ ms. mapped_in_range _ (host_and_port ms) (λ p. IsHost p.0 × IsWithin 1 65535 p.1) IsTarget (place_in_range ms) (λ p q. record { host = q.0; port = q.1 }))

node_in_range : (d : Data) → IfOk (node d) IsNode
node_in_range = entry_in_range _ IsNode (λ ms.
    mapped_in_range _ _ (λ p. (IsHost p.0.0 × IsWithin 1 65535 p.0.1) × IsWithin 1 65535 p.1) IsNode
    (both_in_range _ _ (λ p. IsHost p.0 × IsWithin 1 65535 p.1) (IsWithin 1 65535) (place_in_range ms)
    (optional_in_range (whole_read 1 65535) 8126 (IsWithin 1 65535) (omega arith, omega arith) (whole_in_range 1 65535) (get_member (codes "adminport") ms)))
    (λ p q. record { host = q.0.0; port = q.0.1; adminport = q.1 }))

pub histogram_in_range : (d : Data) → IfOk (listed 16 classes d) AreHistograms
histogram_in_range = listed_in_range 16 classes IsClasses AreHistograms classes_in_range (λ xs all short. record { few = short; range = all })

pub repeater_in_range : (d : Data) → IfOk (listed 16 target d) AreTargets
repeater_in_range = listed_in_range 16 target IsTarget AreTargets target_in_range (λ xs all short. record { few = short; range = all })

pub nodes_in_range : (d : Data) → IfOk (listed 64 node d) AreNodes
nodes_in_range = listed_in_range 64 node IsNode AreNodes node_in_range (λ xs all short. record { few = short; range = all })

-- a text is no longer than the longest of those among which it is
length-among : (n : ℕ) (s : List ℕ) (names : List (List ℕ)) → list_all (λ name. nat_le (length name) n) names ≡ true → list_any (bytes_eq s) names ≡ true → length s ≤ n
length-among n s [] short among = absurd (false≢true among)
length-among n s (name ∷ names) short among =
    let parts = and_parts (nat_le (length name) n) (list_all (λ name. nat_le (length name) n) names) short in
    elim (or_cases (bytes_eq s name) (list_any (bytes_eq s) names) among) [
      | inl here ↦
          let same : s ≡ name = (bytes_eq-Decides s name).0 here in
          let most : length name ≤ n = grind (arith, nat_tests) in
          omega (arith, ap length same)
      | inr there ↦ length-among n s names parts.1 there
    ]

pub length-class_name : (s : List ℕ) → is_class_name s ≡ true → length s ≤ 19
length-class_name s e = length-among 19 s (map class_name timer_classes) refl e

-- A file that was accepted earlier sets the same values.
use Rattle.std.proofs.Common.{◌≡◌, ℕ, ◌*◌, ◌≤◌, Bool, true, false, cond, ◌||◌, ◌&&◌, not, nat_le, nat_lt, pos, negsuc, List, [], ◌∷◌, ◌++◌, length, codes, Option, Some, None, Result, Ok, Err, IfOk, refl, sym, ap, subst, ◌∙◌, inl, inr, arith, Ordering, nat_cmp, Less, Equal, Greater}
use Rattle.std.specs.List.{list_any, list_all}
use Rattle.std.specs.Str.{bytes_eq}
use Rattle.std.specs.Option.{option_or}
use Rattle.std.specs.Ordering.{is_eq, match_ordering}
use Rattle.std.specs.Cmp.Lexicographic.{slice_cmp}
use Rattle.std.specs.Prelude.{⊤}
use Rattle.std.proofs.lemmas.Bool.{cases_Bool, and_parts, false≢true}
use Rattle.std.proofs.lemmas.Bool.Decides.{nat_tests}
use Rattle.std.proofs.lemmas.List.Folds.{list_any-append}
use Rattle.std.proofs.lemmas.Map.Text.{is_eq-slice_cmp}
use Rattle.std.proofs.lemmas.Nat.{mul-le}
use Rattle.std.proofs.lemmas.Slice.Eq.{bytes_eq-Decides}
use Rattle.std.proofs.lemmas.Result.{IfOk-at_ok}
use Rattle.toml.specs.Data.{Data, integer, Members, no_members, member, get_member}
use Rattle.sd_model_settings.specs.Values.{members}
use Rattle.sd_model_settings.specs.Entries.{Whole, Share, Value, read_as}
use Rattle.sd_model_settings.specs.Table.{SettingTable, Values, Then, FlushRules, Transport, Sizes, setting_names, sizes_by, sizes, flush_rules, transport}
use Rattle.sd_model_settings.specs.Settings.{names, first_unknown, unknown_inside, unknown, top_names, SettingsFlaw, in_force, Section, found, read, Tables, setting_tables, top, Settings, settings_in, unless_unknown, document, settings_by, settings}
use Rattle.sd_model_text.specs.Lists.{◌>>=◌}
use Rattle.sd_law_run.specs.Earlier.{earlier_rules, earlier_transport, without, names_since_ttl, names_since_outlets, names_since_sums, names_since_batches, tables_without, earlier_settings, settings_before_outlets, settings_before_sums, settings_before_batches}
use Rattle.sd_law_settings.specs.Ranges.{IsWithin}
use Rattle.sd_law_settings.proofs.ValuesInRange.{bind_in_range, found_in_range, whole_in_range}
use Rattle.sd_law_settings.proofs.SettingsInRange.{value_then}
use Rattle.sd_model_settings.proofs.Short.{inside_graphite}

-- the second gives what the first gives, where that gives a value
abbrev Gives : {A : Type 0} → Result A SettingsFlaw → Result A SettingsFlaw → Type 0
Gives r q = IfOk r (λ v. q ≡ Ok v)

same : {A : Type 0} (r : Result A SettingsFlaw) → Gives r r
same (Ok x) = refl
same (Err flaw) = tt

-- a step after the same value
same_then : {A B : Type 0} (r : Result A SettingsFlaw) (f g : A → Result B SettingsFlaw) → ((x : A) → r ≡ Ok x → Gives (f x) (g x)) → Gives (r >>= f) (r >>= g)
same_then (Ok x) f g h = h x refl
same_then (Err flaw) f g h = tt

-- a step after a value that is given too
given_then : {A B : Type 0} (r q : Result A SettingsFlaw) (f g : A → Result B SettingsFlaw) → Gives r q → ((x : A) → Gives (f x) (g x)) → Gives (r >>= f) (q >>= g)
given_then (Ok x) q f g e h = subst (λ p. IfOk (f x) (λ v. (p >>= g) ≡ Ok v)) (sym e) (h x)
given_then (Err flaw) q f g e h = tt

-- the same steps after a value
same_bind : {A B : Type 0} (r : Result A SettingsFlaw) (f g : A → Result B SettingsFlaw) → ((x : A) → f x ≡ g x) → (r >>= f) ≡ (r >>= g)
same_bind (Ok x) f g h = h x
same_bind (Err flaw) f g h = refl

-- so many shards have at most so many entries
product_fits : (shards n most all : ℕ) → shards ≤ 16 → n ≤ most → 16 * most ≤ all → nat_le (shards * n) all ≡ true
product_fits shards n most all few short room =
    let product : shards * n ≤ 16 * most = mul-le shards n 16 most few short in
    grind (arith, nat_tests)

module _ {B : Type 0} (s : Section) (shards : ℕ) (few : shards ≤ 16) (f g : ℕ → Result B SettingsFlaw) (h : (n : ℕ) → Gives (f n) (g n)) where
  by_number : (n : ℕ) → Gives (in_force (s.prefix ++ codes "entries") (read_as (Share 1 65536 1048576 shards)) 65536 (Some (integer (pos n))) >>= f) (in_force (s.prefix ++ codes "entries") (read_as (Share 1 1048576 2097152 shards)) 65536 (Some (integer (pos n))) >>= g)
  by_number n = elim (cases_Bool (nat_le 1 n && nat_le n 65536)) [
    | inl e ↦
        let short : n ≤ 65536 = grind (arith, nat_tests) in
        let wide : (nat_le 1 n && nat_le n 1048576) ≡ true = grind (arith, nat_tests) in
        rw (e, wide, product_fits shards n 65536 1048576 few short (omega arith), product_fits shards n 65536 2097152 few short (omega arith)) (h n)
    | inr e ↦ rw e tt
  ]

  by_given : (given : Option Data) → Gives (in_force (s.prefix ++ codes "entries") (read_as (Share 1 65536 1048576 shards)) 65536 given >>= f) (in_force (s.prefix ++ codes "entries") (read_as (Share 1 1048576 2097152 shards)) 65536 given >>= g)
  by_given None = h 65536
  by_given (Some (integer (pos n))) = by_number n
  by_given (Some (integer (negsuc n))) = tt
  by_given (Some _) = tt

  entries_then : Gives (found s (codes "entries") (read_as (Share 1 65536 1048576 shards)) 65536 >>= f) (found s (codes "entries") (read_as (Share 1 1048576 2097152 shards)) 65536 >>= g)
  entries_then = by_given (get_member (codes "entries") s.members)

few_shards : (s : Section) (n : ℕ) → found s (codes "shards") (read_as (Whole 1 16)) 4 ≡ Ok n → n ≤ 16
few_shards s n e =
    (IfOk-at_ok (IsWithin 1 16) e (found_in_range s (codes "shards") (read_as (Whole 1 16)) 4 (IsWithin 1 16) (omega arith, omega arith) (whole_in_range 1 16))).1

sizes_kept : (s : Section) → Gives (read (sizes_by 65536 1048576) s) (read sizes s)
unfolding read
sizes_kept s =
    same_then (found s (codes "checkInterval") (read_as (Whole 1 86400000)) 10000) _ _ (λ check_interval _.
    same_then (found s (codes "cacheSize") (read_as (Whole 1 1000000)) 10000) _ _ (λ cache_size _.
    same_then (found s (codes "shards") (read_as (Whole 1 16)) 4) _ _ (λ shards few.
    same_then (found s (codes "rows") (read_as (Whole 1 16384)) 4096) _ _ (λ rows _.
    entries_then s shards (few_shards s shards few) _ _ (λ entries.
    same_then (found s (codes "receivers") (read_as (Whole 1 16)) 2) _ _ (λ receivers _.
    same (found s (codes "runFlushes") (read_as (Whole 0 1000000000)) 0 >>= (λ run_flushes. Ok (record { check_interval = check_interval; cache_size = cache_size; shards = shards; rows = rows; entries = entries; receivers = receivers; run_flushes = run_flushes })))))))))

-- a name is among some
abbrev IsAmong : List ℕ → List (List ℕ) → Type 0
IsAmong name names = list_any (λ k. bytes_eq k name) names ≡ true

module _ (unset : List (List ℕ)) where
  -- none of the names that aren't set stands in a table
  abbrev AreAbsent : Members → Type 0
  AreAbsent ms = (name : List ℕ) → IsAmong name unset → get_member name ms ≡ None

  without_kept : {A : Type 0} (t : SettingTable A) (s : Section) → AreAbsent s.members → read (without unset t) s ≡ read t s
  unfolding read
  without_kept (Values v) s absent = refl
  without_kept {A} (Then x rest) s absent = by_test (list_any (λ k. bytes_eq k x.name) unset) refl (λ y. without_kept (rest y) s absent) where
    by_test : (b : Bool) → list_any (λ k. bytes_eq k x.name) unset ≡ b → ((y : _) → read (without unset (rest y)) s ≡ read (rest y) s)
        → read (cond b (without unset (rest x.default)) (Then x (λ y. without unset (rest y)))) s ≡ read (Then x rest) s
    by_test true among others =
        others x.default ∙ sym (ap (λ d. in_force (s.prefix ++ x.name) (read_as x.kind) x.default d >>= (λ y. read (rest y) s)) (absent x.name among))
    by_test false apart others = same_bind (found s x.name (read_as x.kind) x.default) (λ y. read (without unset (rest y)) s) (λ y. read (rest y) s) others

  -- what is among the names that are left is among all
  among_all : {A : Type 0} (t : SettingTable A) (name : List ℕ) → IsAmong name (setting_names (without unset t)) → IsAmong name (setting_names t)
  among_all (Values v) name among = among
  among_all (Then x rest) name among = by_test (list_any (λ k. bytes_eq k x.name) unset) among (among_all (rest x.default) name) where
    by_test : (b : Bool) → IsAmong name (setting_names (cond b (without unset (rest x.default)) (Then x (λ y. without unset (rest y)))))
        → (IsAmong name (setting_names (without unset (rest x.default))) → IsAmong name (setting_names (rest x.default)))
        → (bytes_eq x.name name || list_any (λ k. bytes_eq k name) (setting_names (rest x.default))) ≡ true
    by_test true among others = or_more (bytes_eq x.name name) _ (others among) where
      or_more : (a b : Bool) → b ≡ true → (a || b) ≡ true
      or_more true b h = refl
      or_more false b h = h
    by_test false among others = by_name (bytes_eq x.name name) among where
      by_name : (a : Bool) → (a || list_any (λ k. bytes_eq k name) (setting_names (without unset (rest x.default)))) ≡ true
          → (a || list_any (λ k. bytes_eq k name) (setting_names (rest x.default))) ≡ true
      by_name true h = refl
      by_name false h = others h

-- what is among some is among them and more, before or behind
among_more : (name : List ℕ) (xs ys xs' ys' : List (List ℕ)) → (IsAmong name xs → IsAmong name xs') → (IsAmong name ys → IsAmong name ys') → IsAmong name (xs ++ ys) → IsAmong name (xs' ++ ys')
among_more name xs ys xs' ys' first back among =
    list_any-append (λ k. bytes_eq k name) xs' ys'
    ∙ either (list_any (λ k. bytes_eq k name) xs) (list_any (λ k. bytes_eq k name) ys) (list_any (λ k. bytes_eq k name) xs') _ first back (sym (list_any-append (λ k. bytes_eq k name) xs ys) ∙ among)
  where
    either : (a b c d : Bool) → (a ≡ true → c ≡ true) → (b ≡ true → d ≡ true) → (a || b) ≡ true → (c || d) ≡ true
    either true b c d f g h = ap (λ v. v || d) (f refl)
    either false b true d f g h = refl
    either false b false d f g h = g h

-- the names that a table of settings without some knows are known today
known_more : (unset : List (List ℕ)) (name : List ℕ) → IsAmong name (top_names (tables_without unset)) → IsAmong name (top_names setting_tables)
known_more unset name =
    let first = (codes "graphite" ∷ []) ++ setting_names setting_tables.server ++ setting_names setting_tables.deletions ++ setting_names setting_tables.addresses ++ setting_names setting_tables.lists ++ setting_names setting_tables.sizes in
    among_more name (first ++ setting_names (without unset flush_rules)) (setting_names (without unset transport)) (first ++ setting_names flush_rules) (setting_names transport)
    (among_more name first (setting_names (without unset flush_rules)) first (setting_names flush_rules) (λ h. h) (among_all unset flush_rules name)) (among_all unset transport name)

none_of_both : {A : Type 0} (a b : Option A) → option_or a b ≡ None → (a ≡ None) × (b ≡ None)
none_of_both None b h = (refl, h)
none_of_both (Some x) b h = absurd (cc)

-- where the names that are known are known among more
all_known : (fewer more ns : List (List ℕ)) → ((name : List ℕ) → IsAmong name fewer → IsAmong name more) → first_unknown [] fewer ns ≡ None → first_unknown [] more ns ≡ None
all_known fewer more [] known h = refl
all_known fewer more (n ∷ ns) known h = by_test (list_any (λ k. bytes_eq k n) fewer) refl h (all_known fewer more ns known) where
  by_test : (b : Bool) → list_any (λ k. bytes_eq k n) fewer ≡ b → cond b (first_unknown [] fewer ns) (Some n) ≡ None
      → (first_unknown [] fewer ns ≡ None → first_unknown [] more ns ≡ None) → first_unknown [] more (n ∷ ns) ≡ None
  by_test true among rest others = ap (λ b. cond b (first_unknown [] more ns) (Some n)) (known n among) ∙ others rest
  by_test false among rest others = absurd (cc)

-- no name of some is among others
abbrev AreApart : List (List ℕ) → List (List ℕ) → Type 0
AreApart unset known = list_all (λ k. not (list_any (λ n. bytes_eq n k) unset)) known ≡ true

-- a name that isn't set isn't known
apart : (unset known : List (List ℕ)) (name : List ℕ) → AreApart unset known → IsAmong name unset → list_any (λ k. bytes_eq k name) known ≡ false
apart unset [] name are among = refl
apart unset (k ∷ known) name are among = by_name (bytes_eq k name) refl (apart unset known name (and_parts (not (list_any (λ n. bytes_eq n k) unset)) _ are).1 among) where
  by_name : (b : Bool) → bytes_eq k name ≡ b → list_any (λ k. bytes_eq k name) known ≡ false → (b || list_any (λ k. bytes_eq k name) known) ≡ false
  by_name false other rest = rest
  by_name true is rest =
      let same : k ≡ name = (bytes_eq-Decides k name).0 is in
      let out : not (list_any (λ n. bytes_eq n k) unset) ≡ true = (and_parts (not (list_any (λ n. bytes_eq n k) unset)) _ are).0 in
      absurd (false≢true (ap not (sym (ap (λ n. list_any (λ m. bytes_eq m n) unset) same ∙ among)) ∙ out))

-- a name that isn't known stands in no table without unknown names
module _ (fewer : List (List ℕ)) (name : List ℕ) (other : list_any (λ k. bytes_eq k name) fewer ≡ false) where
  absent_in : (ms : Members) → first_unknown [] fewer (names ms) ≡ None → get_member name ms ≡ None
  absent_in no_members h = refl
  absent_in (member l d ms) h = by_test (list_any (λ k. bytes_eq k l) fewer) refl h (absent_in ms) where
    by_order : (o : Ordering) → is_eq o ≡ bytes_eq name l → bytes_eq name l ≡ false → get_member name ms ≡ None → match_ordering o (get_member name ms) (Some d) (get_member name ms) ≡ None
    by_order Less e apart rest = rest
    by_order Equal e apart rest = absurd (cc)
    by_order Greater e apart rest = rest

    unlike : (b : Bool) → bytes_eq name l ≡ b → list_any (λ k. bytes_eq k l) fewer ≡ true → bytes_eq name l ≡ false
    unlike false e known = e
    unlike true e known =
        let same : name ≡ l = (bytes_eq-Decides name l).0 e in
        absurd (false≢true (sym other ∙ ap (λ n. list_any (λ k. bytes_eq k n) fewer) same ∙ known))

    by_test : (b : Bool) → list_any (λ k. bytes_eq k l) fewer ≡ b → cond b (first_unknown [] fewer (names ms)) (Some l) ≡ None
        → (first_unknown [] fewer (names ms) ≡ None → get_member name ms ≡ None) → get_member name (member l d ms) ≡ None
    by_test true known rest others =
        by_order (slice_cmp nat_cmp name l) (is_eq-slice_cmp name l) (unlike (bytes_eq name l) refl known) (others rest)
    by_test false known rest others = absurd (cc)

-- the files that were accepted by an earlier table set what their values were
module _ (t : Tables) (known : (name : List ℕ) → IsAmong name (top_names t) → IsAmong name (top_names setting_tables))
    (same_values : (doc : Members) → first_unknown [] (top_names t) (names doc) ≡ None → Gives (settings_in t (top doc)) (settings_in setting_tables (top doc))) where
  file_kept : (doc : Members) (name : Option (List ℕ)) → unknown t doc ≡ name → Gives (unless_unknown name (settings_in t (top doc))) (unless_unknown (unknown setting_tables doc) (settings_in setting_tables (top doc)))
  unfolding unknown
  file_kept doc (Some name) is = tt
  file_kept doc None is =
      let parts = none_of_both (first_unknown [] (top_names t) (names doc)) (unknown_inside doc) is in
      let none : unknown setting_tables doc ≡ None =
      ap (λ o. option_or o (unknown_inside doc)) (all_known (top_names t) (top_names setting_tables) (names doc) known parts.0) ∙ parts.1 in
      rw none (same_values doc parts.0)

  all_kept : (bytes : List ℕ) → Gives (settings_by t bytes) (settings bytes)
  unfolding settings_by settings
  all_kept bytes = elim (cases_Bool (nat_lt 65536 (length bytes))) [
    | inl e ↦ rw e tt
    | inr e ↦ rw e (same_then (document bytes) _ _ (λ doc _. file_kept doc (unknown t doc) refl))
  ]

-- the values, where sizes, rules and transport are kept
values_kept : (t : SettingTable Sizes) (unset : List (List ℕ)) (s : Section) → Gives (read t s) (read sizes s) → AreAbsent unset s.members
    → Gives (settings_in (record (tables_without unset) { sizes = t }) s) (settings_in setting_tables s)
unfolding settings_in
values_kept t unset s sizes-same absent =
    same_then (read setting_tables.server s) _ _ (λ of-server _.
    same_then (read setting_tables.deletions s) _ _ (λ of-deletions _.
    same_then (read setting_tables.addresses s) _ _ (λ of-addresses _.
    same_then (found s (codes "graphite") members no_members) _ _ (λ graphite _.
    same_then (read setting_tables.namespace (inside_graphite graphite)) _ _ (λ of-namespace _.
    same_then (read setting_tables.lists s) _ _ (λ of-lists _.
    given_then (read t s) (read sizes s) _ _ sizes-same (λ of-sizes.
    given_then (read (without unset flush_rules) s) (read flush_rules s) _ _ (as_given (without_kept unset flush_rules s absent)) (λ of-rules.
    given_then (read (without unset transport) s) (read transport s) _ _ (as_given (without_kept unset transport s absent)) (λ of-transport. refl)))))))))
  where
    as_given : {A : Type 0} {r q : Result A SettingsFlaw} → r ≡ q → Gives r q
    as_given {A} {r} {q} e = subst (λ p. Gives r p) e (same r)

module _ (t : SettingTable Sizes) (names_as_today : setting_names t ≡ setting_names sizes) (sizes_same : (s : Section) → Gives (read t s) (read sizes s))
    (unset : List (List ℕ)) (are_apart : AreApart unset (top_names (tables_without unset))) where
  same_names : top_names (record (tables_without unset) { sizes = t }) ≡ top_names (tables_without unset)
  same_names =
      ap (λ n. (codes "graphite" ∷ []) ++ setting_names setting_tables.server ++ setting_names setting_tables.deletions ++ setting_names setting_tables.addresses ++ setting_names setting_tables.lists ++ n ++ setting_names (without unset flush_rules) ++ setting_names (without unset transport)) names_as_today

  kept_without : (bytes : List ℕ) → Gives (settings_by (record (tables_without unset) { sizes = t }) bytes) (settings bytes)
  kept_without =
      all_kept (record (tables_without unset) { sizes = t }) (λ name among. known_more unset name (subst (IsAmong name) same_names among)) (λ doc all.
      values_kept t unset (top doc) (sizes_same (top doc)) (λ name among.
      absent_in (top_names (tables_without unset)) name (apart unset (top_names (tables_without unset)) name are_apart among) doc (subst (λ known. first_unknown [] known (names doc) ≡ None) same_names all)))

pub settings_kept : (bytes : List ℕ) → IfOk (earlier_settings bytes) (λ v. settings bytes ≡ Ok v)
unfolding earlier_settings
settings_kept = kept_without (sizes_by 65536 1048576) refl sizes_kept names_since_ttl refl

pub settings_kept_before_outlets : (bytes : List ℕ) → IfOk (settings_before_outlets bytes) (λ v. settings bytes ≡ Ok v)
unfolding settings_before_outlets
settings_kept_before_outlets = kept_without sizes refl (λ s. same (read sizes s)) names_since_outlets refl

pub settings_kept_before_sums : (bytes : List ℕ) → IfOk (settings_before_sums bytes) (λ v. settings bytes ≡ Ok v)
unfolding settings_before_sums
settings_kept_before_sums = kept_without sizes refl (λ s. same (read sizes s)) names_since_sums refl

pub settings_kept_before_batches : (bytes : List ℕ) → IfOk (settings_before_batches bytes) (λ v. settings bytes ≡ Ok v)
unfolding settings_before_batches
settings_kept_before_batches = kept_without sizes refl (λ s. same (read sizes s)) names_since_batches refl

-- what holds of a table's values, whatever is set
abbrev Ends : {A : Type 0} → SettingTable A → (A → Type 0) → Type 0
Ends (Values v) P = P v
Ends (Then x rest) P = (y : Value x.kind) → Ends (rest y) P

in_the_end : {A : Type 0} (t : SettingTable A) (P : A → Type 0) (s : Section) → Ends t P → IfOk (read t s) P
unfolding read
in_the_end (Values v) P s h = h
in_the_end (Then x rest) P s h = value_then (found s x.name (read_as x.kind) x.default) (λ y. read (rest y) s) P (λ y. in_the_end (rest y) P s (h y))

-- what holds of the values of the last two groups holds of the values that a file set
module _ (t : Tables) (R : FlushRules → Type 0) (T : Transport → Type 0) (of_rules : Ends t.rules R) (of_transport : Ends t.transport T) where
  abbrev Holds : Settings → Type 0
  Holds v = R v.rules × T v.transport

  of_values : (s : Section) → IfOk (settings_in t s) Holds
  unfolding settings_in
  of_values s =
      value_then (read t.server s) _ Holds (λ of-server.
      value_then (read t.deletions s) _ Holds (λ of-deletions.
      value_then (read t.addresses s) _ Holds (λ of-addresses.
      value_then (found s (codes "graphite") members no_members) _ Holds (λ graphite.
      value_then (read t.namespace (inside_graphite graphite)) _ Holds (λ of-namespace.
      value_then (read t.lists s) _ Holds (λ of-lists.
      value_then (read t.sizes s) _ Holds (λ of-sizes.
      bind_in_range (read t.rules s) _ R Holds (in_the_end t.rules R s of_rules) (λ rules r.
      bind_in_range (read t.transport s) _ T Holds (in_the_end t.transport T s of_transport) (λ transport u. (r, u))))))))))

  unless_of : (name : Option (List ℕ)) (r : Result Settings SettingsFlaw) → IfOk r Holds → IfOk (unless_unknown name r) Holds
  unless_of None r h = h
  unless_of (Some name) r h = tt

  of_file : (bytes : List ℕ) → IfOk (settings_by t bytes) Holds
  unfolding settings_by
  of_file bytes = elim (cases_Bool (nat_lt 65536 (length bytes))) [
    | inl e ↦ rw e tt
    | inr e ↦ rw e (value_then (document bytes) _ Holds (λ doc. unless_of (unknown t doc) (settings_in t (top doc)) (of_values (top doc))))
  ]

part_of_ok : {A E : Type 0} (P Q : A → Type 0) (r : Result A E) → ((x : A) → P x → Q x) → IfOk r P → IfOk r Q
part_of_ok P Q (Ok x) h p = h x p
part_of_ok P Q (Err e) h p = tt

earlier_values : (bytes : List ℕ) → IfOk (earlier_settings bytes) (λ v. (v.rules ≡ earlier_rules) × (v.transport ≡ earlier_transport))
unfolding earlier_settings
earlier_values = of_file (record (tables_without names_since_ttl) { sizes = sizes_by 65536 1048576 }) (λ r. r ≡ earlier_rules) (λ t. t ≡ earlier_transport) refl refl

pub earlier_rules_in_force : (bytes : List ℕ) → IfOk (earlier_settings bytes) (λ v. v.rules ≡ earlier_rules)
earlier_rules_in_force bytes =
    part_of_ok (λ (v : Settings). (v.rules ≡ earlier_rules) × (v.transport ≡ earlier_transport)) (λ v. v.rules ≡ earlier_rules) (earlier_settings bytes) (λ v h. h.0) (earlier_values bytes)

pub earlier_transport_in_force : (bytes : List ℕ) → IfOk (earlier_settings bytes) (λ v. v.transport ≡ earlier_transport)
earlier_transport_in_force bytes =
    part_of_ok (λ (v : Settings). (v.rules ≡ earlier_rules) × (v.transport ≡ earlier_transport)) (λ v. v.transport ≡ earlier_transport) (earlier_settings bytes) (λ v h. h.1) (earlier_values bytes)

pub transport_before_outlets : (bytes : List ℕ) → IfOk (settings_before_outlets bytes) (λ v. v.transport ≡ earlier_transport)
unfolding settings_before_outlets
transport_before_outlets bytes =
    part_of_ok (λ (v : Settings). ⊤ × (v.transport ≡ earlier_transport)) (λ v. v.transport ≡ earlier_transport) (settings_before_outlets bytes) (λ v h. h.1)
    (of_file (tables_without names_since_outlets) (λ r. ⊤) (λ t. t ≡ earlier_transport) (λ _ _. tt) refl bytes)

neither_before_sums : (bytes : List ℕ) → IfOk (settings_before_sums bytes) (λ v. ⊤ × ((v.transport.sums_on_arrival ≡ false) × (v.transport.receive_buffer ≡ 0)))
unfolding settings_before_sums
neither_before_sums = of_file (tables_without names_since_sums) (λ r. ⊤) (λ t. (t.sums_on_arrival ≡ false) × (t.receive_buffer ≡ 0)) (λ _ _. tt) (λ _ _ _. (refl, refl))

pub no_sums_before_sums : (bytes : List ℕ) → IfOk (settings_before_sums bytes) (λ v. v.transport.sums_on_arrival ≡ false)
no_sums_before_sums bytes =
    part_of_ok (λ (v : Settings). ⊤ × ((v.transport.sums_on_arrival ≡ false) × (v.transport.receive_buffer ≡ 0))) (λ v. v.transport.sums_on_arrival ≡ false) (settings_before_sums bytes) (λ v h. h.1.0) (neither_before_sums bytes)

pub no_room_before_sums : (bytes : List ℕ) → IfOk (settings_before_sums bytes) (λ v. v.transport.receive_buffer ≡ 0)
no_room_before_sums bytes =
    part_of_ok (λ (v : Settings). ⊤ × ((v.transport.sums_on_arrival ≡ false) × (v.transport.receive_buffer ≡ 0))) (λ v. v.transport.receive_buffer ≡ 0) (settings_before_sums bytes) (λ v h. h.1.1) (neither_before_sums bytes)

-- a proxy answers no admin line, flushes aren't aligned, and a datagram has one line
abbrev pub HasNoBatches : Transport → Type 0
HasNoBatches t = (t.proxy_mgmt_port ≡ 0) × (t.align_flushes ≡ false) × (t.batch_bytes ≡ 0)

pub none_before_batches : (bytes : List ℕ) → IfOk (settings_before_batches bytes) (λ v. HasNoBatches v.transport)
unfolding settings_before_batches
none_before_batches bytes =
    part_of_ok (λ (v : Settings). ⊤ × HasNoBatches v.transport) (λ v. HasNoBatches v.transport) (settings_before_batches bytes) (λ v h. h.1)
    (of_file (tables_without names_since_batches) (λ r. ⊤) HasNoBatches (λ _ _. tt) (λ _ _ _ _ _. (refl, refl, refl)) bytes)

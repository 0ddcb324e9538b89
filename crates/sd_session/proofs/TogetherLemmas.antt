-- All shards of a pool, one after another.
use Rattle.std.proofs.Common.{◌≡◌, ℕ, zero, suc, ◌+◌, ◌<◌, ◌≤◌, ◌⊎◌, inl, inr, false, eqb, length, List, [], ◌∷◌, ◌++◌, get_or, refl, ap, subst, ◌∙◌, arith, append-nil, append_assoc, length-append, sym, IsPermutation, IsSorted, IsSortedByKey}
use Rattle.std.specs.Prelude.{flat_map, None}
use Rattle.std.specs.List.{range_with_len}
use Rattle.std.specs.FinMap.{get, get-empty}
use Rattle.std.specs.Ordering.{nat_cmp}
use Rattle.std.specs.Cmp.Lexicographic.{slice_cmp}
use Rattle.std.proofs.lemmas.Bool.{cases_lt, cases_eq}
use Rattle.std.proofs.lemmas.Grind.{flat_map-append}
use Rattle.std.proofs.lemmas.List.{get_or_past}
use Rattle.std.proofs.lemmas.List.Folds.{flat_map-map}
use Rattle.std.proofs.lemmas.List.FromFn.{fill_by_all}
use Rattle.std.proofs.lemmas.List.Sorted.{IsPermutation-append, IsPermutation-sym, IsPermutation-trans, IsPermutation-refl}
use Rattle.sd_model_text.specs.Names.{Kind}
use Rattle.sd_model_text.specs.Names as names
use Rattle.sd_model_shard.specs.Rows.{RowId, row_cmp, DumpRow, dump_of, in_key_order}
use Rattle.sd_model_shard.specs.Shard as shard
use Rattle.sd_model_shard.specs.Shard.{State, Event, Numbers, empty_state, deletion_of, numbers_of}
use Rattle.sd_model_shard.specs.History.{History}
use Rattle.sd_model_serve.specs.Receiving.{administrator, Broadcast}
use Rattle.sd_model_record.specs.Replies.{keys_in, numbers_looked, rows_in}
use Rattle.sd_model_record.proofs.OrderLemmas.{in_key_order_is, keys_in_order}
use Rattle.sd_law_shards.specs.Shards.{AtHome}
use Rattle.sd_law_shards.proofs.HomeLemmas.{all_keys_once, all_rows_once}
use Rattle.sd_session.specs.Executed.{Broadcasts}
use Rattle.sd_shard.specs.Shard.{Appends}
use Rattle.sd_pool.specs.Setup.{OnlyOf}
use Rattle.sd_model_record.proofs.Short.{numbers_reported, keys_reported, rows_reported}
use Rattle.sd_model_serve.proofs.Short.{all_replies}

-- the states in which shards were found, by their numbers
abbrev pub found_at : List State → ℕ → State
found_at found i = get_or found i empty_state

found-more : (found : List State) (state : State) (j : ℕ) → j < length found → found_at (found ++ state ∷ []) j ≡ found_at found j
found-more [] state j below = absurd (omega (arith, below))
found-more (s ∷ found) state zero below = refl
found-more (s ∷ found) state (suc j) below = found-more found state j (omega (arith, below))

found-last : (found : List State) (state : State) → found_at (found ++ state ∷ []) (length found) ≡ state
found-last [] state = refl
found-last (s ∷ found) state = found-last found state

-- So many shards were asked, in order: each was found in a state with rows of its own keys alone, and replied from it.
module _ (shards : ℕ) (event : Event) (reply : State → shard.Reply) where
  abbrev pub broadcast_of : List State → Broadcast
  broadcast_of found = record { event = event; replies = λ i. reply (found_at found i) }

  pub record Asked (i : ℕ) (found : List State) (own own_now : ℕ → History) : Type 0 where
    pub count : length found ≡ i
    pub home : AtHome shards (found_at found)
    pub done : (j : ℕ) → j < i → own_now j ≡ own j ++ record { who = administrator; event = event; reply = reply (found_at found j) } ∷ []
    pub left : (j : ℕ) → i ≤ j → own_now j ≡ own j

  pub Asked-none : (own : ℕ → History) → Asked 0 [] own own
  Asked-none own = record { count = refl; home = λ i id away. get-empty row_cmp id; done = λ j low. absurd (omega (arith, low)); left = λ j high. refl }

  pub Asked-next : (i : ℕ) (found : List State) (own own_mid own_now : ℕ → History) (state : State) → Asked i found own own_mid → OnlyOf i shards state.live
      → own_now i ≡ own_mid i ++ record { who = administrator; event = event; reply = reply state } ∷ [] → ((j : ℕ) → (j ≡ i → ⊥) → own_now j ≡ own_mid j) → Asked (i + 1) (found ++ state ∷ []) own own_now
  Asked-next i found own own_mid own_now state h home mine others = record {
    count = length-append found (state ∷ []) ∙ ap (λ n. n + 1) h.count;
    home = λ j id away. home_at j id away (cases_lt j i) (cases_eq j i);
    done = λ j low. done_at j low (cases_lt j i);
    left = λ j high. others j (λ same. omega (arith, same, high)) ∙ h.left j (omega (arith, high));
  } where
    last : found_at (found ++ state ∷ []) i ≡ state
    last = ap (found_at (found ++ state ∷ [])) (sym h.count) ∙ found-last found state

    here : own_now i ≡ own i ++ record { who = administrator; event = event; reply = reply (found_at (found ++ state ∷ []) i) } ∷ []
    here =
        mine ∙ ap (λ (acts : History). acts ++ record { who = administrator; event = event; reply = reply state } ∷ []) (h.left i (omega arith))
        ∙ ap (λ (s : State). own i ++ record { who = administrator; event = event; reply = reply s } ∷ []) (sym last)

    done_at : (j : ℕ) → j < i + 1 → (j < i) ⊎ (i ≤ j) → own_now j ≡ own j ++ record { who = administrator; event = event; reply = reply (found_at (found ++ state ∷ []) j) } ∷ []
    done_at j low (inl before) =
        others j (λ same. omega (arith, same, before)) ∙ h.done j before
        ∙ ap (λ (s : State). own j ++ record { who = administrator; event = event; reply = reply s } ∷ []) (sym (found-more found state j (omega (arith, before, h.count))))
    done_at j low (inr past) =
        let same : i ≡ j = omega (arith, past, low) in
        subst (λ k. own_now k ≡ own k ++ record { who = administrator; event = event; reply = reply (found_at (found ++ state ∷ []) k) } ∷ []) same here

    home_at : (j : ℕ) (id : RowId) → eqb j (names.shard id.key shards) ≡ false → (j < i) ⊎ (i ≤ j) → (j ≡ i) ⊎ (j ≡ i → ⊥) → get (found_at (found ++ state ∷ []) j).live id ≡ None
    home_at j id away (inl before) same = ap (λ (s : State). get s.live id) (found-more found state j (omega (arith, before, h.count))) ∙ h.home j id away
    home_at j id away (inr past) (inl same) =
        ap (λ (s : State). get s.live id) (ap (found_at (found ++ state ∷ [])) same ∙ last) ∙ home id (ap (λ k. eqb k (names.shard id.key shards)) (sym same) ∙ away)
    home_at j id away (inr past) (inr other) =
        ap (λ (s : State). get s.live id) (get_or_past (found ++ state ∷ []) j empty_state (omega (arith, past, other, h.count, length-append found (state ∷ [])))) ∙ get-empty row_cmp id

  pub asked_all : (own own_now : ℕ → History) (found : List State) → Asked shards found own own_now → Broadcasts shards (broadcast_of found ∷ []) own own_now
  asked_all own own_now found h i below = h.done i below

-- what was appended, and more behind it
pub Appends-none : {A : Type 0} → Appends {A = A} [] [] []
Appends-none = ([], refl, IsPermutation-refl [])

pub Appends-more : {A : Type 0} (tell : State → List A) (found : List State) (state : State) (old mid new : List A) → Appends (flat_map tell found) old mid → Appends (tell state) mid new → Appends (flat_map tell (found ++ state ∷ [])) old new
Appends-more tell found state old mid new first last =
    subst (λ (reported : List _). Appends reported old new) (sym (flat_map-append tell found (state ∷ []) ∙ ap (λ (reported : List _). flat_map tell found ++ reported) (append-nil (tell state))))
    (first.0 ++ last.0, last.1 ∙ ap (λ (xs : List _). xs ++ last.0) first.1 ∙ append_assoc old first.0 last.0, IsPermutation-append first.0 (flat_map tell found) last.0 (tell state) first.2 last.2)

moved : {A : Type 0} (reported new sorted : List A) → Appends reported [] new → IsPermutation new sorted → IsPermutation reported sorted
moved reported new sorted all sort =
    IsPermutation-trans reported new sorted (subst (IsPermutation reported) (sym all.1) (IsPermutation-sym all.0 reported all.2)) sort

by_number : {A : Type 0} (tell : State → List A) (found : List State) (shards : ℕ) → length found ≡ shards → flat_map tell found ≡ flat_map (λ i. tell (found_at found i)) (range_with_len 0 shards)
by_number tell found shards count =
    ap (flat_map tell) (fill_by_all (found_at found) found shards empty_state count (λ k h. refl)) ∙ flat_map-map tell (found_at found) (range_with_len 0 shards)

module _ (shards : ℕ) (kind : Kind) (found : List State) (home : AtHome shards (found_at found)) (count : length found ≡ shards) where
  pub keys_are : (name : List ℕ) (new sorted : List (List ℕ)) → Appends (flat_map (λ s. keys_in (deletion_of kind name s)) found) [] new → IsPermutation new sorted → IsSorted (slice_cmp nat_cmp) sorted
      → sorted ≡ keys_reported (all_replies shards (broadcast_of shards (shard.Delete kind name) (deletion_of kind name) found))
  keys_are name new sorted all sort up =
      let tell : State → List (List ℕ) = λ s. keys_in (deletion_of kind name s) in
      let reported = flat_map (λ i. tell (found_at found i)) (range_with_len 0 shards) in
      keys_in_order reported sorted (all_keys_once shards (found_at found) home kind name) (subst (λ (ts : List (List ℕ)). IsPermutation ts sorted) (by_number tell found shards count) (moved (flat_map tell found) new sorted all sort)) up
      ∙ ap (in_key_order (λ (key : List ℕ). key)) (sym (flat_map-map keys_in (λ i. deletion_of kind name (found_at found i)) (range_with_len 0 shards)))

  pub rows_are : (new sorted : List DumpRow) → Appends (flat_map (λ s. dump_of kind s.live) found) [] new → IsPermutation new sorted → IsSortedByKey (λ (row : DumpRow). row.key) (slice_cmp nat_cmp) sorted
      → sorted ≡ rows_reported (all_replies shards (broadcast_of shards (shard.Dump kind) (λ s. shard.Dumped (dump_of kind s.live)) found))
  rows_are new sorted all sort up =
      let tell : State → List DumpRow = λ s. dump_of kind s.live in
      let reported = flat_map (λ i. tell (found_at found i)) (range_with_len 0 shards) in
      in_key_order_is (λ (row : DumpRow). row.key) reported sorted (all_rows_once shards (found_at found) home kind) (subst (λ (ts : List DumpRow). IsPermutation ts sorted) (by_number tell found shards count) (moved (flat_map tell found) new sorted all sort)) up
      ∙ ap (in_key_order (λ (row : DumpRow). row.key)) (sym (flat_map-map rows_in (λ i. shard.Dumped (dump_of kind (found_at found i).live)) (range_with_len 0 shards)))

-- the numbers that a reply tells, and others where it tells none
abbrev pub looked : Numbers → shard.Reply → Numbers
looked others (shard.Looked numbers) = numbers
looked others reply = others

-- the numbers of shards as they were found are those that all of them told
pub numbers_are : (shards : ℕ) (found : List State) → length found ≡ shards
    → flat_map (λ s. numbers_of s ∷ []) found ≡ numbers_reported (all_replies shards (broadcast_of shards shard.Look (λ s. shard.Looked (numbers_of s)) found))
numbers_are shards found count =
    by_number (λ s. numbers_of s ∷ []) found shards count
    ∙ sym (flat_map-map numbers_looked (λ i. shard.Looked (numbers_of (found_at found i))) (range_with_len 0 shards))

-- What all shards tell of keys and rows.
use Rattle.std.proofs.Common.{◌≡◌, ℕ, List, [], ◌++◌, length, map, sym, ap, subst, ◌∙◌, IsPermutation, IsSorted, IsSortedByKey, append_assoc}
use Rattle.std.specs.Prelude.{flat_map}
use Rattle.std.specs.List.{range_with_len}
use Rattle.std.specs.Ordering.{nat_cmp}
use Rattle.std.specs.Cmp.Lexicographic.{slice_cmp}
use Rattle.std.proofs.lemmas.List.Folds.{flat_map-map}
use Rattle.std.proofs.lemmas.List.Sorted.{IsPermutation-append, IsPermutation-sym, IsPermutation-trans}
use Rattle.sd_model_text.specs.Names.{Kind}
use Rattle.sd_model_shard.specs.Shard.{State, Dumped, deletion_of}
use Rattle.sd_model_shard.specs.Rows.{DumpRow, dump_of, in_key_order}
use Rattle.sd_model_record.specs.Replies.{keys_in, rows_in}
use Rattle.sd_model_record.proofs.OrderLemmas.{in_key_order_is, keys_in_order}
use Rattle.sd_law_shards.specs.Shards.{AtHome}
use Rattle.sd_law_shards.proofs.HomeLemmas.{all_keys_once, all_rows_once}
use Rattle.sd_shard.specs.Shard.{Standing, state_of, Appends}
use Rattle.sd_shards.specs.Standings.{state_in}
use Rattle.sd_shards.proofs.EachLemmas.{flat_map-states}
use Rattle.sd_model_record.proofs.Short.{keys_reported, rows_reported}

-- more behind what was told
pub Appends-append : {A : Type 0} (reported more : List A) (old mid new : List A) → Appends reported old mid → Appends more mid new → Appends (reported ++ more) old new
Appends-append reported more old mid new first last =
    (first.0 ++ last.0, last.1 ∙ ap (λ xs. xs ++ last.0) first.1 ∙ append_assoc old first.0 last.0, IsPermutation-append first.0 reported last.0 more first.2 last.2)

moved : {A : Type 0} (reported new sorted : List A) → Appends reported [] new → IsPermutation new sorted → IsPermutation reported sorted
moved reported new sorted all sort =
    IsPermutation-trans reported new sorted (subst (IsPermutation reported) (sym all.1) (IsPermutation-sym all.0 reported all.2)) sort

module _ (shards : List Standing) (home : AtHome (length shards) (state_in shards)) (kind : Kind) where
  -- the keys that a deletion tells, sorted
  pub keys_sorted : (name : List ℕ) (new sorted : List (List ℕ)) → Appends (flat_map (λ s. keys_in (deletion_of kind name (state_of s))) shards) [] new
      → IsPermutation new sorted → IsSorted (slice_cmp nat_cmp) sorted
      → sorted ≡ keys_reported (map (λ i. deletion_of kind name (state_in shards i)) (range_with_len 0 (length shards)))
  keys_sorted name new sorted all sort up =
      let tell : State → List (List ℕ) = λ state. keys_in (deletion_of kind name state) in
      let reported = flat_map (λ i. tell (state_in shards i)) (range_with_len 0 (length shards)) in
      let same : flat_map (λ s. tell (state_of s)) shards ≡ reported = sym (flat_map-states shards tell) in
      keys_in_order reported sorted (all_keys_once (length shards) (state_in shards) home kind name) (subst (λ ts. IsPermutation ts sorted) same (moved (flat_map (λ s. tell (state_of s)) shards) new sorted all sort)) up
      ∙ ap (in_key_order (λ (key : List ℕ). key)) (sym (flat_map-map keys_in (λ i. deletion_of kind name (state_in shards i)) (range_with_len 0 (length shards))))

  -- the rows that a dump tells, sorted
  pub rows_sorted : (new sorted : List DumpRow) → Appends (flat_map (λ s. dump_of kind (state_of s).live) shards) [] new
      → IsPermutation new sorted → IsSortedByKey (λ (row : DumpRow). row.key) (slice_cmp nat_cmp) sorted
      → sorted ≡ rows_reported (map (λ i. Dumped (dump_of kind (state_in shards i).live)) (range_with_len 0 (length shards)))
  rows_sorted new sorted all sort up =
      let tell : State → List DumpRow = λ state. dump_of kind state.live in
      let reported = flat_map (λ i. tell (state_in shards i)) (range_with_len 0 (length shards)) in
      let same : flat_map (λ s. tell (state_of s)) shards ≡ reported = sym (flat_map-states shards tell) in
      in_key_order_is (λ (row : DumpRow). row.key) reported sorted (all_rows_once (length shards) (state_in shards) home kind) (subst (λ ts. IsPermutation ts sorted) same (moved (flat_map (λ s. tell (state_of s)) shards) new sorted all sort)) up
      ∙ ap (in_key_order (λ (row : DumpRow). row.key)) (sym (flat_map-map rows_in (λ i. Dumped (dump_of kind (state_in shards i).live)) (range_with_len 0 (length shards))))

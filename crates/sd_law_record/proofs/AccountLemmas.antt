-- Legal histories that hand out the tables of rounds account for all.
use Rattle.std.proofs.Common.{◌≡◌, ℕ, zero, suc, ◌+◌, ◌≤◌, ◌<◌, List, [], ◌∷◌, length, map, get_or, refl, sym, ap, subst, ◌∙◌, arith}
use Rattle.std.specs.List.{AllByRecursion, range_with_len}
use Rattle.std.proofs.lemmas.List.{get_or-map, length-map}
use Rattle.sd_model_shard.specs.Shard.{Limits, Policy, Table}
use Rattle.sd_model_shard.specs.History.{History, Legal, AreDocumented, Flushed, flushes, tables}
use Rattle.sd_model_shard.specs.Rows.{Tell}
use Rattle.sd_law_shard.proofs.HistoryLemmas.{accounted, are_documented, rows_kept}
use Rattle.sd_model_record.specs.Record.{record_rows, documented_rows}
use Rattle.sd_law_record.specs.Tell.{AllTell}
use Rattle.sd_law_record.proofs.DocumentedLemmas.{documented}
use Rattle.sd_model_serve.specs.Rounds.{AreAccounted, RecordForm, Round, round_record, flushed_at}
use Rattle.sd_model_serve.proofs.Short.{no_flush}

at_place : {X : Type 0} (P : X → Type 0) (xs : List X) (k : ℕ) (d : X) → AllByRecursion P xs → k < length xs → P (get_or xs k d)
at_place P [] k d all below = absurd (omega arith)
at_place P (x ∷ xs) zero d all below = all.0
at_place P (x ∷ xs) (suc k) d all below = at_place P xs k d all.1 (omega arith)

map_alike : {X : Type 0} (f g : ℕ → X) (a n : ℕ) → ((i : ℕ) → a ≤ i → i < a + n → f i ≡ g i) → map f (range_with_len a n) ≡ map g (range_with_len a n)
map_alike f g a zero alike = refl
map_alike f g a (suc n) alike =
    let here = alike a (omega arith) (omega arith) in
    let rest = map_alike f g (a + 1) n (λ i low high. alike i (omega arith) (omega arith)) in
    λ i. here i ∷ rest i

all_in : {X : Type 0} (P : X → Type 0) (f : ℕ → X) (a n : ℕ) → ((i : ℕ) → a ≤ i → i < a + n → P (f i)) → AllByRecursion P (map f (range_with_len a n))
all_in P f a zero each = tt
all_in P f a (suc n) each = (each a (omega arith) (omega arith), all_in P f (a + 1) n (λ i low high. each i (omega arith) (omega arith)))

map_map : {X Y Z : Type 0} (f : Y → Z) (g : X → Y) (xs : List X) → map f (map g xs) ≡ map (λ x. f (g x)) xs
map_map f g [] = refl
map_map f g (x ∷ xs) = ap (λ ys. f (g x) ∷ ys) (map_map f g xs)

module _ (limits : Limits) (policy : Policy) (form : RecordForm) (histories : ℕ → History) (rounds : List Round)
    (reported : (i : ℕ) → i < form.shards → AreDocumented limits policy (histories i))
    (handed_out : (i : ℕ) → i < form.shards → tables (histories i) ≡ map (λ r. r.tables i) rounds) where
  as_many : (i : ℕ) → i < form.shards → length (flushes (histories i)) ≡ length rounds
  as_many i below =
      omega (
        arith,
        length-map (flushes (histories i)) (λ (f : Flushed). f.table),
        ap length ((reported i below).handed_out ∙ handed_out i below),
        length-map rounds (λ (r : Round). r.tables i),
      )

  own_table : (k : ℕ) (other : Round) → k < length rounds → (i : ℕ) → i < form.shards → (get_or (flushes (histories i)) k no_flush).table ≡ (get_or rounds k other).tables i
  own_table k other within i below =
      let few : k < length (flushes (histories i)) = omega (arith, as_many i below) in
      sym (get_or-map (λ (f : Flushed). f.table) (flushes (histories i)) k no_flush no_flush.table few)
      ∙ ap (λ (ts : List Table). get_or ts k no_flush.table) ((reported i below).handed_out ∙ handed_out i below)
      ∙ get_or-map (λ (r : Round). r.tables i) rounds k other no_flush.table within

  -- the record of a round is that of the journals
  round_documented : (k : ℕ) (other : Round) → k < length rounds → (round_record form (get_or rounds k other)).rows ≡ documented_rows form.plan (flushed_at form.shards histories k)
  round_documented k other within =
      let flushed : ℕ → Flushed = λ i. get_or (flushes (histories i)) k no_flush in
      let range = range_with_len 0 form.shards in
      let tell : AllTell (map flushed range) = all_in (λ f. Tell f.table.live f.journal) flushed 0 form.shards (λ i low high.
      let below : i < form.shards = omega arith in
      at_place (λ (f : Flushed). Tell f.table.live f.journal) (flushes (histories i)) k no_flush (reported i below).tables (omega (arith, as_many i below))) in
      let same : map (λ (f : Flushed). f.table) (map flushed range) ≡ map (get_or rounds k other).tables range =
      map_map (λ (f : Flushed). f.table) flushed range
      ∙ map_alike (λ i. (flushed i).table) (get_or rounds k other).tables 0 form.shards (λ i low high. own_table k other within i (omega arith)) in
      sym (ap (record_rows form.plan) same) ∙ documented form.plan (map flushed range) tell

pub account : (limits : Limits) (policy : Policy) (form : RecordForm) (histories : ℕ → History) (rounds : List Round) → ((i : ℕ) → i < form.shards → Legal limits policy (histories i))
    → ((i : ℕ) → i < form.shards → tables (histories i) ≡ map (λ r. r.tables i) rounds) → AreAccounted limits policy form histories rounds
account limits policy form histories rounds legal handed_out =
    let reported : (i : ℕ) → i < form.shards → AreDocumented limits policy (histories i) = λ i below. are_documented limits policy (histories i) (legal i below) in
    record {
      legal = legal;
      places = λ i below. accounted limits policy (histories i) (legal i below);
      handed_out = handed_out;
      kept_rows = λ i below. rows_kept limits policy (histories i) (legal i below);
      documented = reported;
      statistics = round_documented limits policy form histories rounds reported handed_out;
    }

-- The lines of the reply to `totals`, by their places.
use Rattle.std.proofs.Common.{◌≡◌, ℕ, zero, suc, ◌+◌, ◌-◌, ◌<◌, ◌≤◌, List, [], ◌∷◌, ◌++◌, length, map, refl, ap, ◌∙◌, append_assoc, arith, length-append}
use Rattle.std.specs.Prelude.{Bool, slice_get, Some}
use Rattle.std.specs.Option.{option_map}
use Rattle.std.proofs.lemmas.List.{length-map}
use Rattle.std.proofs.lemmas.Option.{slice_get-map, slice_get_within}
use Rattle.sd_model_text.proofs.Places.{get_prefix, get_behind}
use Rattle.sd_model_shard.specs.Shard.{Numbers}
use Rattle.sd_model_record.specs.Desk.{Facts}
use Rattle.sd_model_record.specs.Totals.{Total, known_before_end, total_line, totals_of}
use Rattle.sd_model_record.specs.Replies.{end_lines, shard_lines}
use Rattle.sd_shard.specs.Shard.{numbers_in}
use Rattle.sd_shard.specs.declared.shard.ShardBook.{ShardBook}
use Rattle.sd_model_record.proofs.Short.{added, shard_line, totals_lines}

-- there is a line for each shard
pub length-shard_lines : (i : ℕ) (shards : List Numbers) → length (shard_lines i shards) ≡ length shards
length-shard_lines i [] = refl
length-shard_lines i (n ∷ shards) = ap suc (length-shard_lines (i + 1) shards)

pub get-shard_lines : (k : ℕ) (shards : List Numbers) (i : ℕ) → slice_get (shard_lines k shards) i ≡ option_map (shard_line (k + i)) (slice_get shards i)
get-shard_lines k [] i = refl
get-shard_lines k (n ∷ shards) zero = (let here : k ≡ k + 0 = omega arith in ap (λ j. Some (shard_line j n)) here)
get-shard_lines k (n ∷ shards) (suc i) =
    get-shard_lines (k + 1) shards i ∙ (let next : k + 1 + i ≡ k + suc i = omega arith in ap (λ j. option_map (shard_line j) (slice_get shards i)) next)

module _ (outlets : Bool) (facts : Facts) (books : List ShardBook) where
  abbrev totals : List Total
  totals = known_before_end outlets (totals_of (added (map numbers_in books)) facts)

  abbrev prefix : List (List ℕ)
  prefix = map total_line totals

  abbrev lines : List (List ℕ)
  lines = shard_lines 0 (map numbers_in books)

  lines-count : length lines ≡ length books
  lines-count = length-shard_lines 0 (map numbers_in books) ∙ length-map books numbers_in

  -- how many lines the reply has
  pub totals-count : length (totals_lines outlets facts (map numbers_in books) ++ end_lines) ≡ length totals + length books + 2
  totals-count =
      omega (arith, length-append (prefix ++ lines) end_lines, length-append prefix lines, length-map totals total_line, lines-count)

  module _ (place : ℕ) where
    pub total_at : place < length totals → slice_get (totals_lines outlets facts (map numbers_in books) ++ end_lines) place ≡ slice_get prefix place
    total_at below =
        ap (λ all. slice_get all place) (append_assoc prefix lines end_lines)
        ∙ get_prefix prefix (lines ++ end_lines) place (omega (arith, below, length-map totals total_line))

    behind : length totals ≤ place → slice_get (totals_lines outlets facts (map numbers_in books) ++ end_lines) place ≡ slice_get (lines ++ end_lines) (place - length totals)
    behind past =
        ap (λ all. slice_get all place) (append_assoc prefix lines end_lines)
        ∙ get_behind prefix (lines ++ end_lines) place (omega (arith, past, length-map totals total_line))
        ∙ ap (λ n. slice_get (lines ++ end_lines) (place - n)) (length-map totals total_line)

    pub shard_at : (book : ShardBook) → length totals ≤ place → slice_get books (place - length totals) ≡ Some book
        → slice_get (totals_lines outlets facts (map numbers_in books) ++ end_lines) place ≡ Some (shard_line (place - length totals) (numbers_in book))
    shard_at book past found =
        let i = place - length totals in
        let same : 0 + i ≡ i = omega arith in
        behind past ∙ get_prefix lines end_lines i (omega (arith, lines-count, slice_get_within books i book found))
        ∙ get-shard_lines 0 (map numbers_in books) i ∙ ap (λ k. option_map (shard_line k) (slice_get (map numbers_in books) i)) same
        ∙ ap (option_map (shard_line i)) (slice_get-map numbers_in books i ∙ ap (option_map numbers_in) found)

    pub end_at : length totals ≤ place → length books ≤ place - length totals
        → slice_get (totals_lines outlets facts (map numbers_in books) ++ end_lines) place ≡ slice_get end_lines (place - length totals - length books)
    end_at past none =
        behind past ∙ get_behind lines end_lines (place - length totals) (omega (arith, lines-count, none)) ∙ ap (λ n. slice_get end_lines (place - length totals - n)) lines-count

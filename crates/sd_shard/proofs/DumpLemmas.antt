-- Rows of a dump in order.
use Rattle.std.proofs.Common.{◌≡◌, ◌+◌, ◌<◌, false, List, [], ◌∷◌, length, get_or, map, refl, ap, ◌∙◌, IsSorted, IsSortedByKey, arith}
use Rattle.std.specs.declared.cmp.Ordering.{Ordering}
use Rattle.std.specs.declared.cmp.Ordering.TheVariants.{Less, Equal, Greater}
use Rattle.std.specs.Ordering.{is_lt, ordering_then, nat_cmp, int_cmp}
use Rattle.std.specs.Cmp.Lexicographic.{slice_cmp}
use Rattle.std.proofs.lemmas.List.{length-map, get_or-map}
use Rattle.sd_model_shard.specs.Rows as model
use Rattle.sd_shard.specs.Dump.{dump_row_of}
use Rattle.sd_shard.specs.declared.dump.DumpRow.{DumpRow}
use Rattle.sd_shard.specs.contracts.dump.DumpRowOrd.TheImpl.{ghosts as row_ghosts}

-- what comes second doesn't decide
second_aside : (a b : Ordering) → is_lt (ordering_then a b) ≡ false → is_lt a ≡ false
second_aside Less b h = h
second_aside Equal b h = refl
second_aside Greater b h = refl

rows_in_order : (a b : DumpRow) → is_lt (row_ghosts.cmp a b) ≡ false → is_lt (slice_cmp nat_cmp a.key b.key) ≡ false
rows_in_order a b h = second_aside (slice_cmp nat_cmp a.key b.key) (ordering_then (nat_cmp a.samples b.samples) (int_cmp a.amount.0 b.amount.0)) h

-- rows that are sorted are sorted by their keys
pub sorted_by_key : (rows : List DumpRow) → IsSorted row_ghosts.cmp rows → IsSortedByKey (λ (r : model.DumpRow). r.key) (slice_cmp nat_cmp) (map dump_row_of rows)
sorted_by_key [] up = λ k d low high. absurd (omega arith)
sorted_by_key (row ∷ rows) up = λ k d low high.
    let few : k + 1 < length (row ∷ rows) = omega (arith, length-map (row ∷ rows) dump_row_of) in
    let reported = map dump_row_of (row ∷ rows) in
    ap (λ (r : model.DumpRow). is_lt (slice_cmp nat_cmp r.key (get_or reported k d).key)) (get_or-map dump_row_of (row ∷ rows) (k + 1) row d few)
    ∙ ap (λ (r : model.DumpRow). is_lt (slice_cmp nat_cmp (dump_row_of (get_or (row ∷ rows) (k + 1) row)).key r.key)) (get_or-map dump_row_of (row ∷ rows) k row d (omega arith))
    ∙ rows_in_order (get_or (row ∷ rows) (k + 1) row) (get_or (row ∷ rows) k row) (up k row low few)

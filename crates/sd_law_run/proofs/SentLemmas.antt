-- What lines that go alone count for at their wires.
use Rattle.std.proofs.Common.{◌≡◌, ◌∙◌, ℕ, ◌+◌, Bool, true, false, not, cond, List, [], ◌∷◌, ◌++◌, length, map, flat_map, refl, sym, sum_by}
use Rattle.std.specs.Prelude.{count_by}
use Rattle.std.specs.List.{AllByRecursion, range_with_len}
use Rattle.std.proofs.lemmas.List.{length-map}
use Rattle.std.proofs.lemmas.List.Sums.{length-filter, sum_by-cons}
use Rattle.sd_model_settings.specs.Entries.{Node}
use Rattle.sd_model_outside.specs.Uses.{WireSend}
use Rattle.sd_law_record.specs.Sends.{failed_among, packets_of}
use Rattle.sd_model_proxy.specs.Routes.{AreBatched, Batch, Batched, batches, over_nodes, Read}
use Rattle.sd_model_proxy.proofs.BatchLemmas.{each-alone}
use Rattle.sd_model_proxy.proofs.Short.{lines_to, lines_sent, lines_not_sent, send_of}

-- sums of what is the same, or of two parts
same_sums : {X : Type 0} (f h : X → ℕ) → ((x : X) → f x ≡ h x) → (xs : List X) → sum_by f xs ≡ sum_by h xs
same_sums f h same [] = refl
same_sums f h same (x ∷ xs) = sum_by-cons f x xs ∙ (λ i. same x i + same_sums f h same xs i) ∙ sym (sum_by-cons h x xs)

-- packets of one line each
abbrev AreSingle : List (List (List ℕ)) → Type 0
AreSingle = AllByRecursion (λ p. length p ≡ 1)

single-append : (xs ys : List (List (List ℕ))) → AreSingle xs → AreSingle ys → AreSingle (xs ++ ys)
single-append [] ys one others = others
single-append (x ∷ xs) ys one others = (one.0, single-append xs ys one.1 others)

single-lines : (ls : List (List ℕ)) → AreSingle (map (λ l. l ∷ []) ls)
single-lines [] = tt
single-lines (l ∷ ls) = (refl, single-lines ls)

all_single : (nodes : List Node) (place : ℕ) (reads : List Read) → AreSingle (flat_map (λ r. batches 0 (lines_to nodes place r)) reads)
all_single nodes place [] = tt
all_single nodes place (r ∷ reads) =
    single-append (batches 0 (lines_to nodes place r)) (flat_map (λ (r : Read). batches 0 (lines_to nodes place r)) reads)
    (rw (each-alone (lines_to nodes place r)) (single-lines (lines_to nodes place r))) (all_single nodes place reads)

one_sent : (f : Bool) (n : ℕ) → n ≡ 1 → cond (not f) 1 0 ≡ cond f 0 n
one_sent true n one = refl
one_sent false n one = sym one

sum_sent : (bs : List Batch) → AreSingle (map (λ b. b.lines) bs) → count_by (λ s. not s.is_failed) (map send_of bs) ≡ lines_sent bs
sum_sent [] all = refl
sum_sent (b ∷ bs) all =
    sum_by-cons (λ (s : WireSend). cond (not s.is_failed) 1 0) (send_of b) (map send_of bs) ∙ (λ i. one_sent b.is_failed (length b.lines) all.0 i + sum_sent bs all.1 i)
    ∙ sym (sum_by-cons (λ (x : Batch). cond x.is_failed 0 (length x.lines)) b bs)

sent_single : (bs : List Batch) → AreSingle (map (λ b. b.lines) bs) → length (packets_of (map send_of bs)) ≡ lines_sent bs
sent_single bs all = length-map _ _ ∙ length-filter (λ (s : WireSend). not s.is_failed) (map send_of bs) ∙ sum_sent bs all

failed_single : (bs : List Batch) → AreSingle (map (λ b. b.lines) bs) → failed_among (map send_of bs) ≡ lines_not_sent bs
failed_single [] all = refl
failed_single (b ∷ bs) all =
    sum_by-cons (λ (s : WireSend). cond s.is_failed 1 0) (send_of b) (map send_of bs) ∙ (λ i. cond b.is_failed (sym all.0 i) 0 + failed_single bs all.1 i)
    ∙ sym (sum_by-cons (λ (x : Batch). cond x.is_failed (length x.lines) 0) b bs)

-- where each line goes alone, there are as many packets as lines
pub alone-sent : (nodes : List Node) (reads : List Read) (batched : Batched) → AreBatched 0 nodes reads batched → over_nodes nodes batched (λ bs. length (packets_of (map send_of bs))) ≡ over_nodes nodes batched lines_sent
alone-sent nodes reads batched are =
    same_sums (λ place. length (packets_of (map send_of (batched place)))) (λ place. lines_sent (batched place)) (λ place. sent_single (batched place) (rw (are place) (all_single nodes place reads))) (range_with_len 0 (length nodes))

pub alone-failed : (nodes : List Node) (reads : List Read) (batched : Batched) → AreBatched 0 nodes reads batched → over_nodes nodes batched (λ bs. failed_among (map send_of bs)) ≡ over_nodes nodes batched lines_not_sent
alone-failed nodes reads batched are =
    same_sums (λ place. failed_among (map send_of (batched place))) (λ place. lines_not_sent (batched place)) (λ place. failed_single (batched place) (rw (are place) (all_single nodes place reads))) (range_with_len 0 (length nodes))

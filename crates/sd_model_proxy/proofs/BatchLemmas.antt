-- Lines in packets.
use Rattle.std.proofs.Common.{◌≡◌, ◌∙◌, ℕ, ◌<◌, ◌≤◌, Bool, true, false, cond, List, [], ◌∷◌, ◌++◌, length, map, flat_map, length-append, append_assoc, refl, sym, ap, arith, All}
use Rattle.std.proofs.lemmas.Bool.{leb-true, lt-leb}
use Rattle.std.proofs.lemmas.List.Concat.{flat_map-append}
use Rattle.std.proofs.lemmas.List.Elements.{All-nil, All-cons}
use Rattle.std.proofs.lemmas.List.Folds.{flat_map-map}
use Rattle.sd_model_settings.specs.Entries.{Node}
use Rattle.sd_model_proxy.specs.Routes.{AreBatched, Batch, Batched, batches, batches_from, joined, Read}
use Rattle.sd_model_proxy.proofs.Short.{fits, lines_to}

-- the lines of packets
abbrev pub lines_in : List (List (List ℕ)) → List (List ℕ)
lines_in packets = flat_map (λ p. p) packets

-- a packet with a line more
pub joined-more : (line : List ℕ) (lines : List (List ℕ)) (last : List ℕ) → joined ((line ∷ lines) ++ last ∷ []) ≡ joined (line ∷ lines) ++ 10 ∷ last
joined-more line [] last = refl
joined-more line (next ∷ lines) last = ap (λ text. line ++ 10 ∷ text) (joined-more next lines last) ∙ sym (append_assoc line (10 ∷ joined (next ∷ lines)) (10 ∷ last))

-- what holds of either of two, by a test
pub by_case : {X : Type 0} (P : X → Type 0) (b : Bool) (x y : X) → (b ≡ true → P x) → (b ≡ false → P y) → P (cond b x y)
by_case P true x y met unmet = met refl
by_case P false x y met unmet = unmet refl

-- two lines have a newline between them
pub some_bytes : (line next : List ℕ) → 0 < length (joined (line ∷ next ∷ []))
some_bytes line next = omega (arith, length-append line (10 ∷ next))

module _ (most : ℕ) where
  from-lines : (begun lines : List (List ℕ)) → lines_in (batches_from most begun lines) ≡ begun ++ lines
  from-lines begun [] = refl
  from-lines begun (line ∷ lines) =
      by_case (λ ps. lines_in ps ≡ begun ++ line ∷ lines) (fits most (begun ++ line ∷ [])) (batches_from most (begun ++ line ∷ []) lines) (begun ∷ batches_from most (line ∷ []) lines)
      (λ fit. from-lines (begun ++ line ∷ []) lines ∙ append_assoc begun (line ∷ []) lines) (λ over. ap (λ ls. begun ++ ls) (from-lines (line ∷ []) lines))

  pub keeps-lines : (lines : List (List ℕ)) → lines_in (batches most lines) ≡ lines
  keeps-lines [] = refl
  keeps-lines (line ∷ lines) = from-lines (line ∷ []) lines

  -- packets of more than one line fit
  abbrev pub IsFit : List (List ℕ) → Type 0
  IsFit packet = 1 < length packet → length (joined packet) ≤ most

  alone : (line : List ℕ) → IsFit (line ∷ [])
  alone line several = absurd (omega (arith, several))

  from-fit : (begun lines : List (List ℕ)) → IsFit begun → All IsFit (batches_from most begun lines)
  from-fit begun [] fit = All-cons IsFit begun [] fit (All-nil IsFit)
  from-fit begun (line ∷ lines) fit =
      by_case (All IsFit) (fits most (begun ++ line ∷ [])) (batches_from most (begun ++ line ∷ []) lines) (begun ∷ batches_from most (line ∷ []) lines)
      (λ is. from-fit (begun ++ line ∷ []) lines (λ several. leb-true (length (joined (begun ++ line ∷ []))) most is))
      (λ over. All-cons IsFit begun (batches_from most (line ∷ []) lines) fit (from-fit (line ∷ []) lines (alone line)))

  pub all-fit : (lines : List (List ℕ)) → All IsFit (batches most lines)
  all-fit [] = All-nil IsFit
  all-fit (line ∷ lines) = from-fit (line ∷ []) lines (alone line)

  -- the lines of the packets to a node are those that go there
  pub packets-lines : (nodes : List Node) (reads : List Read) (batched : Batched) → AreBatched most nodes reads batched → (place : ℕ) → flat_map (λ b. b.lines) (batched place) ≡ flat_map (lines_to nodes place) reads
  packets-lines nodes reads batched are place = sym (flat_map-map (λ (p : List (List ℕ)). p) (λ (b : Batch). b.lines) (batched place)) ∙ ap lines_in (are place) ∙ each reads
    where
      each : (reads : List Read) → lines_in (flat_map (λ (r : Read). batches most (lines_to nodes place r)) reads) ≡ flat_map (lines_to nodes place) reads
      each [] = refl
      each (r ∷ reads) =
          flat_map-append (λ (p : List (List ℕ)). p) (batches most (lines_to nodes place r)) (flat_map (λ (r : Read). batches most (lines_to nodes place r)) reads)
          ∙ (λ i. keeps-lines (lines_to nodes place r) i ++ each reads i)

-- with no bytes each line goes alone
from-none : (line : List ℕ) (lines : List (List ℕ)) → batches_from 0 (line ∷ []) lines ≡ map (λ (l : List ℕ). l ∷ []) (line ∷ lines)
from-none line [] = refl
from-none line (next ∷ lines) =
    ap (λ fit. cond fit (batches_from 0 (line ∷ next ∷ []) lines) ((line ∷ []) ∷ batches_from 0 (next ∷ []) lines)) (lt-leb (length (joined (line ∷ next ∷ []))) 0 (some_bytes line next))
    ∙ ap (λ ps. (line ∷ []) ∷ ps) (from-none next lines)

pub each-alone : (lines : List (List ℕ)) → batches 0 lines ≡ map (λ line. line ∷ []) lines
each-alone [] = refl
each-alone (line ∷ lines) = from-none line lines

-- Bytes held in a part of the room.
use Rattle.std.proofs.Common.{◌≡◌, ℕ, ◌+◌, ◌-◌, ◌≤◌, List, ◌++◌, Vec, length, take, drop, sym, ap, ◌∙◌, arith, length-append, length-drop, length-take}
use Rattle.std.specs.Prelude.{slice_range, min}
use Rattle.std.proofs.lemmas.List.{take-append-le, drop-append-le, drop-take, drop-drop, length-take-le, take_at, with_items_is, take_min}
use Rattle.std.proofs.Math.Seq.{take-append-add}
use Rattle.std.specs.Vec.{with_items}
use borrow.Rule.Slice.PartMut.{post_of}
use Rattle.sd_model_outside.specs.Outside.{Content, Reads, put_back}
use Rattle.sd_model_outside.proofs.OutsideLemmas.{put_back-append}

pub length-slice_range : (xs : List ℕ) (i j : ℕ) → i ≤ j → j ≤ length xs → length (slice_range xs i j) ≡ j - i
length-slice_range xs i j order inside = length-take-le (j - i) (drop i xs) (omega (arith, length-drop i xs))

-- the first n bytes are let go
pub slice_range-later : (xs : List ℕ) (i j n : ℕ) → n ≤ j - i → slice_range xs (i + n) j ≡ drop n (slice_range xs i j)
slice_range-later xs i j n few =
    let m : j - (i + n) ≡ (j - i) - n = omega arith in
    let whole : j - i ≡ n + ((j - i) - n) = omega arith in
    rw (m, ← drop-drop n i xs)
    (sym (ap (λ k. drop n (take k (drop i xs))) whole ∙ drop-take n ((j - i) - n) (drop i xs)))

-- what stands behind the part is overwritten
pub slice_range-before : (xs zs : List ℕ) (i j : ℕ) → i ≤ j → j ≤ length xs → drop i (take j xs ++ zs) ≡ slice_range xs i j ++ zs
slice_range-before xs zs i j order inside =
    let within : i ≤ length (take j xs) = omega (arith, length-take-le j xs inside) in
    let whole : j ≡ i + (j - i) = omega arith in
    drop-append-le i (take j xs) zs within
    ∙ ap (λ ys. ys ++ zs) (ap (λ k. drop i (take k xs)) whole ∙ drop-take i (j - i) xs)

-- n of the bytes that were written behind the part are added to it
pub slice_range-wider : (xs ys zs : List ℕ) (i j n : ℕ) → i ≤ j → j ≤ length xs → n ≤ length ys → slice_range (take j xs ++ (ys ++ zs)) i (j + n) ≡ slice_range xs i j ++ take n ys
slice_range-wider xs ys zs i j n order inside few =
    let held = slice_range xs i j in
    let long : (j + n) - i ≡ length held + n = omega (arith, length-slice_range xs i j order inside) in
    ap (take ((j + n) - i)) (slice_range-before xs (ys ++ zs) i j order inside)
    ∙ ap (λ k. take k (held ++ (ys ++ zs))) long
    ∙ take-append-add held (ys ++ zs) n
    ∙ ap (λ more. held ++ more) (take-append-le n ys zs few)

pub slice_range-same : (xs zs : List ℕ) (i j : ℕ) → i ≤ j → j ≤ length xs → slice_range (take j xs ++ zs) i j ≡ slice_range xs i j
slice_range-same xs zs i j order inside =
    ap (take (j - i)) (slice_range-before xs zs i j order inside)
    ∙ take_at (slice_range xs i j) zs (j - i) (length-slice_range xs i j order inside)

-- bytes that came are no longer left in the source, but held
pub left-reads : (held more : List ℕ) (old new : Content) → Reads old more new → put_back (held ++ more) new ≡ put_back held old
left-reads held more old new reads = sym (put_back-append held more new) ∙ ap (put_back held) (sym reads)

-- the room xs with ys written behind the place j
abbrev written : List ℕ → List ℕ → ℕ → List ℕ
written xs ys j = take j xs ++ (ys ++ post_of j (length xs - j) xs)

length-written : (xs ys : List ℕ) (j : ℕ) → j ≤ length xs → length ys ≡ length (take (length xs - j) (drop j xs)) → length (written xs ys j) ≡ length xs
length-written xs ys j inside same =
    simp (length-append, length-take, length-drop) (omega (arith, same, length-take {A = ℕ}, length-drop {A = ℕ}))

-- xs is what the room held, of which i to j was the part ahead, and ys was written behind j
module _ {Z : Type 0} (room : Vec ℕ Z) (xs ys : List ℕ) (i j : ℕ) (same : xs ≡ room.items) (whole : length xs ≡ room.len) (order : i ≤ j) (inside : j ≤ length xs) (size : length ys ≡ length (take (length xs - j) (drop j xs))) where
  items-written : (with_items room (written xs ys j)).items ≡ written xs ys j
  items-written = with_items_is room (written xs ys j) (length-written xs ys j inside size ∙ whole)

  pub ahead-kept : slice_range (with_items room (written xs ys j)).items i j ≡ slice_range room.items i j
  ahead-kept =
      ap (λ zs. slice_range zs i j) items-written ∙ slice_range-same xs _ i j order inside
      ∙ ap (λ zs. slice_range zs i j) same

  pub ahead-grown : (n : ℕ) → n ≤ length ys → slice_range (with_items room (written xs ys j)).items i (j + n) ≡ slice_range room.items i j ++ take n ys
  ahead-grown n few =
      ap (λ zs. slice_range zs i (j + n)) items-written ∙ slice_range-wider xs ys _ i j n order inside few
      ∙ ap (λ zs. slice_range zs i j ++ take n ys) same

-- the bytes among which the newline of a line stands
pub take-prefix : (xs held : List ℕ) (most k : ℕ) → xs ≡ held → k ≡ min most (length xs) → take k xs ≡ take most held
take-prefix xs held most k same is = ap (λ n. take n xs) is ∙ take_min most xs ∙ ap (take most) same

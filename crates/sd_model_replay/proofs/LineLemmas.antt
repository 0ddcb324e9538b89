-- First lines of records: which bytes begin with one, and with which.
use Rattle.std.proofs.Common.{◌≡◌, ◌≢◌, ℕ, suc, zero, ◌-◌, ◌^◌, ◌<◌, List, [], ◌∷◌, ◌++◌, length, get_or, take, drop, decimal, refl, sym, ap, subst, ◌∙◌, ⊎_elim, arith, append_assoc, length-append, length-take}
use Rattle.std.proofs.lemmas.Bool.{cases_lt}
use Rattle.std.proofs.lemmas.Fmt.{length-decimal-le, decimal_injective}
use Rattle.std.proofs.lemmas.List.{get_or-take, get_or_append_left, get_or-append_right}
use Rattle.sd_model_text.specs.Lists.{Lacks}
use Rattle.sd_model_text.proofs.Cuts.{same_cut, at_cut}
use Rattle.sd_model_text.proofs.Digits.{Lacks-decimal}
use Rattle.sd_model_replay.specs.Script.{Head, PacketHead, FlushHead, AdminHead, EndHead, head_line, IsForm}

pub Lacks-cons : (byte x : ℕ) (xs : List ℕ) → x ≢ byte → Lacks byte xs → Lacks byte (x ∷ xs)
Lacks-cons byte x xs other lacks zero inside = other
Lacks-cons byte x xs other lacks (suc k) inside = lacks k (omega arith)

Lacks-append : (byte : ℕ) (xs ys : List ℕ) → Lacks byte xs → Lacks byte ys → Lacks byte (xs ++ ys)
Lacks-append byte xs ys prefix behind k inside =
    ⊎_elim
    (λ less. rw (get_or_append_left xs ys 0 k less) (prefix k less))
    (λ most. rw (get_or-append_right xs ys (length xs) k 0 refl most) (behind (k - length xs) (omega (arith, length-append xs ys))))
    (cases_lt k (length xs))

-- the digits after a space
Lacks-field : (n : ℕ) → n < 2 ^ 64 → Lacks 10 (32 ∷ decimal n)
Lacks-field n small = Lacks-cons 10 32 (decimal n) (λ same. absurd (omega (arith, same))) (Lacks-decimal 10 n (omega arith) small)

-- the first bytes of two lines
pub first_byte : (xs ys : List ℕ) → xs ≡ ys → get_or xs 0 0 ≡ get_or ys 0 0
first_byte xs ys same = ap (λ zs. get_or zs 0 0) same

pub inside_cut : (s : ℕ) (part rest : List ℕ) → length part < length (part ++ s ∷ rest)
inside_cut s part rest = omega (arith, length-append part (s ∷ rest))

-- what is after bytes is after their first line
pub longer : (bytes line rest more : List ℕ) → bytes ≡ line ++ 10 ∷ rest → bytes ++ more ≡ line ++ 10 ∷ (rest ++ more)
longer bytes line rest more whole = ap (λ xs. xs ++ more) whole ∙ append_assoc line (10 ∷ rest) more

-- a list without the separator isn't cut
pub uncut : (s : ℕ) (xs part rest : List ℕ) → Lacks s xs → xs ≡ part ++ s ∷ rest → ⊥
uncut s xs part rest lacks same = lacks (length part) (rw same (inside_cut s part rest)) (rw same (at_cut s part rest))

-- the newline after a short line is seen among the first bytes
pub newline_soon : (bytes line rest : List ℕ) → length line < 40 → bytes ≡ line ++ 10 ∷ rest → Lacks 10 (take 40 bytes) → ⊥
newline_soon bytes line rest short whole lacks =
    let inside : length line < length bytes = subst (λ xs. length line < length xs) (sym whole) (inside_cut 10 line rest) in
    lacks (length line) (omega (arith, length-take 40 bytes))
    (get_or-take 40 bytes (length line) 0 short ∙ ap (λ xs. get_or xs (length line) 0) whole ∙ at_cut 10 line rest)

-- two numbers after one another, with a space between
two_numbers : (m n m' n' : ℕ) → m < 2 ^ 64 → n < 2 ^ 64 → m' < 2 ^ 64 → n' < 2 ^ 64 → decimal m ++ 32 ∷ decimal n ≡ decimal m' ++ 32 ∷ decimal n' → (m ≡ m') × (n ≡ n')
two_numbers m n m' n' a b c d same =
    let cut = same_cut 32 (decimal m) (decimal n) (decimal m') (decimal n') (Lacks-decimal 32 m (omega arith) a) (Lacks-decimal 32 m' (omega arith) c) same in
    (decimal_injective m m' a c cut.0, decimal_injective n n' b d cut.1)

module _ (receivers : ℕ) where
  -- no newline is in a first line, which has fewer than 40 bytes
  pub Lacks-line : (head : Head) → IsForm receivers head → Lacks 10 (head_line head)
  Lacks-line (PacketHead who moment len) form =
      Lacks-append 10 (80 ∷ 32 ∷ decimal who ++ 32 ∷ decimal moment) (32 ∷ decimal len)
      (Lacks-append 10 (80 ∷ 32 ∷ decimal who) (32 ∷ decimal moment)
      (Lacks-cons 10 80 (32 ∷ decimal who) (λ same. absurd (omega (arith, same))) (Lacks-field who (omega (arith, form.0.1))))
      (Lacks-field moment (omega (arith, form.1))))
      (Lacks-field len (omega (arith, form.2)))
  Lacks-line (FlushHead ts) form = Lacks-cons 10 70 (32 ∷ decimal ts) (λ same. absurd (omega (arith, same))) (Lacks-field ts (omega (arith, form)))
  Lacks-line (AdminHead moment len) form =
      Lacks-append 10 (65 ∷ 32 ∷ decimal moment) (32 ∷ decimal len)
      (Lacks-cons 10 65 (32 ∷ decimal moment) (λ same. absurd (omega (arith, same))) (Lacks-field moment (omega (arith, form.0))))
      (Lacks-field len (omega (arith, form.1)))
  Lacks-line EndHead form = Lacks-cons 10 69 [] (λ same. absurd (omega (arith, same))) (λ k inside. absurd (omega arith))

  pub length-line : (head : Head) → IsForm receivers head → length (head_line head) < 40
  length-line (PacketHead who moment len) form =
      omega (
        arith,
        length-append (80 ∷ 32 ∷ decimal who ++ 32 ∷ decimal moment) (32 ∷ decimal len),
        length-append (80 ∷ 32 ∷ decimal who) (32 ∷ decimal moment),
        length-decimal-le 2 who (omega arith) form.0.1 (omega (arith, form.0.1)),
        length-decimal-le 18 moment (omega arith) form.1 (omega (arith, form.1)),
        length-decimal-le 5 len (omega arith) form.2 (omega (arith, form.2)),
      )
  length-line (FlushHead ts) form = omega (arith, length-decimal-le 18 ts (omega arith) form (omega (arith, form)))
  length-line (AdminHead moment len) form =
      omega (
        arith,
        length-append (65 ∷ 32 ∷ decimal moment) (32 ∷ decimal len),
        length-decimal-le 18 moment (omega arith) form.0 (omega (arith, form.0)),
        length-decimal-le 5 len (omega arith) form.1 (omega (arith, form.1)),
      )
  length-line EndHead form = omega arith

  same_packet : (who moment len who' moment' len' : ℕ) → IsForm receivers (PacketHead who moment len) → IsForm receivers (PacketHead who' moment' len') → decimal who ++ 32 ∷ decimal moment ++ 32 ∷ decimal len ≡ decimal who' ++ 32 ∷ decimal moment' ++ 32 ∷ decimal len' → PacketHead who moment len ≡ PacketHead who' moment' len'
  same_packet who moment len who' moment' len' a b same =
      let whole = sym (append_assoc (decimal who) (32 ∷ decimal moment) (32 ∷ decimal len)) ∙ same ∙ append_assoc (decimal who') (32 ∷ decimal moment') (32 ∷ decimal len') in
      let first = same_cut 32 (decimal who) (decimal moment ++ 32 ∷ decimal len) (decimal who') (decimal moment' ++ 32 ∷ decimal len')
      (Lacks-decimal 32 who (omega arith) (omega (arith, a.0.1))) (Lacks-decimal 32 who' (omega arith) (omega (arith, b.0.1))) whole in
      let w = decimal_injective who who' (omega (arith, a.0.1)) (omega (arith, b.0.1)) first.0 in
      let next = two_numbers moment len moment' len' (omega (arith, a.1)) (omega (arith, a.2)) (omega (arith, b.1)) (omega (arith, b.2)) first.1 in
      let m = next.0 in
      let l = next.1 in
      cc

  same_admin : (moment len moment' len' : ℕ) → IsForm receivers (AdminHead moment len) → IsForm receivers (AdminHead moment' len') → decimal moment ++ 32 ∷ decimal len ≡ decimal moment' ++ 32 ∷ decimal len' → AdminHead moment len ≡ AdminHead moment' len'
  same_admin moment len moment' len' a b same =
      let both = two_numbers moment len moment' len' (omega (arith, a.0)) (omega (arith, a.1)) (omega (arith, b.0)) (omega (arith, b.1)) same in
      let m = both.0 in
      let l = both.1 in
      cc

  -- two first lines with one text are one
  pub same_head : (a b : Head) → IsForm receivers a → IsForm receivers b → head_line a ≡ head_line b → a ≡ b
  same_head (PacketHead who moment len) (PacketHead who' moment' len') first second same = same_packet who moment len who' moment' len' first second (ap (drop 2) same)
  same_head (FlushHead ts) (FlushHead ts') first second same = ap FlushHead (decimal_injective ts ts' (omega (arith, first)) (omega (arith, second)) (ap (drop 2) same))
  same_head (AdminHead moment len) (AdminHead moment' len') first second same = same_admin moment len moment' len' first second (ap (drop 2) same)
  same_head EndHead EndHead first second same = refl
  same_head (PacketHead who moment len) (FlushHead ts') first second same = absurd (omega (arith, first_byte _ _ same))
  same_head (PacketHead who moment len) (AdminHead moment' len') first second same = absurd (omega (arith, first_byte _ _ same))
  same_head (PacketHead who moment len) EndHead first second same = absurd (omega (arith, first_byte _ _ same))
  same_head (FlushHead ts) (PacketHead who' moment' len') first second same = absurd (omega (arith, first_byte _ _ same))
  same_head (FlushHead ts) (AdminHead moment' len') first second same = absurd (omega (arith, first_byte _ _ same))
  same_head (FlushHead ts) EndHead first second same = absurd (omega (arith, first_byte _ _ same))
  same_head (AdminHead moment len) (PacketHead who' moment' len') first second same = absurd (omega (arith, first_byte _ _ same))
  same_head (AdminHead moment len) (FlushHead ts') first second same = absurd (omega (arith, first_byte _ _ same))
  same_head (AdminHead moment len) EndHead first second same = absurd (omega (arith, first_byte _ _ same))
  same_head EndHead (PacketHead who' moment' len') first second same = absurd (omega (arith, first_byte _ _ same))
  same_head EndHead (FlushHead ts') first second same = absurd (omega (arith, first_byte _ _ same))
  same_head EndHead (AdminHead moment' len') first second same = absurd (omega (arith, first_byte _ _ same))

  -- two first lines at the start of bytes are one
  pub same_prefix : (bytes : List ℕ) (a b : Head) (rest other : List ℕ) → IsForm receivers a → IsForm receivers b → bytes ≡ head_line a ++ 10 ∷ rest → bytes ≡ head_line b ++ 10 ∷ other → (a ≡ b) × (rest ≡ other)
  same_prefix bytes a b rest other first second one two =
      let cut = same_cut 10 (head_line a) rest (head_line b) other (Lacks-line a first) (Lacks-line b second) (sym one ∙ two) in
      (same_head a b first second cut.0, cut.1)

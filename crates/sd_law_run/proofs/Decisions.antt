-- What stands next in bytes can be told, but where they don't decide it.
use Rattle.std.proofs.Common.{◌≡◌, ◌≢◌, ◌⊎◌, ℕ, ◌+◌, ◌^◌, ◌<◌, ◌≤◌, Bool, true, false, Option, Some, None, List, [], ◌∷◌, ◌++◌, length, get_or, take, drop, decimal, refl, sym, ap, subst, ◌∙◌, arith, inl, inr, append_assoc, length-take}
use Rattle.std.specs.Char.{is_ascii_digit}
use Rattle.std.specs.List.{list_all}
use Rattle.std.specs.Str.Parse.{digits_value}
use Rattle.std.proofs.lemmas.Bool.{cases_lt, cases_eq}
use Rattle.std.proofs.lemmas.Fmt.{decimal_injective}
use Rattle.std.proofs.lemmas.List.{get_or-take}
use Rattle.sd_model_text.specs.Lists.{Lacks}
use Rattle.sd_model_text.proofs.Cuts.{same_cut}
use Rattle.sd_model_text.proofs.Digits.{Lacks-decimal}
use Rattle.sd_model_outside.specs.Outside.{Content, IsAtEnd}
use Rattle.sd_model_replay.specs.Script.{Head, PacketHead, FlushHead, AdminHead, EndHead, Body, head_line, body_of, IsReceiver, IsMoment, IsForm, BadWord, BadLength, CutShort, Next, Faulty, HasBody, IsWrong, IsUndecided, Begins}
use Rattle.sd_script.specs.Next.{IsWhole}
use Rattle.sd_model_replay.proofs.LineLemmas.{Lacks-cons, uncut, first_byte}
use Rattle.sd_script.proofs.NextLemmas.{whole_next, body_stands, line_stands, begins_before}
use Rattle.sd_model_replay.proofs.Numbers.{IsWritten, IsWritten-from, number_written}
use Rattle.sd_model_replay.proofs.Short.{IsOver, IsCount, IsPart}

-- a list that is cut at the first of a byte
record Split (byte : ℕ) (xs : List ℕ) : Type 0 where
  part : List ℕ
  rest : List ℕ
  whole : xs ≡ part ++ byte ∷ rest
  first : Lacks byte part

split_more : (byte x : ℕ) (xs : List ℕ) → (x ≡ byte) ⊎ (x ≡ byte → ⊥) → Split byte xs ⊎ Lacks byte xs → Split byte (x ∷ xs) ⊎ Lacks byte (x ∷ xs)
split_more byte x xs (inl same) behind = inl (record { part = []; rest = xs; whole = ap (λ y. y ∷ xs) same; first = λ k inside. absurd (omega (arith, inside)) })
split_more byte x xs (inr other) (inl s) = inl (record { part = x ∷ s.part; rest = s.rest; whole = ap (λ ys. x ∷ ys) s.whole; first = Lacks-cons byte x s.part other s.first })
split_more byte x xs (inr other) (inr lacks) = inr (Lacks-cons byte x xs other lacks)

split_or_lacks : (byte : ℕ) (xs : List ℕ) → Split byte xs ⊎ Lacks byte xs
split_or_lacks byte [] = inr (λ k inside. absurd (omega (arith, inside)))
split_or_lacks byte (x ∷ xs) = split_more byte x xs (cases_eq x byte) (split_or_lacks byte xs)

-- the number that a text is, if it is that of one of at most so many digits
module _ (ds : List ℕ) (most : ℕ) (some : 0 < most) (few : most ≤ 18) where
  abbrev OfNumber : Type 0
  OfNumber = (n : ℕ) × (n < 10 ^ most) × (ds ≡ decimal n)

  abbrev OfNone : Type 0
  OfNone = (n : ℕ) → n < 10 ^ most → ds ≢ decimal n

  unwritten : (IsWritten ds most → ⊥) → OfNumber ⊎ OfNone
  unwritten other = inr (λ n fits same. other (IsWritten-from ds most n some few fits same))

  no_leading_zero : (get_or ds 0 0 ≡ 48 → length ds ≤ 1) ⊎ ((get_or ds 0 0 ≡ 48 → length ds ≤ 1) → ⊥)
  no_leading_zero = elim (cases_lt 1 (length ds)) [
    | inr short ↦ inl (λ zero. short)
    | inl long ↦ elim (cases_eq (get_or ds 0 0) 48) [
      | inl leading ↦ inr (λ fits. let one = fits leading in omega arith)
      | inr other ↦ inl (λ leading. absurd (other leading))
    ]
  ]

  by_digits : (b : Bool) → list_all is_ascii_digit ds ≡ b → 0 < length ds → length ds ≤ most → (get_or ds 0 0 ≡ 48 → length ds ≤ 1) → OfNumber ⊎ OfNone
  by_digits true digits one short first = let written = number_written ds most few digits one short first in inl (digits_value 10 ds, written.0, written.1)
  by_digits false other one short first = unwritten (λ w. let both : true ≡ false = sym w.digits ∙ other in absurd (cc))

  number_or_none : OfNumber ⊎ OfNone
  number_or_none = elim (cases_lt 0 (length ds)) [
    | inr empty ↦ unwritten (λ w. omega (arith, w.some, empty))
    | inl one ↦ elim (cases_lt most (length ds)) [
      | inl long ↦ unwritten (λ w. omega (arith, w.short, long))
      | inr short ↦ elim no_leading_zero [
        | inl first ↦ by_digits (list_all is_ascii_digit ds) refl one short first
        | inr other ↦ unwritten (λ w. other w.first)
      ]
    ]
  ]

-- a moment and a number of bytes
abbrev OfBoth : List ℕ → Type 0
OfBoth fields = (moment : ℕ) × (len : ℕ) × IsMoment moment × IsCount len × (fields ≡ decimal moment ++ 32 ∷ decimal len)

abbrev OfNeither : List ℕ → Type 0
OfNeither fields = (moment len : ℕ) → IsMoment moment → IsCount len → fields ≢ decimal moment ++ 32 ∷ decimal len

both_split : (fields : List ℕ) → Split 32 fields → OfBoth fields ⊎ OfNeither fields
both_split fields s = by_numbers (number_or_none s.part 18 (omega arith) (omega arith)) (number_or_none s.rest 5 (omega arith) (omega arith)) where
  cut : (moment len : ℕ) → IsMoment moment → fields ≡ decimal moment ++ 32 ∷ decimal len → (s.part ≡ decimal moment) × (s.rest ≡ decimal len)
  cut moment len fits same = same_cut 32 s.part s.rest (decimal moment) (decimal len) s.first (Lacks-decimal 32 moment (omega arith) (omega (arith, fits))) (sym s.whole ∙ same)

  by_numbers : OfNumber s.part 18 (omega arith) (omega arith) ⊎ OfNone s.part 18 (omega arith) (omega arith) → OfNumber s.rest 5 (omega arith) (omega arith) ⊎ OfNone s.rest 5 (omega arith) (omega arith) → OfBoth fields ⊎ OfNeither fields
  by_numbers (inr none) second = inr (λ moment len fits count same. none moment fits (cut moment len fits same).0)
  by_numbers (inl one) (inr none) = inr (λ moment len fits count same. none len count (cut moment len fits same).1)
  by_numbers (inl (moment, fits, first)) (inl (len, count, second)) = inl (moment, len, fits, count, s.whole ∙ ap (λ xs. xs ++ 32 ∷ s.rest) first ∙ ap (λ xs. decimal moment ++ 32 ∷ xs) second)

both_or_neither : (fields : List ℕ) → OfBoth fields ⊎ OfNeither fields
both_or_neither fields = elim (split_or_lacks 32 fields) [
  | inl s ↦ both_split fields s
  | inr lacks ↦ inr (λ moment len fits count same. uncut 32 fields (decimal moment) (decimal len) lacks same)
]

space_or_none : (xs : List ℕ) → ((fields : List ℕ) × (xs ≡ 32 ∷ fields)) ⊎ ((fields : List ℕ) → xs ≢ 32 ∷ fields)
space_or_none [] = inr (λ fields same. absurd (omega (arith, ap length same)))
space_or_none (x ∷ xs) = elim (cases_eq x 32) [
  | inl same ↦ inl (xs, ap (λ y. y ∷ xs) same)
  | inr other ↦ inr (λ fields same. other (first_byte (x ∷ xs) (32 ∷ fields) same))
]

module _ (receivers : ℕ) where
  -- the form of a first line, if it has one
  abbrev OfForm : List ℕ → Type 0
  OfForm line = (head : Head) × IsForm receivers head × (line ≡ head_line head)

  abbrev OfNoForm : List ℕ → Type 0
  OfNoForm line = (head : Head) → IsForm receivers head → line ≢ head_line head

  abbrev OfThree : List ℕ → Type 0
  OfThree fields = (who : ℕ) × IsReceiver receivers who × ((rest : List ℕ) × (fields ≡ decimal who ++ 32 ∷ rest) × OfBoth rest)

  abbrev OfNoThree : List ℕ → Type 0
  OfNoThree fields = (who moment len : ℕ) → IsForm receivers (PacketHead who moment len) → fields ≢ decimal who ++ 32 ∷ (decimal moment ++ 32 ∷ decimal len)

  three_split : (fields : List ℕ) → Split 32 fields → OfThree fields ⊎ OfNoThree fields
  three_split fields s = by_number (number_or_none s.part 2 (omega arith) (omega arith)) (both_or_neither s.rest) where
    cut : (who moment len : ℕ) → who < 10 ^ 2 → fields ≡ decimal who ++ 32 ∷ (decimal moment ++ 32 ∷ decimal len) → (s.part ≡ decimal who) × (s.rest ≡ decimal moment ++ 32 ∷ decimal len)
    cut who moment len fits same = same_cut 32 s.part s.rest (decimal who) (decimal moment ++ 32 ∷ decimal len) s.first (Lacks-decimal 32 who (omega arith) (omega (arith, fits))) (sym s.whole ∙ same)

    by_receiver : (who : ℕ) → who < 10 ^ 2 → s.part ≡ decimal who → OfBoth s.rest → (who < receivers) ⊎ (receivers ≤ who) → OfThree fields ⊎ OfNoThree fields
    by_receiver who fits first both (inl below) = inl (who, (below, fits), (s.rest, s.whole ∙ ap (λ xs. xs ++ 32 ∷ s.rest) first, both))
    by_receiver who fits first both (inr above) = inr (λ who' moment len form same. absurd (too_great who' moment len form same)) where
      too_great : (who' moment len : ℕ) → IsForm receivers (PacketHead who' moment len) → fields ≡ decimal who' ++ 32 ∷ (decimal moment ++ 32 ∷ decimal len) → ⊥
      too_great who' moment len form same =
          let one = decimal_injective who who' (omega (arith, fits)) (omega (arith, form.0.1)) (sym first ∙ (cut who' moment len form.0.1 same).0) in
          omega (arith, one, above, form.0.0)

    by_number : OfNumber s.part 2 (omega arith) (omega arith) ⊎ OfNone s.part 2 (omega arith) (omega arith) → OfBoth s.rest ⊎ OfNeither s.rest → OfThree fields ⊎ OfNoThree fields
    by_number (inr none) second = inr (λ who moment len form same. none who form.0.1 (cut who moment len form.0.1 same).0)
    by_number (inl one) (inr none) = inr (λ who moment len form same. none moment len form.1 form.2 (cut who moment len form.0.1 same).1)
    by_number (inl (who, fits, first)) (inl both) = by_receiver who fits first both (cases_lt who receivers)

  three_or_none : (fields : List ℕ) → OfThree fields ⊎ OfNoThree fields
  three_or_none fields = elim (split_or_lacks 32 fields) [
    | inl s ↦ three_split fields s
    | inr lacks ↦ inr (λ who moment len form same. uncut 32 fields (decimal who) (decimal moment ++ 32 ∷ decimal len) lacks same)
  ]

  -- by the first letter
  packet_only : (xs : List ℕ) → ((who moment len : ℕ) → IsForm receivers (PacketHead who moment len) → xs ≢ 32 ∷ (decimal who ++ 32 ∷ (decimal moment ++ 32 ∷ decimal len))) → OfNoForm (80 ∷ xs)
  packet_only xs none (PacketHead who moment len) form same = none who moment len form (ap (drop 1) same ∙ ap (λ ys. 32 ∷ ys) (append_assoc (decimal who) (32 ∷ decimal moment) (32 ∷ decimal len)))
  packet_only xs none (FlushHead ts) form same = absurd (omega (arith, first_byte _ _ same))
  packet_only xs none (AdminHead moment len) form same = absurd (omega (arith, first_byte _ _ same))
  packet_only xs none EndHead form same = absurd (omega (arith, first_byte _ _ same))

  flush_only : (xs : List ℕ) → ((ts : ℕ) → IsMoment ts → xs ≢ 32 ∷ decimal ts) → OfNoForm (70 ∷ xs)
  flush_only xs none (FlushHead ts) form same = none ts form (ap (drop 1) same)
  flush_only xs none (PacketHead who moment len) form same = absurd (omega (arith, first_byte _ _ same))
  flush_only xs none (AdminHead moment len) form same = absurd (omega (arith, first_byte _ _ same))
  flush_only xs none EndHead form same = absurd (omega (arith, first_byte _ _ same))

  admin_only : (xs : List ℕ) → ((moment len : ℕ) → IsMoment moment → IsCount len → xs ≢ 32 ∷ (decimal moment ++ 32 ∷ decimal len)) → OfNoForm (65 ∷ xs)
  admin_only xs none (AdminHead moment len) form same = none moment len form.0 form.1 (ap (drop 1) same)
  admin_only xs none (PacketHead who moment len) form same = absurd (omega (arith, first_byte _ _ same))
  admin_only xs none (FlushHead ts) form same = absurd (omega (arith, first_byte _ _ same))
  admin_only xs none EndHead form same = absurd (omega (arith, first_byte _ _ same))

  end_only : (xs : List ℕ) → (xs ≡ [] → ⊥) → OfNoForm (69 ∷ xs)
  end_only xs none EndHead form same = none (ap (drop 1) same)
  end_only xs none (PacketHead who moment len) form same = absurd (omega (arith, first_byte _ _ same))
  end_only xs none (FlushHead ts) form same = absurd (omega (arith, first_byte _ _ same))
  end_only xs none (AdminHead moment len) form same = absurd (omega (arith, first_byte _ _ same))

  other_only : (line : List ℕ) → (get_or line 0 0 ≢ 80) → (get_or line 0 0 ≢ 70) → (get_or line 0 0 ≢ 65) → (get_or line 0 0 ≢ 69) → OfNoForm line
  other_only line p f a e (PacketHead who moment len) form same = p (first_byte _ _ same)
  other_only line p f a e (FlushHead ts) form same = f (first_byte _ _ same)
  other_only line p f a e (AdminHead moment len) form same = a (first_byte _ _ same)
  other_only line p f a e EndHead form same = e (first_byte _ _ same)

  packet_line : (xs : List ℕ) → OfForm (80 ∷ xs) ⊎ OfNoForm (80 ∷ xs)
  packet_line xs = elim (space_or_none xs) [
    | inr none ↦ inr (packet_only xs (λ who moment len form same. none _ same))
    | inl (fields, is) ↦ elim (three_or_none fields) [
      | inl (who, receiver, (rest, first, (moment, len, fits, count, both))) ↦ inl (
        PacketHead who moment len,
        (receiver, fits, count),
        ap (λ ys. 80 ∷ ys) is ∙ ap (λ ys. 80 ∷ 32 ∷ ys) (first ∙ ap (λ ys. decimal who ++ 32 ∷ ys) both ∙ sym (append_assoc (decimal who) (32 ∷ decimal moment) (32 ∷ decimal len))),
      )
      | inr none ↦ inr (packet_only xs (λ who moment len form same. none who moment len form (ap (drop 1) (sym is ∙ same))))
    ]
  ]

  flush_line : (xs : List ℕ) → OfForm (70 ∷ xs) ⊎ OfNoForm (70 ∷ xs)
  flush_line xs = elim (space_or_none xs) [
    | inr none ↦ inr (flush_only xs (λ ts fits same. none (decimal ts) same))
    | inl (fields, is) ↦ elim (number_or_none fields 18 (omega arith) (omega arith)) [
      | inl (ts, fits, same) ↦ inl (FlushHead ts, fits, ap (λ ys. 70 ∷ ys) (is ∙ ap (λ ys. 32 ∷ ys) same))
      | inr none ↦ inr (flush_only xs (λ ts fits same. none ts fits (ap (drop 1) (sym is ∙ same))))
    ]
  ]

  admin_line : (xs : List ℕ) → OfForm (65 ∷ xs) ⊎ OfNoForm (65 ∷ xs)
  admin_line xs = elim (space_or_none xs) [
    | inr none ↦ inr (admin_only xs (λ moment len fits count same. none (decimal moment ++ 32 ∷ decimal len) same))
    | inl (fields, is) ↦ elim (both_or_neither fields) [
      | inl (moment, len, fits, count, same) ↦ inl (AdminHead moment len, (fits, count), ap (λ ys. 65 ∷ ys) (is ∙ ap (λ ys. 32 ∷ ys) same))
      | inr none ↦ inr (admin_only xs (λ moment len fits count same. none moment len fits count (ap (drop 1) (sym is ∙ same))))
    ]
  ]

  end_line : (xs : List ℕ) → OfForm (69 ∷ xs) ⊎ OfNoForm (69 ∷ xs)
  end_line [] = inl (EndHead, tt, refl)
  end_line (x ∷ xs) = inr (end_only (x ∷ xs) (λ same. absurd (omega (arith, ap length same))))

  line_of_letter : (x letter : ℕ) (xs : List ℕ) → x ≡ letter → OfForm (letter ∷ xs) ⊎ OfNoForm (letter ∷ xs) → OfForm (x ∷ xs) ⊎ OfNoForm (x ∷ xs)
  line_of_letter x letter xs same so = subst (λ l. OfForm (l ∷ xs) ⊎ OfNoForm (l ∷ xs)) (sym same) so

  form_or_none : (line : List ℕ) → OfForm line ⊎ OfNoForm line
  form_or_none [] = inr (other_only [] (λ same. absurd (omega (arith, same))) (λ same. absurd (omega (arith, same))) (λ same. absurd (omega (arith, same))) (λ same. absurd (omega (arith, same))))
  form_or_none (x ∷ xs) = elim (cases_eq x 80) [
    | inl p ↦ line_of_letter x 80 xs p (packet_line xs)
    | inr p ↦ elim (cases_eq x 70) [
      | inl f ↦ line_of_letter x 70 xs f (flush_line xs)
      | inr f ↦ elim (cases_eq x 65) [
        | inl a ↦ line_of_letter x 65 xs a (admin_line xs)
        | inr a ↦ elim (cases_eq x 69) [
          | inl e ↦ line_of_letter x 69 xs e (end_line xs)
          | inr e ↦ inr (other_only (x ∷ xs) p f a e)
        ]
      ]
    ]
  ]

-- what a body is, by the bytes that stand there
abbrev OfBody : Body → List ℕ → Type 0
OfBody body rest = IsOver body rest ⊎ IsPart body rest ⊎ IsWrong body rest ⊎ IsWhole body rest

module _ (len most : ℕ) (rest : List ℕ) (within : len ≤ most) (inside : len < length rest) (newline : get_or rest len 0 ≡ 10) where
  fits : (is_line : Bool) → OfBody (record { len = len; most = most; is_line = is_line }) rest
  fits false = inr (inr (inr (within, inside, newline, λ on. absurd (cc))))
  fits true = elim (split_or_lacks 10 (take len rest)) [
    | inl s ↦ inr (inr (inl (within, inside, inr (refl, λ lacks. uncut 10 (take len rest) s.part s.rest lacks s.whole))))
    | inr lacks ↦ inr (inr (inr (within, inside, newline, λ on. lacks)))
  ]

body_so : (len most : ℕ) (is_line : Bool) (rest : List ℕ) → OfBody (record { len = len; most = most; is_line = is_line }) rest
body_so len most is_line rest = elim (cases_lt most len) [
  | inl over ↦ inl over
  | inr within ↦ elim (cases_lt len (length rest)) [
    | inr short ↦ inr (inl (within, short))
    | inl inside ↦ elim (cases_eq (get_or rest len 0) 10) [
      | inl newline ↦ fits len most rest within inside newline is_line
      | inr other ↦ inr (inr (inl (within, inside, inl other)))
    ]
  ]
]

module _ (receivers : ℕ) (bytes : List ℕ) where
  abbrev Decided : Type 0
  Decided = IsUndecided receivers bytes ⊎ ((next : Next) × ((left : Content) → Begins receivers next bytes left))

  by_body : (body : Body) (rest : List ℕ) (whole : Next) → ((IsSo : Body → List ℕ → Type 0) → IsSo body rest → HasBody receivers IsSo bytes) → (IsWhole body rest → (left : Content) → Begins receivers whole bytes left) → OfBody body rest → Decided
  by_body body rest whole has stands (inl over) = inr (Faulty BadLength, λ left. inl (has IsOver over))
  by_body body rest whole has stands (inr (inl part)) = inl (inr (has IsPart part))
  by_body body rest whole has stands (inr (inr (inl wrong))) = inr (Faulty BadLength, λ left. inr (has IsWrong wrong))
  by_body body rest whole has stands (inr (inr (inr is))) = inr (whole, stands is)

  by_head : (head : Head) (announced : Option Body) (rest : List ℕ) → body_of head ≡ announced → IsForm receivers head → bytes ≡ head_line head ++ 10 ∷ rest → Decided
  by_head head None rest none form whole =
      inr (whole_next head [], λ left. begins_before receivers (whole_next head []) bytes rest left (line_stands receivers head bytes rest none form whole))
  by_head head (Some body) rest some form whole =
      let next = whole_next head (take body.len rest) in
      by_body body rest next
      (λ IsSo so. record { head = head; body = body; rest = rest; form = form; whole = whole; announced = some; so = so })
      (λ is left. begins_before receivers next bytes (drop (body.len + 1) rest) left (body_stands receivers head body bytes rest some form whole is))
      (body_so body.len body.most body.is_line rest)

  pub decided : Decided
  decided = elim (split_or_lacks 10 bytes) [
    | inl s ↦ elim (form_or_none receivers s.part) [
      | inl (head, form, same) ↦ by_head head (body_of head) s.rest refl form (s.whole ∙ ap (λ xs. xs ++ 10 ∷ s.rest) same)
      | inr none ↦ inr (Faulty BadWord, λ left. inr (record { line = s.part; rest = s.rest; whole = s.whole; first = s.first; other = none }))
    ]
    | inr lacks ↦ elim (cases_lt (length bytes) 40) [
      | inl short ↦ inl (inl (lacks, short))
      | inr long ↦ inr (Faulty BadWord, λ left. inl ((λ k inside same. lacks k (omega (arith, inside, length-take 40 bytes)) (sym (get_or-take 40 bytes k 0 (omega (arith, inside, length-take 40 bytes))) ∙ same)), long))
    ]
  ]

  -- at the source's end they decide it
  pub decided_at_end : (left : Content) → IsAtEnd left → (next : Next) × Begins receivers next bytes left
  decided_at_end left end = elim decided [
    | inl cut ↦ (Faulty CutShort, (cut, end))
    | inr one ↦ (one.0, one.1 left)
  ]

-- A piece is read as a sample just where it is good.
use Rattle.std.proofs.Common.{◌≡◌, ℕ, ◌+◌, ◌<◌, ℤ, Bool, true, false, cond, not, ◌&&◌, List, [], ◌∷◌, ◌++◌, length, refl, sym, ap, ◌∙◌, subst, Option, Some, None, Result, Ok, Err, ok_or, unwrap_or, is_some, nat_lt, arith, append-nil}
use Rattle.std.specs.Cmp.Lexicographic.{same_text}
use Rattle.std.proofs.lemmas.Bool.Decides.{nat_tests}
use Rattle.sd_model_text.specs.Lists.{split, cut_at, Cut, ◌>>=◌}
use Rattle.sd_model_text.specs.Names.{Kind, Counter, Timer, Gauge, Set, KeyFault, clean}
use Rattle.sd_model_text.specs.Numbers.{NumberFlaw}
use Rattle.sd_model_text.specs.Lines.{Sample, Flaw, NoType, UnknownType, BadRate, NegativeTimer, LongMember, ExtraField, type_text, kind_named, typed, unless_so, field, value_of, rate_of, sample, is_below_zero, is_long_member, reading_behind, reading}
use Rattle.sd_law_text.specs.Bytes.{has_byte}
use Rattle.sd_law_text.specs.Grammar.{Good, IsPiece, third}
use Rattle.sd_model_text.proofs.ListLemmas.{split-cut, parts_of}
use Rattle.sd_law_text.proofs.CutLemmas.{has-cut, cut-leaves, cut-first, split-none, split-first}
use Rattle.sd_model_text.proofs.Short.{reading_cut, named, valued, is_over}

-- what a sample that was read has passed
record Passed (name : List ℕ) (fields : List (List ℕ)) (s : Sample) : Type 0 where
  pub kind : Kind
  pub v : ℤ
  pub rate : ℕ
  pub key : List ℕ
  pub type : typed (field 1 fields) ≡ Ok kind
  pub number : value_of kind (field 0 fields) ≡ Ok v
  pub weighed : rate_of (field 2 fields) ≡ Some rate
  pub above : is_below_zero kind v ≡ false
  pub cleaned : clean name ≡ Ok key
  pub short : is_long_member kind (field 0 fields) ≡ false
  pub whole : is_over fields ≡ false
  pub made : s ≡ sample kind key (field 0 fields) v rate

-- where a step leads on, it and the next one passed
both_passed : {A B : Type 0} (r : Result A Flaw) (f : A → Result B Flaw) (y : B) → (r >>= f) ≡ Ok y → (x : A) × (r ≡ Ok x) × (f x ≡ Ok y)
both_passed (Ok x) f y h = (x, refl, h)
both_passed (Err flaw) f y h = absurd (cc)

of_value : (n : Result ℤ NumberFlaw) (v : ℤ) → valued n ≡ Ok v → n ≡ Ok v
of_value (Ok w) v h = cc
of_value (Err flaw) v h = absurd (cc)

of_rate : (r : Option ℕ) (rate : ℕ) → ok_or r BadRate ≡ Ok rate → r ≡ Some rate
of_rate None rate h = absurd (cc)
of_rate (Some x) rate h = cc

of_key : (k : Result (List ℕ) KeyFault) (key : List ℕ) → named k ≡ Ok key → k ≡ Ok key
of_key (Ok x) key h = cc
of_key (Err fault) key h = absurd (cc)

of_test : (b : Bool) (flaw : Flaw) (u : Unit {0}) → unless_so b flaw ≡ Ok u → b ≡ false
of_test true flaw u h = absurd (cc)
of_test false flaw u h = refl

passed : (name : List ℕ) (fields : List (List ℕ)) (s : Sample) → reading_behind name fields ≡ Ok s → Passed name fields s
unfolding reading_behind
passed name fields s h =
    let a = both_passed (typed (field 1 fields)) _ s h in
    let b = both_passed (valued (value_of a.0 (field 0 fields))) _ s a.2 in
    let c = both_passed (ok_or (rate_of (field 2 fields)) BadRate) _ s b.2 in
    let d = both_passed (unless_so (is_below_zero a.0 b.0) NegativeTimer) _ s c.2 in
    let e = both_passed (named (clean name)) _ s d.2 in
    let f = both_passed (unless_so (is_long_member a.0 (field 0 fields)) LongMember) _ s e.2 in
    let g = both_passed (unless_so (is_over fields) ExtraField) _ s f.2 in
    record {
      kind = a.0;
      v = b.0;
      rate = c.0;
      key = e.0;
      type = a.1;
      number = of_value _ _ b.1;
      weighed = of_rate _ _ c.1;
      above = of_test _ _ _ d.1;
      cleaned = of_key _ _ e.1;
      short = of_test _ _ _ f.1;
      whole = of_test _ _ _ g.1;
      made = cc;
    }

-- what has passed is read
unpassed : (name : List ℕ) (fields : List (List ℕ)) (s : Sample) → Passed name fields s → reading_behind name fields ≡ Ok s
unfolding reading_behind
unpassed name fields s p = rw (p.type, p.number, p.weighed, p.above, p.cleaned, p.short, p.whole) (ap Ok (sym p.made))

-- the fields behind the type
abbrev rate_fields : Option (List ℕ) → List (List ℕ)
rate_fields None = []
rate_fields (Some text) = text ∷ []

type_lacks_bar : (kind : Kind) → has_byte 124 (type_text kind) ≡ false
type_lacks_bar Counter = refl
type_lacks_bar Timer = refl
type_lacks_bar Gauge = refl
type_lacks_bar Set = refl

type_fields : (kind : Kind) (rate_field : Option (List ℕ)) → has_byte 124 (unwrap_or rate_field []) ≡ false → split 124 (type_text kind ++ third rate_field) ≡ type_text kind ∷ rate_fields rate_field
type_fields kind None h = ap (split 124) (append-nil (type_text kind)) ∙ split-none 124 (type_text kind) (type_lacks_bar kind)
type_fields kind (Some text) h = split-first 124 (type_text kind) text (type_lacks_bar kind) ∙ ap (λ fields. type_text kind ∷ fields) (split-none 124 text h)

-- what stands behind the colon of a good piece, and its fields
record Behind (rest : List ℕ) (kind : Kind) : Type 0 where
  pub text : List ℕ
  pub rate_field : Option (List ℕ)
  pub spelled : rest ≡ text ++ 124 ∷ (type_text kind ++ third rate_field)
  pub no_bar : has_byte 124 text ≡ false
  pub last_field : has_byte 124 (unwrap_or rate_field []) ≡ false

good_fields : (rest : List ℕ) (kind : Kind) (b : Behind rest kind) → split 124 rest ≡ b.text ∷ type_text kind ∷ rate_fields b.rate_field
good_fields rest kind b =
    ap (split 124) b.spelled
    ∙ split-first 124 b.text (type_text kind ++ third b.rate_field) b.no_bar
    ∙ ap (λ fields. b.text ∷ fields) (type_fields kind b.rate_field b.last_field)

typed_type : (kind : Kind) → typed (type_text kind) ≡ Ok kind
typed_type Counter = refl
typed_type Timer = refl
typed_type Gauge = refl
typed_type Set = refl

third_field : (a b : List ℕ) (rate_field : Option (List ℕ)) → field 2 (a ∷ b ∷ rate_fields rate_field) ≡ unwrap_or rate_field []
third_field a b None = refl
third_field a b (Some text) = refl

not_over : (a b : List ℕ) (rate_field : Option (List ℕ)) → is_over (a ∷ b ∷ rate_fields rate_field) ≡ false
not_over a b None = refl
not_over a b (Some text) = refl

passes : (piece : List ℕ) (s : Sample) (g : Good piece s) → Passed g.name (g.text ∷ type_text g.kind ∷ rate_fields g.rate_field) s
passes piece s g =
    record {
      kind = g.kind;
      v = g.v;
      rate = g.rate;
      key = g.key;
      type = typed_type g.kind;
      number = g.number;
      weighed = ap rate_of (third_field g.text (type_text g.kind) g.rate_field) ∙ g.weighed;
      above = g.above;
      cleaned = g.cleaned;
      short = g.short;
      whole = not_over g.text (type_text g.kind) g.rate_field;
      made = g.made;
    }

-- a good piece is read as its sample
pub good-reading : (piece : List ℕ) (s : Sample) → Good piece s → reading piece ≡ Ok s
good-reading piece s g =
    let rest : List ℕ = g.text ++ 124 ∷ (type_text g.kind ++ third g.rate_field) in
    let behind : Behind rest g.kind = record { text = g.text; rate_field = g.rate_field; spelled = refl; no_bar = g.no_bar; last_field = g.last_field } in
    ap reading g.spelled
    ∙ ap reading_cut (cut-first 58 g.name rest g.one_colon)
    ∙ ap (reading_behind g.name) (good_fields rest g.kind behind)
    ∙ unpassed g.name (g.text ∷ type_text g.kind ∷ rate_fields g.rate_field) s (passes piece s g)

of_kind : (b : Bool) (first : Kind) (others : Option Kind) (x : List ℕ) (kind : Kind) → cond b (Some first) others ≡ Some kind → (b ≡ true → x ≡ type_text first) → (others ≡ Some kind → x ≡ type_text kind) → x ≡ type_text kind
of_kind true first others x kind h is inner = is refl ∙ ap type_text cc
of_kind false first others x kind h is inner = inner h

named_kind : (x : List ℕ) (kind : Kind) → kind_named x ≡ Some kind → x ≡ type_text kind
named_kind x kind h =
    of_kind _ Counter _ x kind h (λ is. same_text x (type_text Counter) (sym is)) (λ h.
    of_kind _ Timer _ x kind h (λ is. same_text x (type_text Timer) (sym is)) (λ h.
    of_kind _ Gauge _ x kind h (λ is. same_text x (type_text Gauge) (sym is)) (λ h.
    of_kind _ Set _ x kind h (λ is. same_text x (type_text Set) (sym is)) (λ h. absurd (cc)))))

found : (kind : Option Kind) (k : Kind) → ok_or kind UnknownType ≡ Ok k → kind ≡ Some k
found None k h = absurd (cc)
found (Some kind) k h = cc

typed_is : (x : List ℕ) (kind : Kind) → typed x ≡ Ok kind → x ≡ type_text kind
typed_is [] kind h = absurd (cc)
typed_is (b ∷ bytes) kind h = named_kind (b ∷ bytes) kind (found (kind_named (b ∷ bytes)) kind h)

no_type : (type : List ℕ) (kind : Kind) → type ≡ [] → typed type ≡ Ok kind → ⊥
no_type type kind none h = let bad : Err NoType ≡ Ok kind = ap typed (sym none) ∙ h in cc

-- there is at least one part
some_parts : (s : ℕ) (xs : List ℕ) (c : Option Cut) → 0 < length (parts_of s xs c)
some_parts s xs None = omega arith
some_parts s xs (Some c) = omega arith

too_many : (a b c : List ℕ) (fields : List (List ℕ)) → 0 < length fields → nat_lt 3 (length (a ∷ b ∷ c ∷ fields)) ≡ false → ⊥
too_many a b c fields some few = grind (arith, nat_tests)

by_third : (rest : List ℕ) (kind : Kind) (a b : Cut) (c : Option Cut) → cut_at 124 rest ≡ Some a → cut_at 124 a.rest ≡ Some b → cut_at 124 b.rest ≡ c → typed b.part ≡ Ok kind → nat_lt 3 (length (a.part ∷ b.part ∷ parts_of 124 b.rest c)) ≡ false → Behind rest kind
by_third rest kind a b None ha hb hc type few =
    let first = cut-leaves 124 rest a ha in
    let second = cut-leaves 124 a.rest b hb in
    record {
      text = a.part;
      rate_field = Some b.rest;
      spelled = first.spelled ∙ ap (λ xs. a.part ++ 124 ∷ xs) (second.spelled ∙ ap (λ xs. xs ++ 124 ∷ b.rest) (typed_is b.part kind type));
      no_bar = first.first;
      last_field = has-cut 124 b.rest ∙ ap is_some hc;
    }
by_third rest kind a b (Some c) ha hb hc type few =
    absurd (too_many a.part b.part c.part (split 124 c.rest) (subst (λ xs. 0 < length xs) (sym (split-cut 124 c.rest)) (some_parts 124 c.rest (cut_at 124 c.rest))) few)

by_second : (rest : List ℕ) (kind : Kind) (a : Cut) (b : Option Cut) → cut_at 124 rest ≡ Some a → cut_at 124 a.rest ≡ b → typed (field 0 (parts_of 124 a.rest b)) ≡ Ok kind → nat_lt 3 (length (a.part ∷ parts_of 124 a.rest b)) ≡ false → Behind rest kind
by_second rest kind a None ha hb type few =
    let first = cut-leaves 124 rest a ha in
    record {
      text = a.part;
      rate_field = None;
      spelled = first.spelled ∙ ap (λ xs. a.part ++ 124 ∷ xs) (typed_is a.rest kind type ∙ sym (append-nil (type_text kind)));
      no_bar = first.first;
      last_field = refl;
    }
by_second rest kind a (Some b) ha hb type few =
    by_third rest kind a b (cut_at 124 b.rest) ha hb refl type (ap (λ xs. nat_lt 3 (length (a.part ∷ b.part ∷ xs))) (sym (split-cut 124 b.rest)) ∙ few)

by_first : (rest : List ℕ) (kind : Kind) (a : Option Cut) → cut_at 124 rest ≡ a → typed (field 1 (parts_of 124 rest a)) ≡ Ok kind → nat_lt 3 (length (parts_of 124 rest a)) ≡ false → Behind rest kind
by_first rest kind None ha type few = absurd (no_type [] kind refl type)
by_first rest kind (Some a) ha type few =
    by_second rest kind a (cut_at 124 a.rest) ha refl
    (ap (λ xs. typed (field 1 (a.part ∷ xs))) (sym (split-cut 124 a.rest)) ∙ type)
    (ap (λ xs. nat_lt 3 (length (a.part ∷ xs))) (sym (split-cut 124 a.rest)) ∙ few)

shape : (rest : List ℕ) (kind : Kind) → typed (field 1 (split 124 rest)) ≡ Ok kind → nat_lt 3 (length (split 124 rest)) ≡ false → Behind rest kind
shape rest kind type few =
    by_first rest kind (cut_at 124 rest) refl
    (ap (λ xs. typed (field 1 xs)) (sym (split-cut 124 rest)) ∙ type)
    (ap (λ xs. nat_lt 3 (length xs)) (sym (split-cut 124 rest)) ∙ few)

good_from : (piece name rest : List ℕ) (s : Sample) → piece ≡ name ++ 58 ∷ rest → has_byte 58 name ≡ false → has_byte 58 rest ≡ false → Passed name (split 124 rest) s → Good piece s
good_from piece name rest s spelled first alone p =
    let b = shape rest p.kind p.type p.whole in
    let fields = good_fields rest p.kind b in
    let value : field 0 (split 124 rest) ≡ b.text = ap (field 0) fields in
    record {
      name = name;
      text = b.text;
      kind = p.kind;
      rate_field = b.rate_field;
      key = p.key;
      v = p.v;
      rate = p.rate;
      spelled = spelled ∙ ap (λ xs. name ++ 58 ∷ xs) b.spelled;
      one_colon = first;
      no_colon = ap (has_byte 58) (sym b.spelled) ∙ alone;
      no_bar = b.no_bar;
      last_field = b.last_field;
      cleaned = p.cleaned;
      number = ap (value_of p.kind) (sym value) ∙ p.number;
      weighed = ap rate_of (sym (third_field b.text (type_text p.kind) b.rate_field)) ∙ ap (λ xs. rate_of (field 2 xs)) (sym fields) ∙ p.weighed;
      above = p.above;
      short = ap (is_long_member p.kind) (sym value) ∙ p.short;
      made = p.made ∙ ap (λ text. sample p.kind p.key text p.v p.rate) value;
    }

by_cut : (piece : List ℕ) (c : Option Cut) (s : Sample) → cut_at 58 piece ≡ c → has_byte 58 (unwrap_or c (record { part = piece; rest = [] })).rest ≡ false → reading_cut c ≡ Ok s → Good piece s
by_cut piece None s is alone h = absurd (cc)
by_cut piece (Some c) s is alone h =
    let cut = cut-leaves 58 piece c is in
    good_from piece c.part c.rest s cut.spelled cut.first alone (passed c.part (split 124 c.rest) s h)

-- what is read as a sample is good
pub reading-good : (piece : List ℕ) (s : Sample) → IsPiece piece → reading piece ≡ Ok s → Good piece s
reading-good piece s alone h = by_cut piece (cut_at 58 piece) s refl alone h

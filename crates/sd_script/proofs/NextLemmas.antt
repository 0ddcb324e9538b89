-- One thing stands next in bytes.
use Rattle.std.proofs.Common.{◌≡◌, ◌⊎◌, ℕ, ◌+◌, ◌<◌, ◌≤◌, List, [], ◌∷◌, ◌++◌, length, take, Option, Some, None, refl, sym, ap, subst, ◌∙◌, arith, inl, inr, append_assoc, append-nil, length-append, get_or, drop}
use Rattle.std.specs.Prelude.{Bool, true, false, IsTrue}
use Rattle.std.proofs.lemmas.List.{take_at, take-append-le, take-append-drop, drop_more, length-take-le, get_or_append_left}
use Rattle.sd_model_text.specs.Lists.{Lacks}
use Rattle.sd_model_text.proofs.Cuts.{same_cut, at_cut}
use Rattle.sd_model_outside.specs.Outside.{Content, Left}
use Rattle.sd_model_replay.specs.Script.{Head, PacketHead, FlushHead, AdminHead, EndHead, Body, head_line, body_of, IsForm, Packet, Flush, Admin, spelled, BadWord, BadLength, CutShort, Next, Executed, Ending, Faulty, HasNoForm, HasBody, IsWrong, IsUndecided, Begins}
use Rattle.sd_script.specs.Flaws.{IsPartOfLine}
use Rattle.sd_script.specs.Next.{IsWhole, next_text}
use Rattle.sd_model_replay.proofs.LineLemmas.{Lacks-line, length-line, same_prefix, uncut, newline_soon, longer}
use Rattle.sd_model_replay.proofs.Short.{HasNoLine, IsOver, IsMisfit, IsPart}

-- what stands next by a body, where this does if it is whole
abbrev pub BodyNext : Body → Next → List ℕ → Next → Type 0
BodyNext body whole rest next =
    (IsOver body rest × (next ≡ Faulty BadLength)) ⊎ (IsPart body rest × (next ≡ Faulty CutShort)) ⊎ (IsWrong body rest × (next ≡ Faulty BadLength)) ⊎ (IsWhole body rest × (next ≡ whole))

misfit : (body : Body) (rest : List ℕ) → IsMisfit body rest → IsWhole body rest → ⊥
misfit body rest (inl other) whole = other whole.2
misfit body rest (inr (on, holds)) whole = holds (whole.3 on)

one_body : (body : Body) (whole : Next) (rest : List ℕ) (a b : Next) → BodyNext body whole rest a → BodyNext body whole rest b → a ≡ b
one_body body whole rest a b (inl (o, s)) (inl (p, t)) = s ∙ sym t
one_body body whole rest a b (inl (o, s)) (inr (inl (p, t))) = absurd (omega (arith, o, p.0))
one_body body whole rest a b (inl (o, s)) (inr (inr (inl (p, t)))) = absurd (omega (arith, o, p.0))
one_body body whole rest a b (inl (o, s)) (inr (inr (inr (p, t)))) = absurd (omega (arith, o, p.0))
one_body body whole rest a b (inr (inl (o, s))) (inl (p, t)) = absurd (omega (arith, p, o.0))
one_body body whole rest a b (inr (inl (o, s))) (inr (inl (p, t))) = s ∙ sym t
one_body body whole rest a b (inr (inl (o, s))) (inr (inr (inl (p, t)))) = absurd (omega (arith, o.1, p.1))
one_body body whole rest a b (inr (inl (o, s))) (inr (inr (inr (p, t)))) = absurd (omega (arith, o.1, p.1))
one_body body whole rest a b (inr (inr (inl (o, s)))) (inl (p, t)) = absurd (omega (arith, p, o.0))
one_body body whole rest a b (inr (inr (inl (o, s)))) (inr (inl (p, t))) = absurd (omega (arith, p.1, o.1))
one_body body whole rest a b (inr (inr (inl (o, s)))) (inr (inr (inl (p, t)))) = s ∙ sym t
one_body body whole rest a b (inr (inr (inl (o, s)))) (inr (inr (inr (p, t)))) = absurd (misfit body rest o.2 p)
one_body body whole rest a b (inr (inr (inr (o, s)))) (inl (p, t)) = absurd (omega (arith, p, o.0))
one_body body whole rest a b (inr (inr (inr (o, s)))) (inr (inl (p, t))) = absurd (omega (arith, p.1, o.1))
one_body body whole rest a b (inr (inr (inr (o, s)))) (inr (inr (inl (p, t)))) = absurd (misfit body rest p.2 o)
one_body body whole rest a b (inr (inr (inr (o, s)))) (inr (inr (inr (p, t)))) = s ∙ sym t

-- What stands next where a first line is whole, and so is the body behind it: these bytes, if the line announces one.
abbrev pub whole_next : Head → List ℕ → Next
whole_next (PacketHead who moment len) bytes = Executed (Packet who moment bytes)
whole_next (FlushHead ts) bytes = Executed (Flush ts)
whole_next (AdminHead moment len) bytes = Executed (Admin moment bytes)
whole_next EndHead bytes = Ending

-- what stands next behind a first line that announces this body, or none
abbrev pub HeadNext : Head → Option Body → List ℕ → Next → Type 0
HeadNext head None rest next = next ≡ whole_next head []
HeadNext head (Some body) rest next = BodyNext body (whole_next head (take body.len rest)) rest next

one_behind : (head : Head) (announced : Option Body) (rest : List ℕ) (a b : Next) → HeadNext head announced rest a → HeadNext head announced rest b → a ≡ b
one_behind head None rest a b first second = first ∙ sym second
one_behind head (Some body) rest a b first second = one_body body (whole_next head (take body.len rest)) rest a b first second

text_parts : (text bytes rest : List ℕ) → text ++ 10 ∷ bytes ++ 10 ∷ [] ++ rest ≡ text ++ 10 ∷ (bytes ++ 10 ∷ rest)
text_parts text bytes rest = simp append_assoc

-- the bytes of a body, and the newline behind them
body_whole : (rest : List ℕ) (len : ℕ) → len < length rest → get_or rest len 0 ≡ 10 → rest ≡ take len rest ++ 10 ∷ drop (len + 1) rest
body_whole rest len inside newline =
    sym (take-append-drop len rest) ∙ ap (λ xs. take len rest ++ xs) (drop_more rest len 0 inside)
    ∙ ap (λ x. take len rest ++ x ∷ drop (len + 1) rest) newline

-- the text of a record with a body
text_of_body : (head : Head) (body : Body) (bytes : List ℕ) → body_of head ≡ Some body → length bytes ≡ body.len → next_text (whole_next head bytes) ≡ head_line head ++ 10 ∷ bytes ++ 10 ∷ []
text_of_body (PacketHead who moment len) body bytes announced long =
    let size : length bytes ≡ len = cc in ap (λ k. head_line (PacketHead who moment k) ++ 10 ∷ bytes ++ 10 ∷ []) size
text_of_body (AdminHead moment len) body bytes announced long =
    let size : length bytes ≡ len = cc in ap (λ k. head_line (AdminHead moment k) ++ 10 ∷ bytes ++ 10 ∷ []) size
text_of_body (FlushHead ts) body bytes announced long = absurd (cc)
text_of_body EndHead body bytes announced long = absurd (cc)

-- it is legal, where its first line has its form and its body is as it may be
begins_body : (receivers : ℕ) (head : Head) (body : Body) (bytes more : List ℕ) (left : Content) → body_of head ≡ Some body → IsForm receivers head → length bytes ≤ body.most → (IsTrue body.is_line → Lacks 10 bytes)
    → Begins receivers (whole_next head bytes) (next_text (whole_next head bytes) ++ more) left
begins_body receivers (PacketHead who moment len) body bytes more left announced form few lacks =
    let most : body.most ≡ 65507 = cc in ((form.0, form.1, omega (arith, few, most)), (more, refl))
begins_body receivers (AdminHead moment len) body bytes more left announced form few lacks =
    let most : body.most ≡ 1023 = cc in
    let line : body.is_line ≡ true = cc in
    ((form.0, omega (arith, few, most), lacks line), (more, refl))
begins_body receivers (FlushHead ts) body bytes more left announced form few lacks = absurd (cc)
begins_body receivers EndHead body bytes more left announced form few lacks = absurd (cc)

-- this stands at the start of bytes, and these stand behind its text
pub record StandsBefore (receivers : ℕ) (next : Next) (bytes behind : List ℕ) : Type 0 where
  pub begins : (more : List ℕ) (left : Content) → Begins receivers next (next_text next ++ more) left
  pub whole : bytes ≡ next_text next ++ behind

-- a first line with a whole body behind it
pub body_stands : (receivers : ℕ) (head : Head) (body : Body) (bytes rest : List ℕ) → body_of head ≡ Some body → IsForm receivers head → bytes ≡ head_line head ++ 10 ∷ rest → IsWhole body rest
    → StandsBefore receivers (whole_next head (take body.len rest)) bytes (drop (body.len + 1) rest)
body_stands receivers head body bytes rest announced form whole is =
    let inside = take body.len rest in
    let behind = drop (body.len + 1) rest in
    let long : length inside ≡ body.len = length-take-le body.len rest (omega (arith, is.1)) in
    record {
      begins = λ more left. begins_body receivers head body inside more left announced form (omega (arith, is.0, long)) is.3;
      whole =
          whole ∙ ap (λ xs. head_line head ++ 10 ∷ xs) (body_whole rest body.len is.1 is.2)
          ∙ sym (text_parts (head_line head) inside behind)
          ∙ ap (λ xs. xs ++ behind) (sym (text_of_body head body inside announced long));
    }

-- a first line that announces no body
pub line_stands : (receivers : ℕ) (head : Head) (bytes rest : List ℕ) → body_of head ≡ None → IsForm receivers head → bytes ≡ head_line head ++ 10 ∷ rest → StandsBefore receivers (whole_next head []) bytes rest
line_stands receivers (FlushHead ts) bytes rest announced form whole = record {
  begins = λ more left. (form, (more, refl));
  whole = whole ∙ sym (append_assoc (head_line (FlushHead ts)) (10 ∷ []) rest);
}
line_stands receivers EndHead bytes rest announced form whole = record { begins = λ more left. (more, refl); whole = whole }
line_stands receivers (PacketHead who moment len) bytes rest announced form whole = absurd (cc)
line_stands receivers (AdminHead moment len) bytes rest announced form whole = absurd (cc)

-- what stands at the start of bytes stands next in them
pub begins_before : (receivers : ℕ) (next : Next) (bytes behind : List ℕ) (left : Content) → StandsBefore receivers next bytes behind → Begins receivers next bytes left
begins_before receivers next bytes behind left h = subst (λ xs. Begins receivers next xs left) (sym h.whole) (h.begins behind left)

-- bytes before a newline are a whole body
whole_body : (most : ℕ) (is_line : Bool) (bytes rest : List ℕ) → length bytes ≤ most → (IsTrue is_line → Lacks 10 bytes) → IsWhole (record { len = length bytes; most = most; is_line = is_line }) (bytes ++ 10 ∷ rest)
whole_body most is_line bytes rest few lacks = (
  few,
  omega (arith, length-append bytes (10 ∷ rest)),
  at_cut 10 bytes rest,
  λ line. subst (Lacks 10) (sym (take_at bytes (10 ∷ rest) (length bytes) refl)) (lacks line),
)

module _ (receivers : ℕ) (bytes : List ℕ) where
  -- what stands next where the first line is of a form
  pub record Formed (next : Next) : Type 0 where
    pub head : Head
    pub rest : List ℕ
    pub form : IsForm receivers head
    pub whole : bytes ≡ head_line head ++ 10 ∷ rest
    pub so : HeadNext head (body_of head) rest next

  -- what stands next by what is seen of a first line
  abbrev pub Sight : Next → Type 0
  Sight next =
      (IsPartOfLine bytes × (next ≡ Faulty CutShort)) ⊎ (HasNoLine bytes × (next ≡ Faulty BadWord)) ⊎ (HasNoForm receivers bytes × (next ≡ Faulty BadWord)) ⊎ Formed next

  formed : (IsSo : Body → List ℕ → Type 0) (next : Next) → ((body : Body) (rest : List ℕ) (whole : Next) → IsSo body rest → BodyNext body whole rest next) → HasBody receivers IsSo bytes → Sight next
  formed IsSo next so h = inr (inr (inr (record {
    head = h.head;
    rest = h.rest;
    form = h.form;
    whole = h.whole;
    so = subst (λ (o : Option Body). HeadNext h.head o h.rest next) (sym h.announced) (so h.body h.rest (whole_next h.head (take h.body.len h.rest)) h.so);
  })))

  -- a record with a body
  seen_body : (head : Head) (most : ℕ) (is_line : Bool) (body rest : List ℕ) → body_of head ≡ Some (record { len = length body; most = most; is_line = is_line }) → IsForm receivers head
      → bytes ≡ head_line head ++ 10 ∷ body ++ 10 ∷ [] ++ rest → length body ≤ most → (IsTrue is_line → Lacks 10 body) → Sight (whole_next head body)
  seen_body head most is_line body rest announced form is few lacks =
      let prefix : take (length body) (body ++ 10 ∷ rest) ≡ body = take_at body (10 ∷ rest) (length body) refl in
      inr (inr (inr (record {
        head = head;
        rest = body ++ 10 ∷ rest;
        form = form;
        whole = is ∙ text_parts (head_line head) body rest;
        so =
            subst (λ (o : Option Body). HeadNext head o (body ++ 10 ∷ rest) (whole_next head body)) (sym announced)
            (inr (inr (inr (whole_body most is_line body rest few lacks, ap (whole_next head) (sym prefix)))));
      })))

  seen : (next : Next) (left : Content) → Begins receivers next bytes left → Sight next
  seen (Executed (Packet who moment datagram)) left (legal, (rest, is)) =
      seen_body (PacketHead who moment (length datagram)) 65507 false datagram rest refl (legal.0, legal.1, omega (arith, legal.2)) is legal.2 (λ on. absurd (cc))
  seen (Executed (Admin moment line)) left (legal, (rest, is)) =
      seen_body (AdminHead moment (length line)) 1023 true line rest refl (legal.0, omega (arith, legal.1)) is legal.1 (λ on. legal.2)
  seen (Executed (Flush ts)) left (legal, (rest, is)) = inr (inr (inr (record {
    head = FlushHead ts;
    rest = rest;
    form = legal;
    whole = is ∙ append_assoc (head_line (FlushHead ts)) (10 ∷ []) rest;
    so = refl;
  })))
  seen Ending left (rest, is) = inr (inr (inr (record { head = EndHead; rest = rest; form = tt; whole = is; so = refl })))
  seen (Faulty BadWord) left (inl none) = inr (inl (none, refl))
  seen (Faulty BadWord) left (inr none) = inr (inr (inl (none, refl)))
  seen (Faulty BadLength) left (inl h) = formed IsOver (Faulty BadLength) (λ body rest whole so. inl (so, refl)) h
  seen (Faulty BadLength) left (inr h) = formed IsWrong (Faulty BadLength) (λ body rest whole so. inr (inr (inl (so, refl)))) h
  seen (Faulty CutShort) left (inl part, end) = inl (part, refl)
  seen (Faulty CutShort) left (inr h, end) = formed IsPart (Faulty CutShort) (λ body rest whole so. inr (inl (so, refl))) h

  not_part : (next : Next) → IsPartOfLine bytes → (HasNoLine bytes ⊎ HasNoForm receivers bytes ⊎ Formed next) → ⊥
  not_part next part (inl none) = absurd (omega (arith, part.1, none.1))
  not_part next part (inr (inl none)) = uncut 10 bytes none.line none.rest part.0 none.whole
  not_part next part (inr (inr f)) = uncut 10 bytes (head_line f.head) f.rest part.0 f.whole

  no_line : (next : Next) → HasNoLine bytes → Formed next → ⊥
  no_line next none f = newline_soon bytes (head_line f.head) f.rest (length-line receivers f.head f.form) f.whole none.0

  no_form : (next : Next) → HasNoForm receivers bytes → Formed next → ⊥
  no_form next none f =
      let cut = same_cut 10 none.line none.rest (head_line f.head) f.rest none.first (Lacks-line receivers f.head f.form) (sym none.whole ∙ f.whole) in
      none.other f.head f.form cut.0

  one_form : (a b : Next) → Formed a → Formed b → a ≡ b
  one_form a b f g =
      let same = same_prefix receivers bytes f.head g.head f.rest g.rest f.form g.form f.whole g.whole in
      one_behind g.head (body_of g.head) g.rest a b (subst (λ (h : Head). HeadNext h (body_of h) g.rest a) same.0 (subst (λ r. HeadNext f.head (body_of f.head) r a) same.1 f.so)) g.so

  one_sight : (a b : Next) → Sight a → Sight b → a ≡ b
  one_sight a b (inl (o, s)) (inl (p, t)) = s ∙ sym t
  one_sight a b (inl (o, s)) (inr (inl (p, t))) = absurd (not_part b o (inl p))
  one_sight a b (inl (o, s)) (inr (inr (inl (p, t)))) = absurd (not_part b o (inr (inl p)))
  one_sight a b (inl (o, s)) (inr (inr (inr f))) = absurd (not_part b o (inr (inr f)))
  one_sight a b (inr (inl (o, s))) (inl (p, t)) = absurd (not_part a p (inl o))
  one_sight a b (inr (inl (o, s))) (inr (inl (p, t))) = s ∙ sym t
  one_sight a b (inr (inl (o, s))) (inr (inr (inl (p, t)))) = s ∙ sym t
  one_sight a b (inr (inl (o, s))) (inr (inr (inr f))) = absurd (no_line b o f)
  one_sight a b (inr (inr (inl (o, s)))) (inl (p, t)) = absurd (not_part a p (inr (inl o)))
  one_sight a b (inr (inr (inl (o, s)))) (inr (inl (p, t))) = s ∙ sym t
  one_sight a b (inr (inr (inl (o, s)))) (inr (inr (inl (p, t)))) = s ∙ sym t
  one_sight a b (inr (inr (inl (o, s)))) (inr (inr (inr f))) = absurd (no_form b o f)
  one_sight a b (inr (inr (inr f))) (inl (p, t)) = absurd (not_part a p (inr (inr f)))
  one_sight a b (inr (inr (inr f))) (inr (inl (p, t))) = absurd (no_line a p f)
  one_sight a b (inr (inr (inr f))) (inr (inr (inl (p, t)))) = absurd (no_form a p f)
  one_sight a b (inr (inr (inr f))) (inr (inr (inr g))) = one_form a b f g

  pub one_next : (a b : Next) (left other : Content) → Begins receivers a bytes left → Begins receivers b bytes other → a ≡ b
  one_next a b left other first second = one_sight a b (seen a left first) (seen b other second)

-- What stands next in bytes stands next in more of them.
module _ (receivers : ℕ) (bytes more : List ℕ) where
  body_stays : (IsSo : Body → List ℕ → Type 0) → ((body : Body) (rest : List ℕ) → IsSo body rest → IsSo body (rest ++ more)) → HasBody receivers IsSo bytes → HasBody receivers IsSo (bytes ++ more)
  body_stays IsSo stays h = record {
    head = h.head;
    body = h.body;
    rest = h.rest ++ more;
    form = h.form;
    whole = longer bytes (head_line h.head) h.rest more h.whole;
    announced = h.announced;
    so = stays h.body h.rest h.so;
  }

  misfit_stays : (body : Body) (rest : List ℕ) → body.len < length rest → IsMisfit body rest → IsMisfit body (rest ++ more)
  misfit_stays body rest inside (inl other) = inl (λ same. other (sym (get_or_append_left rest more 0 body.len inside) ∙ same))
  misfit_stays body rest inside (inr (on, holds)) = inr (on, subst (λ xs. ¬ Lacks 10 xs) (sym (take-append-le body.len rest more (omega (arith, inside)))) holds)

  wrong_stays : (body : Body) (rest : List ℕ) → IsWrong body rest → IsWrong body (rest ++ more)
  wrong_stays body rest h = (h.0, omega (arith, h.1, length-append rest more), misfit_stays body rest h.1 h.2)

  no_line_stays : HasNoLine bytes → HasNoLine (bytes ++ more)
  no_line_stays h = (subst (Lacks 10) (sym (take-append-le 40 bytes more h.1)) h.0, omega (arith, h.1, length-append bytes more))

  no_form_stays : HasNoForm receivers bytes → HasNoForm receivers (bytes ++ more)
  no_form_stays h = record { line = h.line; rest = h.rest ++ more; whole = longer bytes h.line h.rest more h.whole; first = h.first; other = h.other }

  -- where the source has these left
  pub next_stays : (next : Next) → Begins receivers next bytes (Left more) → Begins receivers next (bytes ++ more) (Left [])
  next_stays (Executed command) (legal, (rest, is)) = (legal, (rest ++ more, ap (λ xs. xs ++ more) is ∙ append_assoc (spelled command) rest more))
  next_stays Ending (rest, is) = (rest ++ more, ap (λ xs. xs ++ more) is)
  next_stays (Faulty BadWord) (inl none) = inl (no_line_stays none)
  next_stays (Faulty BadWord) (inr none) = inr (no_form_stays none)
  next_stays (Faulty BadLength) (inl h) = inl (body_stays IsOver (λ body rest so. so) h)
  next_stays (Faulty BadLength) (inr h) = inr (body_stays IsWrong wrong_stays h)
  next_stays (Faulty CutShort) (cut, end) = (subst (IsUndecided receivers) (sym (append-nil bytes) ∙ ap (λ xs. bytes ++ xs) (sym end)) cut, refl)

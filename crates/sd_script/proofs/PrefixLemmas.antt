-- What stands at the start of the bytes ahead.
use Rattle.std.proofs.Common.{◌≡◌, ◌≢◌, ◌⊎◌, ℕ, ◌+◌, ◌<◌, ◌≤◌, List, ◌∷◌, ◌++◌, Option, Some, length, get_or, take, drop, sym, ap, subst, ◌∙◌, inl, inr, arith, length-take}
use Rattle.std.specs.Prelude.{MatchOption}
use Rattle.std.proofs.lemmas.Option.{MatchOption-at_some}
use Rattle.std.proofs.lemmas.List.{get_or-take, take-append-drop, drop_more, drop-append-le}
use Rattle.sd_model_outside.specs.Outside.{Content, IsAtEnd}
use Rattle.sd_model_replay.specs.Script as model
use Rattle.sd_model_replay.specs.Script.{Body, head_line, body_of, IsForm, ScriptFlaw, BadWord, BadLength, CutShort, HasBody, IsWrong, IsUndecided, HasFlaw}
use Rattle.sd_model_replay.proofs.LineLemmas.{inside_cut, longer}
use Rattle.sd_script.specs.Ahead.{Grows}
use Rattle.sd_script.specs.Fields.{Lacks, IsFirstPlace}
use Rattle.sd_script.specs.Flaws.{HasLineFlaw, HasBodyFlaw}
use Rattle.sd_script.specs.Found.{BeginsWithLine}
use Rattle.sd_script.specs.Head.{head_of, IsLineOf}
use Rattle.sd_script.specs.declared.head.Head.{Head}
use Rattle.sd_model_replay.proofs.Short.{IsOver, IsPart}

-- bytes that are cut at their first newline
pub record Line (held : List ℕ) (end : ℕ) : Type 0 where
  pub whole : held ≡ take end held ++ 10 ∷ drop (end + 1) held
  pub first : Lacks 10 (take end held)
  pub inside : end < length held
  pub short : end < 40

Line-found : (held : List ℕ) (end : ℕ) → IsFirstPlace 10 (take 40 held) end → Line held end
Line-found held end found =
    let short : end < 40 = omega (arith, found.inside, length-take 40 held) in
    let inside : end < length held = omega (arith, found.inside, length-take 40 held) in
    let here : get_or held end 0 ≡ 10 = sym (get_or-take 40 held end 0 short) ∙ found.found in
    record {
      whole = sym (take-append-drop end held) ∙ ap (λ ys. take end held ++ ys) (drop_more held end 0 inside) ∙ ap (λ x. take end held ++ x ∷ drop (end + 1) held) here;
      first = λ k within same.
          let before : k < end = omega (arith, within, length-take end held) in
          found.before k before (get_or-take 40 held k 0 (omega arith) ∙ sym (get_or-take end held k 0 before) ∙ same);
      inside = inside;
      short = short;
    }

pub Line-of : (held : List ℕ) (place : Option ℕ) (end : ℕ) (P : Type 0) → place ≡ Some end → MatchOption place P (IsFirstPlace 10 (take 40 held)) → Line held end
Line-of held place end P is found = Line-found held end (MatchOption-at_some P (IsFirstPlace 10 (take 40 held)) end is found)

-- where no newline stands among the first bytes
pub line_flaw : (receivers : ℕ) (held : List ℕ) (content : Content) (flaw : ScriptFlaw) → HasLineFlaw held flaw → (40 ≤ length held) ⊎ IsAtEnd content → HasFlaw receivers flaw held content
line_flaw receivers held content BadWord none ended = inl none
line_flaw receivers held content BadLength none ended = absurd none
line_flaw receivers held content CutShort part (inl long) = absurd (omega (arith, part.1, long))
line_flaw receivers held content CutShort part (inr end) = (inl part, end)

-- where the first line is of no form
pub word_flaw : (receivers : ℕ) (held : List ℕ) (content : Content) (end : ℕ) → Line held end → ((head : model.Head) → IsForm receivers head → take end held ≢ head_line head) → HasFlaw receivers BadWord held content
word_flaw receivers held content end line other = inr (record { line = take end held; rest = drop (end + 1) held; whole = line.whole; first = line.first; other = other })

-- where it is of one
first_line : (receivers : ℕ) (held : List ℕ) (end : ℕ) (head : Head) → Line held end → take end held ≡ head_line (head_of head) → IsForm receivers (head_of head) → BeginsWithLine receivers head (end + 1) held
first_line receivers held end head line same form = record {
  form = form;
  size = omega (arith, ap length same, length-take end held, line.inside);
  whole = line.whole ∙ ap (λ xs. xs ++ 10 ∷ drop (end + 1) held) same;
}

-- it stays at the start while more is read
pub line_grown : (receivers : ℕ) (head : Head) (line : ℕ) (held new : List ℕ) → BeginsWithLine receivers head line held → Grows held new → BeginsWithLine receivers head line new
line_grown receivers head line held new prefix (more, grown) =
    let text = head_line (head_of head) in
    let inside : length text < length held = subst (λ xs. length text < length xs) (sym prefix.whole) (inside_cut 10 text (drop line held)) in
    record {
      form = prefix.form;
      size = prefix.size;
      whole =
          grown ∙ longer held text (drop line held) more prefix.whole
          ∙ ap (λ xs. text ++ 10 ∷ xs) (sym (drop-append-le line held more (omega (arith, prefix.size, inside))) ∙ ap (drop line) (sym grown));
    }

-- where it announces a body
module _ (receivers : ℕ) (head : Head) (line : ℕ) (held : List ℕ) (body : Body) (prefix : BeginsWithLine receivers head line held) (announced : body_of (head_of head) ≡ Some body) where
  has_body : (IsSo : Body → List ℕ → Type 0) → IsSo body (drop line held) → HasBody receivers IsSo held
  has_body IsSo so = record { head = head_of head; body = body; rest = drop line held; form = prefix.form; whole = prefix.whole; announced = announced; so = so }

  pub body_undecided : IsPart body (drop line held) → IsUndecided receivers held
  body_undecided part = inr (has_body IsPart part)

  pub flaw_of_body : (content : Content) (flaw : ScriptFlaw) → HasBodyFlaw body (drop line held) content flaw → HasFlaw receivers flaw held content
  flaw_of_body content BadWord h = absurd h
  flaw_of_body content BadLength (inl over) = inl (has_body IsOver over)
  flaw_of_body content BadLength (inr wrong) = inr (has_body IsWrong wrong)
  flaw_of_body content CutShort (part, end) = (inr (has_body IsPart part), end)

-- the line up to a newline that was found, where it is that of a head
pub line_of : (receivers : ℕ) (held bytes : List ℕ) (place : Option ℕ) (end : ℕ) (P : Type 0) (head : Head) → place ≡ Some end → MatchOption place P (IsFirstPlace 10 (take 40 held)) → bytes ≡ held → IsLineOf receivers (take end bytes) head → BeginsWithLine receivers head (end + 1) held
line_of receivers held bytes place end P head is found all line =
    first_line receivers held end head (Line-of held place end P is found) (ap (take end) (sym all) ∙ line.0) line.1

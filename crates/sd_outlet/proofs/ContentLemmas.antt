-- What flushes leave to a backend: its lists, where it tells them.
use Rattle.std.proofs.Common.{◌≡◌, ℕ, false, cond, List, [], ◌∷◌, ◌++◌, map, filter, take, refl, sym, ap, ◌∙◌, append_assoc, append-nil, Option, Some, None, inl, inr}
use Rattle.std.proofs.lemmas.List.Elements.{filter-append}
use Rattle.sd_model_outside.specs.Outside.{BackendText, Content, Rounds, Object, appended, begun, ended, lists_of}
use Rattle.sd_outlet.specs.Lists.{content_lists, is_written, whole_list, LeavesLists, LeaveLists, HasLists, texts_written}
use Rattle.sd_model_outside.specs.Uses.{Mark, NotUsed, Written, Fault, Delivery, AfterMark, AfterDeliveries}

-- what one flush leaves to such a backend, which goes on to tell its lists
record ContentAfter (mark : Mark) (text : List ℕ) (before : List BackendText) (now : Content) : Type 0 where
  rounds : List BackendText
  open_list : Option (List ℕ)
  lists : List BackendText
  is : now ≡ Rounds rounds open_list
  leaves : LeavesLists mark text lists
  behind : lists_of rounds open_list ≡ before ++ lists

one_content : (mark : Mark) (text : List ℕ) (rounds : List BackendText) (open_list : Option (List ℕ)) (old now : Object) → old.content ≡ Rounds rounds open_list → AfterMark mark text old now → ContentAfter mark text (lists_of rounds open_list) now.content
one_content Written text rounds open_list old now content h = record {
  rounds = lists_of rounds open_list ++ whole_list text ∷ [];
  open_list = None;
  lists = whole_list text ∷ [];
  is = ap (λ (o : Object). o.content) h ∙ ap (λ w. ended (appended (begun w) text)) content;
  leaves = refl;
  behind = refl;
}
one_content NotUsed text rounds open_list old now content h =
    record { rounds = rounds; open_list = open_list; lists = []; is = ap (λ (o : Object). o.content) h ∙ content; leaves = refl; behind = sym (append-nil (lists_of rounds open_list)) }
one_content Fault text rounds open_list old now content h = elim h.prefix [
  | inl same ↦ record { rounds = rounds; open_list = open_list; lists = []; is = same ∙ content; leaves = inl refl; behind = sym (append-nil (lists_of rounds open_list)) }
  | inr prefix ↦ record {
    rounds = lists_of rounds open_list;
    open_list = Some (take prefix.0 text);
    lists = record { bytes = take prefix.0 text; is_ended = false } ∷ [];
    is = prefix.2 ∙ ap (λ w. appended (begun w) (take prefix.0 text)) content;
    leaves = inr (prefix.0, prefix.1, refl);
    behind = refl;
  }
]

pub all_content : (deliveries : List Delivery) (rounds : List BackendText) (open_list : Option (List ℕ)) (old now : Object) → old.content ≡ Rounds rounds open_list → AfterDeliveries deliveries old now → HasLists deliveries (lists_of rounds open_list) now.content
all_content [] rounds open_list old now content h = ([], refl, ap (λ (o : Object). content_lists o.content) h ∙ ap content_lists content ∙ ap Some (sym (append-nil (lists_of rounds open_list))))
all_content (d ∷ deliveries) rounds open_list old now content (mid, one, others) =
    let first = one_content d.mark d.text rounds open_list old mid content one in
    let rest = all_content deliveries first.rounds first.open_list mid now first.is others in (
      first.lists ++ rest.0,
      (first.lists, rest.0, first.leaves, rest.1, refl),
      rest.2 ∙ ap (λ lists. Some (lists ++ rest.0)) first.behind ∙ ap Some (append_assoc (lists_of rounds open_list) first.lists rest.0),
    )

one_ended : (mark : Mark) (text : List ℕ) (texts : List (List ℕ)) (lists : List BackendText) → LeavesLists mark text lists → filter (λ list. list.is_ended) lists ++ map whole_list texts ≡ map whole_list (cond (is_written mark) (text ∷ texts) texts)
one_ended Written text texts lists h = ap (λ ls. filter (λ (list : BackendText). list.is_ended) ls ++ map whole_list texts) h
one_ended NotUsed text texts lists h = ap (λ ls. filter (λ (list : BackendText). list.is_ended) ls ++ map whole_list texts) h
one_ended Fault text texts lists (inl h) = ap (λ ls. filter (λ (list : BackendText). list.is_ended) ls ++ map whole_list texts) h
one_ended Fault text texts lists (inr (n, few, h)) = ap (λ ls. filter (λ (list : BackendText). list.is_ended) ls ++ map whole_list texts) h

pub ended_content : (deliveries : List Delivery) (lists : List BackendText) → LeaveLists deliveries lists → filter (λ list. list.is_ended) lists ≡ map whole_list (texts_written deliveries)
ended_content [] lists h = ap (filter (λ (list : BackendText). list.is_ended)) h
ended_content (d ∷ deliveries) lists (first, others, one, rest, is) =
    ap (filter (λ (list : BackendText). list.is_ended)) is ∙ filter-append (λ (list : BackendText). list.is_ended) first others
    ∙ ap (λ ls. filter (λ (list : BackendText). list.is_ended) first ++ ls) (ended_content deliveries others rest)
    ∙ one_ended d.mark d.text (texts_written deliveries) first one

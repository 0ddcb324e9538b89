-- The lists of a backend whose rounds were counted.
use Rattle.std.proofs.Common.{◌≡◌, ◌≢◌, ℕ, ◌+◌, List, [], ◌∷◌, ◌++◌, map, refl, ap, ◌∙◌, Option, Some, arith}
use Rattle.std.proofs.lemmas.List.Sums.{sum_by-cons}
use Rattle.sd_model_outside.specs.Outside.{Object, BackendText, Rounds, lists_of}
use Rattle.sd_outlet.specs.Lists.{content_lists, whole_list, LeavesLists, LeaveLists}
use Rattle.sd_model_outside.specs.Uses.{Mark, NotUsed, Written, Fault, fault_of, Delivery, missed}
use Rattle.sd_outlet.proofs.ContentLemmas.{all_content}
use Rattle.sd_outlet.specs.declared.worked.Worked.{Worked}
use Rattle.sd_outlet.specs.Worked.{EachUsed, HasListsOf, HasWorked}

-- a round that didn't fail leaves its text
one_whole : (mark : Mark) (text : List ℕ) (lists : List BackendText) → mark ≢ NotUsed → fault_of mark ≡ 0 → LeavesLists mark text lists → lists ≡ whole_list text ∷ []
one_whole NotUsed text lists used none h = absurd (used refl)
one_whole Written text lists used none h = h
one_whole Fault text lists used none h = absurd (omega (arith, none))

-- so do rounds of which none failed
all_whole : (ds : List Delivery) (lists : List BackendText) → EachUsed ds → missed ds ≡ 0 → LeaveLists ds lists → lists ≡ map whole_list (map (λ (d : Delivery). d.text) ds)
all_whole [] lists used none h = h
all_whole (d ∷ ds) lists used none (first, others, one, rest, is) =
    let count : missed (d ∷ ds) ≡ fault_of d.mark + missed ds = sum_by-cons (λ (e : Delivery). fault_of e.mark) d ds in
    is ∙ (λ i. (one_whole d.mark d.text first used.0 (omega (arith, count, none)) one) i ++ (all_whole ds others used.1 (omega (arith, count, none)) rest) i)

-- the lists of all rounds
pub lists : (texts : List (List ℕ)) (w : Worked) (rounds : List BackendText) (open_list : Option (List ℕ)) (old new : Object) → old.content ≡ Rounds rounds open_list → HasWorked texts w old new
    → HasListsOf texts (lists_of rounds open_list) new.content
lists texts w rounds open_list old new content h = record { deliveries = h.deliveries; of_texts = h.of_texts; used = h.used; lists = all_content h.deliveries rounds open_list old new content h.after }

-- and where none failed
pub whole : (texts : List (List ℕ)) (w : Worked) (rounds : List BackendText) (open_list : Option (List ℕ)) (old new : Object) → old.content ≡ Rounds rounds open_list → HasWorked texts w old new → w.faults ≡ 0
    → content_lists new.content ≡ Some (lists_of rounds open_list ++ map whole_list texts)
whole texts w rounds open_list old new content h none =
    let all = all_content h.deliveries rounds open_list old new content h.after in
    all.2 ∙ ap (λ l. Some (lists_of rounds open_list ++ l)) (all_whole h.deliveries all.0 h.used (omega (arith, none, h.faults)) all.1 ∙ ap (map whole_list) h.of_texts)

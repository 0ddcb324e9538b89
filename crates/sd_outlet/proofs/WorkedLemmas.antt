-- Counts of rounds: of none, of one more, and of two counts together.
use Rattle.std.proofs.Common.{◌≡◌, ◌≢◌, ℕ, ◌+◌, Bool, true, false, true≢false, if◌then◌else◌, List, [], ◌∷◌, ◌++◌, map, length, length-append, min, refl, ap, ◌∙◌, subst, arith}
use Rattle.std.proofs.lemmas.List.Sums.{sum_by_push, sum_by-append}
use Rattle.sd_model_outside.specs.Outside.{Object, RoseBy, last_count}
use Rattle.sd_model_outside.specs.Uses.{Mark, NotUsed, Written, Fault, fault_of, Delivery, AfterMark, AfterDeliveries, missed}
use Rattle.sd_outlet.specs.Lists.{is_written, texts_written}
use Rattle.sd_model_outside.proofs.DeliveryLemmas.{AfterDeliveries-push, all_counts}
use Rattle.sd_outlet.specs.declared.worked.Worked.{Worked}
use Rattle.sd_outlet.specs.Worked.{EachUsed, HasWorked}

-- a text with its mark
abbrev delivery : Mark → List ℕ → Delivery
delivery mark text = record { text = text; mark = mark }

-- lists of deliveries one behind the other
texts-append : (ds es : List Delivery) → map (λ (e : Delivery). e.text) (ds ++ es) ≡ map (λ (e : Delivery). e.text) ds ++ map (λ (e : Delivery). e.text) es
texts-append [] es = refl
texts-append (d ∷ ds) es = ap (λ l. d.text ∷ l) (texts-append ds es)

EachUsed-append : (ds es : List Delivery) → EachUsed ds → EachUsed es → EachUsed (ds ++ es)
EachUsed-append [] es h u = u
EachUsed-append (d ∷ ds) es h u = (h.0, EachUsed-append ds es h.1 u)

AfterDeliveries-append : (ds es : List Delivery) (old mid new : Object) → AfterDeliveries ds old mid → AfterDeliveries es mid new → AfterDeliveries (ds ++ es) old new
AfterDeliveries-append [] es old mid new h next = subst (λ (o : Object). AfterDeliveries es o new) h next
AfterDeliveries-append (d ∷ ds) es old mid new h next = (h.0, h.1, AfterDeliveries-append ds es h.0 mid new h.2 next)

if-append : (b : Bool) (x : List ℕ) (l m : List (List ℕ)) → (if b then x ∷ (l ++ m) else l ++ m) ≡ (if b then x ∷ l else l) ++ m
if-append true x l m = refl
if-append false x l m = refl

texts_written-append : (ds es : List Delivery) → texts_written (ds ++ es) ≡ texts_written ds ++ texts_written es
texts_written-append [] es = refl
texts_written-append (d ∷ ds) es = ap (λ l. if is_written d.mark then d.text ∷ l else l) (texts_written-append ds es) ∙ if-append (is_written d.mark) d.text (texts_written ds) (texts_written es)

-- a round was of a backend that is used
pub written_used : Written ≢ NotUsed
written_used e = true≢false (ap is_written e)

pub fault_used : Fault ≢ NotUsed
fault_used e = absurd (let n : 1 ≡ 0 = ap fault_of e in omega arith)

-- a round more
pub one_more : (mark : Mark) (text : List ℕ) (texts : List (List ℕ)) (w w' : Worked) (old mid new : Object) → HasWorked texts w old mid → mark ≢ NotUsed → AfterMark mark text mid new
    → w'.written ≡ min (w.written + length (texts_written (delivery mark text ∷ []))) last_count → w'.faults ≡ min (w.faults + fault_of mark) last_count → HasWorked (texts ++ text ∷ []) w' old new
one_more mark text texts w w' old mid new h used last written faults =
    let d = delivery mark text in
    let ds = h.deliveries ++ d ∷ [] in
    let count : length (texts_written ds) ≡ length (texts_written h.deliveries) + length (texts_written (d ∷ [])) =
    ap length (texts_written-append h.deliveries (d ∷ [])) ∙ length-append (texts_written h.deliveries) (texts_written (d ∷ [])) in
    let misses : missed ds ≡ missed h.deliveries + fault_of mark = sum_by_push (λ (e : Delivery). fault_of e.mark) h.deliveries d in
    record {
      deliveries = ds;
      of_texts = texts-append h.deliveries (d ∷ []) ∙ ap (λ l. l ++ text ∷ []) h.of_texts;
      used = EachUsed-append h.deliveries (d ∷ []) h.used (used, tt);
      after = AfterDeliveries-push h.deliveries d old mid new h.after last;
      written = omega (arith, written, h.written, count);
      faults = omega (arith, faults, h.faults, misses);
    }

-- two counts together
pub both : (texts more : List (List ℕ)) (w v u : Worked) (old mid new : Object) → HasWorked texts w old mid → HasWorked more v mid new
    → u.written ≡ min (w.written + v.written) last_count → u.faults ≡ min (w.faults + v.faults) last_count → HasWorked (texts ++ more) u old new
both texts more w v u old mid new h k written faults =
    let ds = h.deliveries in
    let es = k.deliveries in
    let count : length (texts_written (ds ++ es)) ≡ length (texts_written ds) + length (texts_written es) = ap length (texts_written-append ds es) ∙ length-append (texts_written ds) (texts_written es) in
    let misses : missed (ds ++ es) ≡ missed ds + missed es = sum_by-append (λ (e : Delivery). fault_of e.mark) ds es in
    record {
      deliveries = ds ++ es;
      of_texts = texts-append ds es ∙ (λ i. h.of_texts i ++ k.of_texts i);
      used = EachUsed-append ds es h.used k.used;
      after = AfterDeliveries-append ds es old mid new h.after k.after;
      written = omega (arith, written, h.written, k.written, count);
      faults = omega (arith, faults, h.faults, k.faults, misses);
    }

-- the faults that were counted are at most what the backend's count rose by
pub rises : (texts : List (List ℕ)) (w : Worked) (old new : Object) → HasWorked texts w old new → RoseBy w.faults old.faults new.faults
rises texts w old new h = let c = all_counts h.deliveries old new h.after in omega (arith, c.rose, h.faults)

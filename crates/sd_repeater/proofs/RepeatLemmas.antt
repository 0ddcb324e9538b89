-- A packet that was sent on some wires, and on one more.
use Rattle.std.proofs.Common.{◌≡◌, ℕ, ◌+◌, ◌<◌, ◌≤◌, Bool, true, false, cond, List, [], ◌∷◌, ◌++◌, length, map, take, drop, set, get_or, sym, ap, ◌∙◌, arith, count_by}
use Rattle.std.proofs.lemmas.List.Sums.{sum_by-append}
use Rattle.std.proofs.lemmas.List.{map-append, take_more, take_more_set, drop_more, drop-set-lt}
use Rattle.std.specs.Int.{from_bool}
use Rattle.sd_model_outside.specs.Outside.{Object}
use Rattle.sd_model_outside.specs.Uses.{HasSent}
use Rattle.sd_repeater.specs.Sent.{AreSent}
use Rattle.sd_repeater.specs.Repeat.{HasRepeated}

-- the sends that failed, with one more
count_by-last : (failed : List Bool) (f : Bool) → count_by (λ x. x) (failed ++ f ∷ []) ≡ count_by (λ x. x) failed + from_bool f
count_by-last failed true = sum_by-append (λ (x : Bool). cond x 1 0) failed (true ∷ [])
count_by-last failed false = sum_by-append (λ (x : Bool). cond x 1 0) failed (false ∷ [])

-- one more was sent
AreSent-last : (packet : List ℕ) (failed : List Bool) (f : Bool) (old : List Object) (o : Object) (new : List Object) (n : Object) → AreSent packet failed old new → HasSent packet f o n → AreSent packet (failed ++ f ∷ []) (old ++ o ∷ []) (new ++ n ∷ [])
AreSent-last packet [] f [] o [] n sends last = (last, tt)
AreSent-last packet (g ∷ failed) f (p ∷ old) o (m ∷ new) n sends last = (sends.0, AreSent-last packet failed f old o new n sends.1 last)
AreSent-last packet [] f [] o (m ∷ new) n sends last = absurd sends
AreSent-last packet [] f (p ∷ old) o [] n sends last = absurd sends
AreSent-last packet [] f (p ∷ old) o (m ∷ new) n sends last = absurd sends
AreSent-last packet (g ∷ failed) f [] o [] n sends last = absurd sends
AreSent-last packet (g ∷ failed) f [] o (m ∷ new) n sends last = absurd sends
AreSent-last packet (g ∷ failed) f (p ∷ old) o [] n sends last = absurd sends

-- a send on the next wire
pub HasRepeated-more : {A : Type 0} (seen : A → Object) (packet : List ℕ) (start now : List A) (i : ℕ) (old new : A) (f : Bool) (faults more : ℕ) → i < length now → i < length start → old ≡ get_or now i old → drop i now ≡ drop i start → HasRepeated packet (map seen (take i start)) (map seen (take i now)) faults → HasSent packet f (seen old) (seen new) → more ≡ from_bool f → HasRepeated packet (map seen (take (i + 1) start)) (map seen (take (i + 1) (set now i new))) (faults + more)
HasRepeated-more seen packet start now i old new f faults more inside within is rest h sent one =
    let there : get_or start i old ≡ old = let a = drop_more start i old within in let b = drop_more now i old inside in cc in
    let before : map seen (take (i + 1) start) ≡ map seen (take i start) ++ seen old ∷ [] =
    ap (map seen) (take_more start i old within ∙ ap (λ e. take i start ++ e ∷ []) there) ∙ map-append seen (take i start) (old ∷ []) in
    let after : map seen (take (i + 1) (set now i new)) ≡ map seen (take i now) ++ seen new ∷ [] =
    ap (map seen) (take_more_set now i new inside) ∙ map-append seen (take i now) (new ∷ []) in
    record {
      failed = h.failed ++ f ∷ [];
      sends = rw (before, after) (AreSent-last packet h.failed f _ (seen old) _ (seen new) h.sends sent);
      count = count_by-last h.failed f ∙ ap (λ n. n + from_bool f) h.count ∙ ap (λ n. faults + n) (sym one);
    }

-- what is behind the next wire is as it was
pub drop-next : {A : Type 0} (now start : List A) (i : ℕ) (old new : A) → i < length now → i < length start → drop i now ≡ drop i start → drop (i + 1) (set now i new) ≡ drop (i + 1) start
drop-next now start i old new inside within rest =
    let a = drop_more now i old inside in
    let b = drop_more start i old within in
    let same : drop (i + 1) now ≡ drop (i + 1) start = cc in
    drop-set-lt (i + 1) now i new (omega arith) ∙ same

-- a send counts for one at most
pub at_most_one : (n : ℕ) (f : Bool) → n ≡ from_bool f → n ≤ 1
at_most_one n true is = omega arith
at_most_one n false is = omega arith

-- Lines that wait, the packets that they make, and their sends.
use Rattle.std.proofs.Common.{◌≡◌, ◌∙◌, ℕ, ◌+◌, ◌-◌, ◌<◌, ◌≤◌, Bool, true, false, cond, List, [], ◌∷◌, ◌++◌, codes, length, map, take, length-append, length-take, append_assoc, append-nil, refl, sym, ap, subst, arith, inl, inr}
use Rattle.std.specs.Prelude.{nat_le, nat_lt}
use Rattle.std.specs.Str.{bytes_eq}
use Rattle.std.proofs.lemmas.Bool.{cases_lt, le-leb, le-ltb, leb-false, lt-leb, lt-ltb}
use Rattle.std.proofs.lemmas.List.{map-append, take-take}
use Rattle.std.proofs.Math.Seq.{take-append_seam}
use Rattle.std.proofs.lemmas.List.Concat.{flat_map-append}
use Rattle.std.proofs.lemmas.List.Sums.{sum_by-append}
use Rattle.sd_model_outside.specs.Outside.{Object}
use Rattle.sd_model_outside.specs.Uses.{HasSent, AfterSends, WireSend}
use Rattle.sd_model_record.specs.Desk.{counted}
use Rattle.sd_model_record.specs.Totals.{Total, number_in}
use Rattle.sd_model_proxy.specs.Routes.{Batch, add_totals, batches, batches_from, joined}
use Rattle.sd_model_proxy.proofs.TotalLemmas.{add-twice}
use Rattle.sd_proxy_desk.specs.Views.{totals_view}
use Rattle.sd_proxy.specs.Sending.{Sends, totals_of_batches}
use Rattle.sd_proxy.specs.Waiting.{Holds, batches_behind, closed, under_way}
use Rattle.sd_proxy_desk.specs.declared.totals.ProxyTotals.{ProxyTotals}
use Rattle.sd_proxy.specs.declared.waiting.Waiting.{Waiting}
use Rattle.sd_model_shard.specs.Shard.{last_number}
use Rattle.sd_model_proxy.proofs.Short.{fits, lines_sent, lines_not_sent, send_of}

-- lines, and one more
pub closed-more : (lines : List (List ℕ)) (last : List ℕ) → closed (lines ++ last ∷ []) ≡ closed lines ++ (last ++ 10 ∷ [])
closed-more lines last = flat_map-append (λ (l : List ℕ). l ++ 10 ∷ []) lines (last ∷ []) ∙ ap (λ (x : List ℕ). closed lines ++ x) (append-nil (last ++ 10 ∷ []))

pub closed-joined : (line : List ℕ) (lines : List (List ℕ)) → closed (line ∷ lines) ≡ joined (line ∷ lines) ++ 10 ∷ []
closed-joined line [] = append-nil (line ++ 10 ∷ [])
closed-joined line (next ∷ lines) =
    ap (λ (x : List ℕ). (line ++ 10 ∷ []) ++ x) (closed-joined next lines) ∙ append_assoc line (10 ∷ []) (joined (next ∷ lines) ++ 10 ∷ []) ∙ sym (append_assoc line (10 ∷ joined (next ∷ lines)) (10 ∷ []))

-- the text of lines, without the last newline
pub text_joined : (n : ℕ) (room line : List ℕ) (lines : List (List ℕ)) → n ≤ length room → take n room ≡ closed (line ∷ lines) → take (n - 1) room ≡ joined (line ∷ lines)
text_joined n room line lines within text =
    let packet : List ℕ = joined (line ∷ lines) in
    let all : take n room ≡ packet ++ 10 ∷ [] = text ∙ closed-joined line lines in
    let long : n ≡ length packet + 1 = omega (arith, ap (λ (x : List ℕ). length x) all, length-take n room, within, length-append packet (10 ∷ [])) in
    sym (take-take (n - 1) n room (omega arith)) ∙ ap (take (n - 1)) all ∙ ap (λ (k : ℕ). take k (packet ++ 10 ∷ [])) (let less : n - 1 ≡ length packet = omega (arith, long) in less) ∙ take-append_seam packet (10 ∷ [])

-- how long a packet is with a line more
pub joined-length : (begun : List (List ℕ)) (line : List ℕ) → length (joined (begun ++ line ∷ [])) ≡ length (closed begun) + length line
joined-length [] line = omega arith
joined-length (b ∷ begun) line =
    omega (
      arith,
      ap (λ (x : List ℕ). length x) (closed-joined b (begun ++ line ∷ [])),
      length-append (joined (b ∷ begun ++ line ∷ [])) (10 ∷ []),
      ap (λ (x : List ℕ). length x) (closed-more (b ∷ begun) line),
      length-append (closed (b ∷ begun)) (line ++ 10 ∷ []),
      length-append line (10 ∷ []),
    )

-- how many bytes wait
pub held_length : (most : ℕ) (begun : List (List ℕ)) (w : Waiting) → Holds most begun w → w.len ≡ length (closed begun)
held_length most begun w holds = omega (arith, ap (λ (x : List ℕ). length x) holds.text, length-take w.len w.room.items, w.within)

-- two tests that tell the same
pub same_test : (a b c d : ℕ) → (a < b → c ≤ d) → (c ≤ d → a < b) → nat_lt a b ≡ nat_le c d
same_test a b c d there back = elim (cases_lt a b) [
  | inl below ↦ lt-ltb a b below ∙ sym (le-leb c d (there below))
  | inr above ↦ le-ltb a b above ∙ sym (elim (cases_lt d c) [ inl over ↦ lt-leb c d over | inr within ↦ absurd (let below = back within in omega (arith, below, above)) ])
]

-- a line that doesn't fit alone goes alone
long-alone : (most : ℕ) (line : List ℕ) → fits most (line ∷ []) ≡ false → (lines : List (List ℕ)) → batches_from most (line ∷ []) lines ≡ (line ∷ []) ∷ batches most lines
long-alone most line long [] = refl
long-alone most line long (next ∷ lines) =
    let over : fits most (line ∷ next ∷ []) ≡ false = lt-leb (length (joined (line ∷ next ∷ []))) most (omega (arith, leb-false (length line) most long, length-append line (10 ∷ next))) in
    ap (λ (fit : Bool). cond fit (batches_from most (line ∷ next ∷ []) lines) ((line ∷ []) ∷ batches_from most (next ∷ []) lines)) over

-- a line behind those that wait: it has room; or it has none, and waits alone; or it is sent alone
pub cut-room : (most : ℕ) (begun : List (List ℕ)) (line : List ℕ) → fits most (begun ++ line ∷ []) ≡ true → (lines : List (List ℕ)) → batches_behind most begun (line ∷ lines) ≡ batches_behind most (begun ++ line ∷ []) lines
cut-room most [] line fit lines = refl
cut-room most (b ∷ begun) line fit lines = ap (λ (f : Bool). cond f (batches_from most ((b ∷ begun) ++ line ∷ []) lines) ((b ∷ begun) ∷ batches_from most (line ∷ []) lines)) fit

pub cut-new : (most : ℕ) (begun : List (List ℕ)) (line : List ℕ) → fits most (begun ++ line ∷ []) ≡ false → (lines : List (List ℕ)) → batches_behind most begun (line ∷ lines) ≡ under_way begun ++ batches_from most (line ∷ []) lines
cut-new most [] line over lines = refl
cut-new most (b ∷ begun) line over lines = ap (λ (f : Bool). cond f (batches_from most ((b ∷ begun) ++ line ∷ []) lines) ((b ∷ begun) ∷ batches_from most (line ∷ []) lines)) over

pub cut-long : (most : ℕ) (begun : List (List ℕ)) (line : List ℕ) → fits most (begun ++ line ∷ []) ≡ false → fits most (line ∷ []) ≡ false → (lines : List (List ℕ))
    → batches_behind most begun (line ∷ lines) ≡ (under_way begun ++ (line ∷ []) ∷ []) ++ batches most lines
cut-long most begun line over long lines =
    cut-new most begun line over lines ∙ ap (λ (ps : List (List (List ℕ))). under_way begun ++ ps) (long-alone most line long lines) ∙ sym (append_assoc (under_way begun) ((line ∷ []) ∷ []) (batches most lines))

sends-behind : (xs ys : List WireSend) (old mid new : Object) → AfterSends xs old mid → AfterSends ys mid new → AfterSends (xs ++ ys) old new
sends-behind [] ys old mid new first second = subst (λ (o : Object). AfterSends ys o new) first second
sends-behind (x ∷ xs) ys old mid new first second = (first.0, first.1, sends-behind xs ys first.0 mid new first.2 second)

-- what packets behind packets count for
batches-behind : (xs ys : List Batch) (name : List ℕ) → number_in (totals_of_batches (xs ++ ys)) name ≡ number_in (totals_of_batches xs) name + number_in (totals_of_batches ys) name
batches-behind xs ys name =
    both _ _ _ _ _ _ (bytes_eq (codes "packets") name) refl
    (both _ _ _ _ _ _ (bytes_eq (codes "lines") name) refl
    (both _ _ _ _ _ _ (bytes_eq (codes "bad") name) refl
    (both _ _ _ _ _ _ (bytes_eq (codes "sent") name) (sum_by-append (λ (b : Batch). cond b.is_failed 0 (length b.lines)) xs ys)
    (both _ _ _ _ _ _ (bytes_eq (codes "unowned") name) refl
    (both _ _ _ _ _ _ (bytes_eq (codes "send_faults") name) (sum_by-append (λ (b : Batch). cond b.is_failed (length b.lines) 0) xs ys) refl)))))
  where
    both : (a b c x y z : ℕ) (is : Bool) → c ≡ a + b → z ≡ x + y → cond is c z ≡ cond is a x + cond is b y
    both a b c x y z true here rest = here
    both a b c x y z false here rest = rest

-- packets behind packets
pub Sends-next : (xs ys : List (List (List ℕ))) (old mid new : Object) (s t u : List Total) → Sends xs old mid s t → Sends ys mid new t u → Sends (xs ++ ys) old new s u
Sends-next xs ys old mid new s t u first second = record {
  sent = first.sent ++ second.sent;
  are = map-append (λ (b : Batch). b.lines) first.sent second.sent ∙ (λ i. first.are i ++ second.are i);
  sends = subst (λ (ws : List WireSend). AfterSends ws old new) (sym (map-append send_of first.sent second.sent)) (sends-behind (map send_of first.sent) (map send_of second.sent) old mid new first.sends second.sends);
  counted = second.counted ∙ ap (λ (x : List Total). add_totals x (totals_of_batches second.sent)) first.counted ∙ add-twice (totals_of_batches first.sent) (totals_of_batches second.sent) (totals_of_batches (first.sent ++ second.sent)) (batches-behind first.sent second.sent) s;
}

-- a count to which nothing is added
pub steady : (n : ℕ) → n ≤ last_number → n ≡ counted n 0
steady n few = omega (arith, few)

-- no packet
pub Sends-none : (wire : Object) (t : ProxyTotals) → Sends [] wire wire (totals_view t) (totals_view t)
Sends-none wire t = record {
  sent = [];
  are = refl;
  sends = refl;
  counted = λ i.
      (codes "packets", steady t.packets t.few_packets i) ∷ (codes "lines", steady t.lines t.few_lines i) ∷ (codes "bad", steady t.bad t.few_bad i) ∷ (codes "sent", steady t.sent t.few_sent i)
      ∷ (codes "unowned", steady t.unowned t.few_unowned i) ∷ (codes "send_faults", steady t.send_faults t.few_send_faults i) ∷ [];
}

-- one packet
pub Sends-one : (lines : List (List ℕ)) (failed : Bool) (wire wire_now : Object) (t : ProxyTotals) (t_now : List Total) → HasSent (joined lines) failed wire wire_now
    → t_now ≡ add_totals (totals_view t) ((cond failed (codes "send_faults") (codes "sent"), length lines) ∷ []) → Sends (lines ∷ []) wire wire_now (totals_view t) t_now
Sends-one lines true wire wire_now t t_now has counts = record {
  sent = record { lines = lines; is_failed = true } ∷ [];
  are = refl;
  sends = (wire_now, has, refl);
  counted = counts ∙ (λ i.
      (codes "packets", counted t.packets 0) ∷ (codes "lines", counted t.lines 0) ∷ (codes "bad", counted t.bad 0) ∷ (codes "sent", counted t.sent 0) ∷ (codes "unowned", counted t.unowned 0)
      ∷ (codes "send_faults", counted t.send_faults (one i)) ∷ []);
}
  where
    one : length lines ≡ lines_not_sent (record { lines = lines; is_failed = true } ∷ [])
    one = omega arith
Sends-one lines false wire wire_now t t_now has counts = record {
  sent = record { lines = lines; is_failed = false } ∷ [];
  are = refl;
  sends = (wire_now, has, refl);
  counted = counts ∙ (λ i.
      (codes "packets", counted t.packets 0) ∷ (codes "lines", counted t.lines 0) ∷ (codes "bad", counted t.bad 0) ∷ (codes "sent", counted t.sent (one i)) ∷ (codes "unowned", counted t.unowned 0)
      ∷ (codes "send_faults", counted t.send_faults 0) ∷ []);
}
  where
    one : length lines ≡ lines_sent (record { lines = lines; is_failed = false } ∷ [])
    one = omega arith

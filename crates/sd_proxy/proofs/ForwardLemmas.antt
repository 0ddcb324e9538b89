-- The lines of one read: those that were sent, those that wait, and what was counted.
use Rattle.std.proofs.Common.{◌≡◌, ◌≢◌, ◌∙◌, ℕ, ◌+◌, ◌<◌, Bool, true, false, cond, List, [], ◌∷◌, ◌++◌, codes, length, map, set, get_or, append-nil, append_assoc, refl, sym, ap, subst, arith, eq-eqb, ne_eqb, inl, inr, sum_by}
use Rattle.std.specs.Prelude.{◌==◌, count_by}
use Rattle.std.specs.List.{range_with_len}
use Rattle.std.proofs.lemmas.Bool.{cases_eq, cases_lt}
use Rattle.std.proofs.lemmas.List.{map-append, map-set, length-map, length-set, get_or-map, get_or-set_same, get_or-set_other}
use Rattle.std.proofs.lemmas.List.Concat.{flat_map-append}
use Rattle.std.proofs.lemmas.List.Elements.{filter-append}
use Rattle.std.proofs.lemmas.List.Sums.{sum_by-append, sum_by-cons}
use Rattle.sd_model_outside.specs.Outside.{Object}
use Rattle.sd_model_record.specs.Desk.{counted}
use Rattle.sd_model_settings.specs.Entries.{Node}
use Rattle.sd_model_proxy.specs.Routes.{Batch, Batched, add_totals, batches, no_totals, over_nodes, totals_by, relay_counts, Bad, Read, Route, To, Unowned, goes_to, is_bad, is_unowned, route}
use Rattle.sd_model_proxy.proofs.SendLemmas.{AreForwarded-next, AreForwarded-none, AreForwarded-only, behind, only, only-elsewhere, only-here}
use Rattle.sd_model_proxy.proofs.TotalLemmas.{add_totals-next, over-only}
use Rattle.sd_model_record.specs.Totals.{Total}
use Rattle.sd_proxy.specs.Forwarding.{AreSent, AreUnderWay, Forwards, IsLeft, IsUnderWay, NoneWaits, Stands, TakesLines, lines_for, routes_by}
use Rattle.sd_proxy_desk.specs.Views.{totals_of_route, totals_view}
use Rattle.sd_proxy.specs.Sending.{Sends, totals_of_batches}
use Rattle.sd_proxy.specs.Waiting.{Holds, batches_behind, under_way}
use Rattle.sd_proxy_desk.specs.declared.totals.ProxyTotals.{ProxyTotals}
use Rattle.sd_proxy.proofs.WaitingLemmas.{steady}
use Rattle.sd_proxy.specs.declared.waiting.Waiting.{Waiting}
use Rattle.sd_model_proxy.proofs.Short.{long_in, routes_of, AreForwarded, lines_to, lines_sent, lines_not_sent}

-- a number with none more
and_none : (n : ℕ) → n + 0 ≡ n
and_none n = omega arith

plus_assoc : (a b c : ℕ) → (a + b) + c ≡ a + (b + c)
plus_assoc a b c = omega arith

-- no packet to any node
abbrev no_packets : Batched
no_packets = λ place. []

over-none : (nodes : List Node) (number : List Batch → ℕ) → number [] ≡ 0 → over_nodes nodes no_packets number ≡ 0
over-none nodes number none = go (range_with_len 0 (length nodes)) where
  go : (places : List ℕ) → sum_by (λ place. number []) places ≡ 0
  go [] = refl
  go (p ∷ places) = omega (arith, sum_by-cons (λ (place : ℕ). number []) p places, none, go places)

behind-none : (first : Batched) → behind first no_packets ≡ first
behind-none first = λ i place. append-nil (first place) i

-- a line's totals, by where it goes
one_total : (nodes : List Node) (r : Route) (t : ProxyTotals)
    → add_totals (totals_view t) (totals_of_route r) ≡ add_totals (totals_view t) (totals_by nodes 0 0 (r ∷ []) no_packets)
one_total nodes r t = by r
  where
    sent : 0 ≡ over_nodes nodes no_packets lines_sent
    sent = sym (over-none nodes lines_sent refl)

    failed : 0 ≡ over_nodes nodes no_packets lines_not_sent
    failed = sym (over-none nodes lines_not_sent refl)

    counts : (bad unowned : ℕ) → List Total
    counts bad unowned =
        (codes "packets", counted t.packets 0) ∷ (codes "lines", counted t.lines 1) ∷ (codes "bad", counted t.bad bad) ∷ (codes "sent", counted t.sent 0) ∷ (codes "unowned", counted t.unowned unowned)
        ∷ (codes "send_faults", counted t.send_faults 0) ∷ []

    wide : (bad unowned : ℕ) → List Total
    wide bad unowned =
        (codes "packets", counted t.packets 0) ∷ (codes "lines", counted t.lines 1) ∷ (codes "bad", counted t.bad bad) ∷ (codes "sent", counted t.sent (over_nodes nodes no_packets lines_sent))
        ∷ (codes "unowned", counted t.unowned unowned) ∷ (codes "send_faults", counted t.send_faults (over_nodes nodes no_packets lines_not_sent)) ∷ []

    same : (bad unowned : ℕ) → counts bad unowned ≡ wide bad unowned
    same bad unowned = λ i.
        (codes "packets", counted t.packets 0) ∷ (codes "lines", counted t.lines 1) ∷ (codes "bad", counted t.bad bad) ∷ (codes "sent", counted t.sent (sent i)) ∷ (codes "unowned", counted t.unowned unowned)
        ∷ (codes "send_faults", counted t.send_faults (failed i)) ∷ []

    by : (r : Route) → add_totals (totals_view t) (totals_of_route r) ≡ add_totals (totals_view t) (totals_by nodes 0 0 (r ∷ []) no_packets)
    by Bad = same 1 0
    by Unowned = same 0 1
    by (To place) = same 0 0

-- so many datagrams, and so many lines that were too long, count for the same whichever nodes there are
plain_total : (nodes : List Node) (packets long : ℕ) (t : ProxyTotals)
    → add_totals (totals_view t) (totals_by [] packets long [] no_packets)
    ≡ add_totals (totals_view t) (totals_by nodes packets long [] no_packets)
plain_total nodes packets long t = λ i.
    (codes "packets", counted t.packets packets) ∷ (codes "lines", counted t.lines (0 + long)) ∷ (codes "bad", counted t.bad (0 + long))
    ∷ (codes "sent", counted t.sent (sym (over-none nodes lines_sent refl) i))
    ∷ (codes "unowned", counted t.unowned 0) ∷ (codes "send_faults", counted t.send_faults (sym (over-none nodes lines_not_sent refl) i))
    ∷ []

-- where nothing was taken, nothing was counted
still_total : (nodes : List Node) (t : ProxyTotals) → totals_view t ≡ add_totals (totals_view t) (totals_by nodes 0 0 [] no_packets)
still_total nodes t = same ∙ plain_total nodes 0 0 t
  where
    same : totals_view t ≡ add_totals (totals_view t) (totals_by [] 0 0 [] no_packets)
    same = λ i.
        (codes "packets", steady t.packets t.few_packets i) ∷ (codes "lines", steady t.lines t.few_lines i)
        ∷ (codes "bad", steady t.bad t.few_bad i) ∷ (codes "sent", steady t.sent t.few_sent i)
        ∷ (codes "unowned", steady t.unowned t.few_unowned i) ∷ (codes "send_faults", steady t.send_faults t.few_send_faults i) ∷ []

-- nothing counts for nothing
pub nothing_more : (nodes : List Node) → no_totals ≡ add_totals no_totals (totals_by nodes 0 0 [] no_packets)
nothing_more nodes = λ i.
    (codes "packets", 0) ∷ (codes "lines", 0) ∷ (codes "bad", 0) ∷ (codes "sent", counted 0 (sym (over-none nodes lines_sent refl) i)) ∷ (codes "unowned", 0)
    ∷ (codes "send_faults", counted 0 (sym (over-none nodes lines_not_sent refl) i)) ∷ []

-- the totals of packets to one node
place_total : (nodes : List Node) (place : ℕ) (bs : List Batch) → place < length nodes
    → totals_of_batches bs ≡ totals_by nodes 0 0 [] (only place bs)
place_total nodes place bs inside = λ i.
    (codes "packets", 0) ∷ (codes "lines", 0) ∷ (codes "bad", 0) ∷ (codes "sent", sym (over-only lines_sent refl nodes place bs inside) i) ∷ (codes "unowned", 0)
    ∷ (codes "send_faults", sym (over-only lines_not_sent refl nodes place bs inside) i) ∷ []

-- the lines of these that go to a node, with one more
lines_for-here : (nodes : List Node) (up place : ℕ) (done : List (List ℕ)) (line : List ℕ) → goes_to place (route line nodes up) ≡ true → lines_for nodes up place (done ++ line ∷ []) ≡ lines_for nodes up place done ++ line ∷ []
lines_for-here nodes up place done line goes =
    filter-append (λ (l : List ℕ). goes_to place (route l nodes up)) done (line ∷ []) ∙ ap (λ (b : Bool). lines_for nodes up place done ++ cond b (line ∷ []) []) goes

lines_for-elsewhere : (nodes : List Node) (up place : ℕ) (done : List (List ℕ)) (line : List ℕ) → goes_to place (route line nodes up) ≡ false → lines_for nodes up place (done ++ line ∷ []) ≡ lines_for nodes up place done
lines_for-elsewhere nodes up place done line goes =
    filter-append (λ (l : List ℕ). goes_to place (route l nodes up)) done (line ∷ []) ∙ ap (λ (b : Bool). lines_for nodes up place done ++ cond b (line ∷ []) []) goes ∙ append-nil (lines_for nodes up place done)

module _ (most : ℕ) (nodes : List Node) (up : ℕ) (done : List (List ℕ)) (line : List ℕ) where
  -- a line that was taken for a node
  pub line_taken : (place : ℕ) (packets : List (List (List ℕ))) (begun : List (List ℕ)) → goes_to place (route line nodes up) ≡ true → place < length nodes → IsUnderWay most nodes up done place packets begun
      → (more : List (List (List ℕ))) (left : List (List ℕ)) → ((ls : List (List ℕ)) → batches_behind most begun (line ∷ ls) ≡ more ++ batches_behind most left ls) → IsUnderWay most nodes up (done ++ line ∷ []) place (packets ++ more) left
  line_taken place packets begun goes inside under more left cut = record {
    past = λ beyond. absurd (omega (arith, inside, beyond));
    cut = λ ls.
        ap (λ (xs : List (List ℕ)). batches most (xs ++ ls)) (lines_for-here nodes up place done line goes) ∙ ap (batches most) (append_assoc (lines_for nodes up place done) (line ∷ []) ls)
        ∙ under.cut (line ∷ ls) ∙ ap (λ (ps : List (List (List ℕ))). packets ++ ps) (cut ls) ∙ sym (append_assoc packets more (batches_behind most left ls));
  }

  -- and of a node to which it doesn't go
  pub line_elsewhere : (place : ℕ) (packets : List (List (List ℕ))) (begun : List (List ℕ)) → goes_to place (route line nodes up) ≡ false → IsUnderWay most nodes up done place packets begun → IsUnderWay most nodes up (done ++ line ∷ []) place packets begun
  line_elsewhere place packets begun goes under = record {
    past = under.past;
    cut = λ ls. ap (λ (xs : List (List ℕ)). batches most (xs ++ ls)) (lines_for-elsewhere nodes up place done line goes) ∙ under.cut ls;
  }

module _ (most : ℕ) (nodes : List Node) (up : ℕ) (done : List (List ℕ)) where
  -- no more lines come
  left_first : (place : ℕ) (packets : List (List (List ℕ))) (begun : List (List ℕ)) → IsUnderWay most nodes up done place packets begun → IsLeft most nodes up done 0 place packets begun
  left_first place packets begun under = record {
    past = under.past;
    before = λ below. absurd (omega (arith, below));
    cut = ap (batches most) (sym (append-nil (lines_for nodes up place done))) ∙ under.cut [] ∙ ap (λ (ps : List (List (List ℕ))). packets ++ ps) (last begun);
  }
    where
      last : (begun : List (List ℕ)) → batches_behind most begun [] ≡ under_way begun
      last [] = refl
      last (b ∷ begun) = refl

  -- the lines that waited for a node were sent
  pub left_here : (place : ℕ) (packets : List (List (List ℕ))) (begun : List (List ℕ)) → IsLeft most nodes up done place place packets begun → IsLeft most nodes up done (place + 1) place (packets ++ under_way begun) []
  left_here place packets begun left = record { past = λ beyond. refl; before = λ below. refl; cut = left.cut ∙ sym (append-nil (packets ++ under_way begun)) }

  pub left_elsewhere : (to place : ℕ) (packets : List (List (List ℕ))) (begun : List (List ℕ)) → place ≢ to → IsLeft most nodes up done to place packets begun → IsLeft most nodes up done (to + 1) place packets begun
  left_elsewhere to place packets begun other left = record { past = left.past; before = λ below. left.before (omega (arith, below, other)); cut = left.cut }

  -- nothing waits at the end
  pub waits_not : (place : ℕ) (packets : List (List (List ℕ))) (begun : List (List ℕ)) → IsLeft most nodes up done (length nodes) place packets begun → begun ≡ []
  waits_not place packets begun left = elim (cases_lt place (length nodes)) [ inl below ↦ left.before below | inr beyond ↦ left.past beyond ]

module _ (says says_now : ℕ → List (List (List ℕ)) → List (List ℕ) → Type 0) (most : ℕ) (nodes : List Node) (packets long : ℕ)
    (routes : List Route) (waiting : List Waiting) (first : List Object) (t : List Total) where
  -- what is said is said otherwise
  pub said : (wires : List Object) (t_now : List Total) → ((place : ℕ) (packets : List (List (List ℕ))) (begun : List (List ℕ)) → says place packets begun → says_now place packets begun)
      → Stands says most nodes packets long routes waiting first wires t t_now
      → Stands says_now most nodes packets long routes waiting first wires t t_now
  said wires t_now so s = record { sent = s.sent; begun = s.begun; are = λ place. so place (map (λ (b : Batch). b.lines) (s.sent place)) (s.begun place) (s.are place); holds = s.holds; sends = s.sends; counted = s.counted }

  -- packets were sent on the wire to one node, for which other lines wait now
  pub put : {L : Type 0} (seen : L → Object) (wires : List L) (t_mid t_now : List Total) (place : ℕ) (old new : L) (w : Waiting)
      (more : List (List (List ℕ))) (left : List (List ℕ))
      → (s : Stands says most nodes packets long routes waiting first (map seen wires) t t_mid) → place < length wires
      → place < length nodes → old ≡ get_or wires place old
      → Sends more (seen old) (seen new) t_mid t_now → Holds most left w → says_now place (map (λ b. b.lines) (s.sent place) ++ more) left
      → ((at : ℕ) (ps : List (List (List ℕ))) (begun : List (List ℕ)) → at ≢ place → says at ps begun → says_now at ps begun)
      → Stands says_now most nodes packets long routes (set waiting place w) first (map seen (set wires place new)) t t_now
  put seen wires t_mid t_now place old new w more left s inside owned is one holds here elsewhere =
      let bs : List Batch = one.sent in
      let lines_in : List Batch → List (List (List ℕ)) = map (λ (b : Batch). b.lines) in
      let within : place < length (map seen wires) = omega (arith, inside, length-map wires seen) in
      let there : get_or (map seen wires) place (seen old) ≡ seen old = get_or-map seen wires place old (seen old) inside ∙ ap seen (sym is) in
      record {
        sent = behind s.sent (only place bs);
        begun = λ at. cond (place == at) left (s.begun at);
        are = λ at. elim (cases_eq at place) [
          | inl same ↦
              subst (λ (k : ℕ). says_now k (lines_in (s.sent k ++ only place bs k)) (cond (place == k) left (s.begun k))) (sym same)
              (subst (λ (b : Bool). says_now place (lines_in (s.sent place ++ only place bs place)) (cond b left (s.begun place))) (sym (eq-eqb place place refl))
              (subst (λ (ps : List (List (List ℕ))). says_now place ps left)
              (ap (λ (ps : List (List (List ℕ))). lines_in (s.sent place) ++ ps) (sym one.are) ∙ sym (map-append (λ (b : Batch). b.lines) (s.sent place) bs) ∙ ap (λ (xs : List Batch). lines_in (s.sent place ++ xs)) (sym (only-here place bs)))
              here))
          | inr other ↦
              subst (λ (b : Bool). says_now at (lines_in (s.sent at ++ only place bs at)) (cond b left (s.begun at))) (sym (ne_eqb place at (λ same. other (sym same))))
              (subst (λ (xs : List Batch). says_now at (lines_in xs) (s.begun at)) (sym (append-nil (s.sent at)) ∙ ap (λ (xs : List Batch). s.sent at ++ xs) (sym (only-elsewhere place bs at other)))
              (elsewhere at (lines_in (s.sent at)) (s.begun at) other (s.are at)))
        ];
        holds = λ at d below. elim (cases_eq at place) [
          | inl same ↦
              let low : place < length waiting = omega (arith, below, same, length-set waiting place w) in
              subst (λ (k : ℕ). Holds most (cond (place == k) left (s.begun k)) (get_or (set waiting place w) k d)) (sym same)
              (subst (λ (b : Bool). Holds most (cond b left (s.begun place)) (get_or (set waiting place w) place d)) (sym (eq-eqb place place refl))
              (subst (λ (x : Waiting). Holds most left x) (sym (get_or-set_same waiting place w d low)) holds))
          | inr other ↦
              subst (λ (b : Bool). Holds most (cond b left (s.begun at)) (get_or (set waiting place w) at d)) (sym (ne_eqb place at (λ same. other (sym same))))
              (subst (λ (x : Waiting). Holds most (s.begun at) x) (sym (get_or-set_other waiting place at w d other)) (s.holds at d (omega (arith, below, length-set waiting place w))))
        ];
        sends = subst (λ (ws : List Object). AreForwarded (behind s.sent (only place bs)) first ws) (sym (map-set seen wires place new))
            (AreForwarded-next s.sent (only place bs) first (map seen wires) (set (map seen wires) place (seen new)) s.sends (AreForwarded-only place bs (map seen wires) (seen old) (seen new) within there one.sends));
        counted = one.counted ∙ ap (add_totals t_mid) (place_total nodes place bs owned)
            ∙ ap (λ (x : List Total). add_totals x (totals_by nodes 0 0 [] (only place bs))) s.counted
            ∙ add_totals-next nodes packets 0 long 0 routes [] s.sent (only place bs) t
            ∙ (λ i. add_totals t (totals_by nodes (and_none packets i) (and_none long i) (append-nil routes i)
            (behind s.sent (only place bs))));
      }

  -- a line was counted
  pub count_line : (wires : List Object) (p : ProxyTotals) (t_now : List Total) (r : Route)
      → t_now ≡ add_totals (totals_view p) (totals_of_route r)
      → Stands says most nodes packets long routes waiting first wires t (totals_view p)
      → Stands says most nodes packets long (routes ++ r ∷ []) waiting first wires t t_now
  count_line wires p t_now r counts s = record {
    sent = s.sent;
    begun = s.begun;
    are = s.are;
    holds = s.holds;
    sends = s.sends;
    counted = counts ∙ one_total nodes r p ∙ ap (λ (x : List Total). add_totals x (totals_by nodes 0 0 (r ∷ []) no_packets)) s.counted
        ∙ add_totals-next nodes packets 0 long 0 routes (r ∷ []) s.sent no_packets t
        ∙ (λ i. add_totals t (totals_by nodes (and_none packets i) (and_none long i) (routes ++ r ∷ []) (behind-none s.sent i)));
  }

  -- a line that is too long was counted
  pub count_long : (wires : List Object) (p : ProxyTotals) (t_now : List Total)
      → t_now ≡ add_totals (totals_view p) (totals_by [] 0 1 [] no_packets)
      → Stands says most nodes packets long routes waiting first wires t (totals_view p)
      → Stands says most nodes packets (long + 1) routes waiting first wires t t_now
  count_long wires p t_now counts s = record {
    sent = s.sent;
    begun = s.begun;
    are = s.are;
    holds = s.holds;
    sends = s.sends;
    counted = counts ∙ plain_total nodes 0 1 p ∙ ap (λ (x : List Total). add_totals x (totals_by nodes 0 1 [] no_packets)) s.counted
        ∙ add_totals-next nodes packets 0 long 1 routes [] s.sent no_packets t
        ∙ (λ i. add_totals t (totals_by nodes (and_none packets i) (long + 1) (append-nil routes i) (behind-none s.sent i)));
  }

-- a read of which no line was taken
under_way_first : (most : ℕ) (nodes : List Node) (up packets : ℕ) (waiting : List Waiting) (wires : List Object) (t t_now : List Total)
    → NoneWaits most waiting → t_now ≡ add_totals t (totals_by nodes packets 0 [] no_packets)
    → AreUnderWay most nodes up packets 0 [] waiting wires wires t t_now
under_way_first most nodes up packets waiting wires t t_now none counts = record {
  sent = no_packets;
  begun = λ place. [];
  are = λ place. record { past = λ beyond. refl; cut = λ ls. refl };
  holds = none;
  sends = AreForwarded-none wires;
  counted = counts;
}

-- a datagram of which no line was taken
pub datagram_first : (most : ℕ) (nodes : List Node) (up : ℕ) (waiting : List Waiting) (wires : List Object) (t : ProxyTotals)
    (t_now : List Total) → NoneWaits most waiting → t_now ≡ add_totals (totals_view t) (totals_by [] 1 0 [] no_packets)
    → AreUnderWay most nodes up 1 0 [] waiting wires wires (totals_view t) t_now
datagram_first most nodes up waiting wires t t_now none counts = under_way_first most nodes up 1 waiting wires (totals_view t) t_now none
    (counts ∙ plain_total nodes 1 0 t)

-- a read of a stream of which no line was taken
pub stream_first : (most : ℕ) (nodes : List Node) (up : ℕ) (waiting : List Waiting) (wires : List Object) (t : ProxyTotals)
    → NoneWaits most waiting → AreUnderWay most nodes up 0 0 [] waiting wires wires (totals_view t) (totals_view t)
stream_first most nodes up waiting wires t none = under_way_first most nodes up 0 waiting wires (totals_view t) (totals_view t) none
    (still_total nodes t)

module _ (nodes : List Node) (up : ℕ) where
  -- no line was taken
  pub TakesLines-none : (waiting : List Waiting) (wires : List Object) (totals : List Total)
      → TakesLines nodes up [] 0 waiting waiting wires wires totals totals
  TakesLines-none waiting wires totals = record {
    on = λ most packets long done first t under.
        subst (λ (x : ℕ × List (List ℕ)). AreUnderWay most nodes up packets x.0 x.1 waiting first wires t totals)
        (λ i. (sym (and_none long) i, sym (append-nil done) i)) under;
  }

  -- lines were taken, none of which is too long
  pub TakesLines-short : (xs : List (List ℕ)) (a b : List Waiting) (u v : List Object) (p q : List Total)
      → ((most packets long : ℕ) (done : List (List ℕ)) (first : List Object) (t : List Total)
      → AreUnderWay most nodes up packets long done a first u t p → AreUnderWay most nodes up packets long (done ++ xs) b first v t q)
      → TakesLines nodes up xs 0 a b u v p q
  TakesLines-short xs a b u v p q so = record {
    on = λ most packets long done first t under.
        subst (λ (n : ℕ). AreUnderWay most nodes up packets n (done ++ xs) b first v t q) (sym (and_none long))
        (so most packets long done first t under);
  }

  -- lines were taken behind lines
  pub TakesLines-next : (xs ys : List (List ℕ)) (m n : ℕ) (a b c : List Waiting) (u v w : List Object) (p q r : List Total)
      → TakesLines nodes up xs m a b u v p q → TakesLines nodes up ys n b c v w q r → TakesLines nodes up (xs ++ ys) (m + n) a c u w p r
  TakesLines-next xs ys m n a b c u v w p q r first second = record {
    on = λ most packets long done begin t under.
        subst (λ (x : ℕ × List (List ℕ)). AreUnderWay most nodes up packets x.0 x.1 c begin w t r)
        (λ i. (plus_assoc long m n i, append_assoc done xs ys i))
        (second.on most packets (long + m) (done ++ xs) begin t (first.on most packets long done begin t under));
  }

  -- a line that is too long was taken
  pub TakesLines-long : (waiting : List Waiting) (wires : List Object) (p : ProxyTotals) (t_now : List Total)
      → t_now ≡ add_totals (totals_view p) (totals_by [] 0 1 [] no_packets)
      → TakesLines nodes up [] 1 waiting waiting wires wires (totals_view p) t_now
  TakesLines-long waiting wires p t_now counts = record {
    on = λ most packets long done first t under.
        subst (λ (ds : List (List ℕ)). AreUnderWay most nodes up packets (long + 1) ds waiting first wires t t_now) (sym (append-nil done))
        (count_long (IsUnderWay most nodes up done) (IsUnderWay most nodes up done) most nodes packets long
        (routes_by nodes up done) waiting first t wires p t_now counts under);
  }

module _ (most : ℕ) (nodes : List Node) (up packets long : ℕ) (done : List (List ℕ)) (waiting : List Waiting) (first wires : List Object)
    (t t_now : List Total) where
  -- the lines of a read were taken, and are sent
  pub flush_first : AreUnderWay most nodes up packets long done waiting first wires t t_now
      → Stands (IsLeft most nodes up done 0) most nodes packets long (routes_by nodes up done) waiting first wires t t_now
  flush_first s = said (IsUnderWay most nodes up done) (IsLeft most nodes up done 0) most nodes packets long
      (routes_by nodes up done) waiting first t wires t_now (left_first most nodes up done) s

  -- no line waits then
  pub sent_none : AreSent most nodes up packets long done waiting first wires t t_now → NoneWaits most waiting
  sent_none s place d below =
      subst (λ (b : List (List ℕ)). Holds most b (get_or waiting place d))
      (waits_not most nodes up done place (map (λ (b : Batch). b.lines) (s.sent place)) (s.begun place) (s.are place))
      (s.holds place d below)

  -- a read whose lines were sent
  pub read_sent : AreSent most nodes up packets long done waiting first wires t t_now
      → Forwards most nodes packets (record { lines = done; long = long; up = up } ∷ []) first wires t t_now
  read_sent s =
      let lines_in : List Batch → List (List (List ℕ)) = map (λ (b : Batch). b.lines) in
      let read : Read = record { lines = done; long = long; up = up } in
      let once : long_in (read ∷ []) ≡ long = sum_by-cons (λ (r : Read). r.long) read [] ∙ omega arith in
      record {
        batched = s.sent;
        are = λ place.
            let none = waits_not most nodes up done place (lines_in (s.sent place)) (s.begun place) (s.are place) in
            sym (append-nil (lines_in (s.sent place))) ∙ ap (λ (b : List (List ℕ)). lines_in (s.sent place) ++ under_way b) (sym none)
            ∙ sym ((s.are place).cut)
            ∙ sym (append-nil (batches most (lines_for nodes up place done)));
        sends = s.sends;
        counted = s.counted ∙ (λ i. add_totals t (totals_by nodes packets (sym once i)
            (sym (append-nil (routes_by nodes up done)) i) s.sent));
      }

-- no read
pub Forwards-none : (most : ℕ) (nodes : List Node) (wires : List Object) (t t_now : List Total)
    → t_now ≡ add_totals t (totals_by nodes 0 0 [] no_packets) → Forwards most nodes 0 [] wires wires t t_now
Forwards-none most nodes wires t t_now counts = record {
  batched = no_packets;
  are = λ place. refl;
  sends = AreForwarded-none wires;
  counted = counts;
}

-- reads behind reads
pub Forwards-next : (most : ℕ) (nodes : List Node) (m n : ℕ) (xs ys : List Read) (a b c : List Object) (s t u : List Total)
    → Forwards most nodes m xs a b s t → Forwards most nodes n ys b c t u → Forwards most nodes (m + n) (xs ++ ys) a c s u
Forwards-next most nodes m n xs ys a b c s t u first second = record {
  batched = behind first.batched second.batched;
  are = λ place.
      map-append (λ (b : Batch). b.lines) (first.batched place) (second.batched place) ∙ (λ i. first.are place i ++ second.are place i)
      ∙ sym (flat_map-append (λ (r : Read). batches most (lines_to nodes place r)) xs ys);
  sends = AreForwarded-next first.batched second.batched a b c first.sends second.sends;
  counted = second.counted ∙ ap (λ (x : List Total). add_totals x (relay_counts nodes n ys second.batched)) first.counted
      ∙ add_totals-next nodes m n (long_in xs) (long_in ys) (routes_of nodes xs) (routes_of nodes ys) first.batched second.batched s
      ∙ (λ i. add_totals s (totals_by nodes (m + n) (sym (sum_by-append (λ (r : Read). r.long) xs ys) i)
      (sym (flat_map-append (λ (r : Read). routes_by nodes r.up r.lines) xs ys) i) (behind first.batched second.batched)));
}

-- totals that were counted by themselves, from nothing on, add as much as what they count
added_once : (p : ProxyTotals) (nodes : List Node) (packets long : ℕ) (routes : List Route) (batched : Batched)
    → add_totals (totals_view p) (add_totals no_totals (totals_by nodes packets long routes batched))
    ≡ add_totals (totals_view p) (totals_by nodes packets long routes batched)
added_once p nodes packets long routes batched = λ i.
    (codes "packets", once p.packets packets i) ∷ (codes "lines", once p.lines (length routes + long) i)
    ∷ (codes "bad", once p.bad (count_by is_bad routes + long) i)
    ∷ (codes "sent", once p.sent (over_nodes nodes batched lines_sent) i) ∷ (codes "unowned", once p.unowned (count_by is_unowned routes) i) ∷ (codes "send_faults", once p.send_faults (over_nodes nodes batched lines_not_sent) i) ∷ []
  where
    once : (count more : ℕ) → counted count (counted 0 more) ≡ counted count more
    once count more = omega arith

-- reads that were counted by themselves, behind totals of others
pub Forwards-apart : (most : ℕ) (nodes : List Node) (packets : ℕ) (reads : List Read) (wires wires_now : List Object) (p : ProxyTotals)
    (none came_to now : List Total) → none ≡ no_totals → now ≡ add_totals (totals_view p) came_to
    → Forwards most nodes packets reads wires wires_now none came_to → Forwards most nodes packets reads wires wires_now (totals_view p) now
Forwards-apart most nodes packets reads wires wires_now p none came_to now nothing both f = record {
  batched = f.batched;
  are = f.are;
  sends = f.sends;
  counted = both ∙ ap (add_totals (totals_view p)) (f.counted
      ∙ ap (λ (t : List Total). add_totals t (relay_counts nodes packets reads f.batched)) nothing)
      ∙ added_once p nodes packets (long_in reads) (routes_of nodes reads) f.batched;
}

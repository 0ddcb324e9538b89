-- What lines and packets count for: each line was bad, had no owner, or is in one packet.
use Rattle.std.proofs.Common.{◌≡◌, ◌∙◌, ℕ, zero, suc, ◌+◌, ◌<◌, ◌≤◌, Bool, true, false, cond, List, [], ◌∷◌, ◌++◌, length, map, flat_map, codes, refl, sym, ap, arith, length-append, sum_by, eq-eqb, ne_eqb}
use Rattle.std.specs.Prelude.{count_by}
use Rattle.std.specs.List.{AllByRecursion, range_with_len}
use Rattle.std.specs.Str.{bytes_eq}
use Rattle.std.proofs.lemmas.List.Concat.{length-flat_map}
use Rattle.std.proofs.lemmas.List.Sums.{length-filter, sum_by-append, sum_by-cons}
use Rattle.sd_model_settings.specs.Entries.{Node}
use Rattle.sd_model_record.specs.Desk.{counted}
use Rattle.sd_model_record.specs.Totals.{Total, number_in}
use Rattle.sd_model_proxy.specs.Routes.{AreBatched, Batch, Batched, add_totals, no_totals, over_nodes, sums_of_totals, totals_by, Bad, Read, Route, To, Unowned, goes_to, is_bad, is_unowned, route}
use Rattle.sd_model_proxy.proofs.BatchLemmas.{packets-lines}
use Rattle.sd_model_proxy.proofs.RouteLemmas.{goes-node}
use Rattle.sd_model_proxy.proofs.SendLemmas.{behind, only, only-elsewhere, only-here}
use Rattle.sd_model_proxy.proofs.Short.{long_in, routes_of, lines_to, lines_sent, lines_not_sent}
use Rattle.sd_model_shard.specs.Shard.{last_number}

pub both_sums : {X : Type 0} (f g h : X → ℕ) → ((x : X) → h x ≡ f x + g x) → (xs : List X) → sum_by h xs ≡ sum_by f xs + sum_by g xs
both_sums f g h both [] = refl
both_sums f g h both (x ∷ xs) = omega (arith, sum_by-cons f x xs, sum_by-cons g x xs, sum_by-cons h x xs, both x, both_sums f g h both xs)

-- whether a line went to a node
abbrev went : Route → Bool
went (To place) = true
went goes = false

one_end : (r : Route) → 1 ≡ cond (is_bad r) 1 0 + cond (went r) 1 0 + cond (is_unowned r) 1 0
one_end Bad = refl
one_end Unowned = refl
one_end (To place) = refl

all_ends : (routes : List Route) → length routes ≡ count_by is_bad routes + count_by went routes + count_by is_unowned routes
all_ends [] = refl
all_ends (r ∷ routes) =
    omega (arith, one_end r, all_ends routes, sum_by-cons (λ x. cond (is_bad x) 1 0) r routes, sum_by-cons (λ x. cond (went x) 1 0) r routes, sum_by-cons (λ x. cond (is_unowned x) 1 0) r routes)

-- what a line adds of the lines to the node in a place
abbrev adds : Route → ℕ → ℕ
adds r place = cond (goes_to place r) 1 0

adds-nowhere : (a n : ℕ) (r : Route) → ((at : ℕ) → a ≤ at → goes_to at r ≡ false) → sum_by (adds r) (range_with_len a n) ≡ 0
adds-nowhere a zero r elsewhere = refl
adds-nowhere a (suc n) r elsewhere =
    sum_by-cons (adds r) a (range_with_len (a + 1) n) ∙ (λ i. cond (elsewhere a (omega arith) i) 1 0 + adds-nowhere (a + 1) n r (λ at past. elsewhere at (omega (arith, past))) i)

adds-somewhere : (a n k place : ℕ) → place ≡ a + k → k < n → sum_by (adds (To place)) (range_with_len a n) ≡ 1
adds-somewhere a zero k place is inside = absurd (omega (arith, inside))
adds-somewhere a (suc n) zero place is inside =
    let here : goes_to a (To place) ≡ true = eq-eqb place a (omega (arith, is)) in
    let rest = adds-nowhere (a + 1) n (To place) (λ at past. ne_eqb place at (λ same. omega (arith, is, same, past))) in
    sum_by-cons (adds (To place)) a (range_with_len (a + 1) n) ∙ (λ i. cond (here i) 1 0 + rest i)
adds-somewhere a (suc n) (suc k) place is inside =
    let elsewhere : goes_to a (To place) ≡ false = ne_eqb place a (λ same. omega (arith, is, same)) in
    let rest = adds-somewhere (a + 1) n k place (omega (arith, is)) (omega (arith, inside)) in
    sum_by-cons (adds (To place)) a (range_with_len (a + 1) n) ∙ (λ i. cond (elsewhere i) 1 0 + rest i)

-- a line goes to one of so many nodes, if to any
abbrev IsInside : ℕ → Route → Type 0
IsInside nodes r = (place : ℕ) → r ≡ To place → place < nodes

adds-one : (n : ℕ) (r : Route) → IsInside n r → sum_by (adds r) (range_with_len 0 n) ≡ cond (went r) 1 0
adds-one n Bad inside = adds-nowhere 0 n Bad (λ at past. refl)
adds-one n Unowned inside = adds-nowhere 0 n Unowned (λ at past. refl)
adds-one n (To place) inside = adds-somewhere 0 n place place (omega arith) (inside place refl)

-- lines that go to the node in a place
abbrev at_place : List Route → ℕ → ℕ
at_place routes place = count_by (goes_to place) routes

over_places : (n : ℕ) (routes : List Route) → AllByRecursion (IsInside n) routes → sum_by (at_place routes) (range_with_len 0 n) ≡ count_by went routes
over_places n [] all = none (range_with_len 0 n) where
  none : (places : List ℕ) → sum_by (at_place []) places ≡ 0
  none [] = refl
  none (p ∷ places) = omega (arith, sum_by-cons (at_place []) p places, none places)
over_places n (r ∷ routes) all =
    both_sums (adds r) (at_place routes) (at_place (r ∷ routes)) (λ place. sum_by-cons (λ x. cond (goes_to place x) 1 0) r routes) (range_with_len 0 n)
    ∙ (λ i. adds-one n r all.0 i + over_places n routes all.1 i) ∙ sym (sum_by-cons (λ x. cond (went x) 1 0) r routes)

-- where the lines of a datagram go
abbrev routes_in : List Node → ℕ → List (List ℕ) → List Route
routes_in nodes up = map (λ line. route line nodes up)

all_inside : (nodes : List Node) (reads : List Read) → AllByRecursion (IsInside (length nodes)) (routes_of nodes reads)
all_inside nodes [] = tt
all_inside nodes (r ∷ reads) = before r.lines (routes_of nodes reads) (all_inside nodes reads) where
  before : (ls : List (List ℕ)) (routes : List Route) → AllByRecursion (IsInside (length nodes)) routes → AllByRecursion (IsInside (length nodes)) (routes_in nodes r.up ls ++ routes)
  before [] routes all = all
  before (l ∷ ls) routes all = (goes-node l nodes r.up, before ls routes all)

count-map : (p : Route → Bool) (f : List ℕ → Route) (ls : List (List ℕ)) → count_by p (map f ls) ≡ count_by (λ l. p (f l)) ls
count-map p f [] = refl
count-map p f (l ∷ ls) =
    sum_by-cons (λ x. cond (p x) 1 0) (f l) (map f ls) ∙ (λ i. cond (p (f l)) 1 0 + count-map p f ls i) ∙ sym (sum_by-cons (λ x. cond (p (f x)) 1 0) l ls)

-- as many lines as go to a place
many-to : (nodes : List Node) (place : ℕ) (reads : List Read) → length (flat_map (lines_to nodes place) reads) ≡ at_place (routes_of nodes reads) place
many-to nodes place [] = refl
many-to nodes place (r ∷ reads) =
    length-append (lines_to nodes place r) (flat_map (lines_to nodes place) reads)
    ∙ (λ i. (length-filter (λ l. goes_to place (route l nodes r.up)) r.lines ∙ sym (count-map (goes_to place) (λ l. route l nodes r.up) r.lines)) i + many-to nodes place reads i)
    ∙ sym (sum_by-append (λ x. cond (goes_to place x) 1 0) (routes_in nodes r.up r.lines) (routes_of nodes reads))

-- each packet was sent or not, whole
sent_or_not : (bs : List Batch) → length (flat_map (λ b. b.lines) bs) ≡ lines_sent bs + lines_not_sent bs
sent_or_not bs = length-flat_map (λ b. b.lines) bs ∙ both_sums (λ (b : Batch). cond b.is_failed 0 (length b.lines)) (λ (b : Batch). cond b.is_failed (length b.lines) 0) (λ (b : Batch). length b.lines) (λ b. one b b.is_failed refl) bs
  where
    one : (b : Batch) (f : Bool) → b.is_failed ≡ f → length b.lines ≡ cond b.is_failed 0 (length b.lines) + cond b.is_failed (length b.lines) 0
    one b true is = omega arith ∙ sym (ap (λ f. cond f 0 (length b.lines) + cond f (length b.lines) 0) is)
    one b false is = omega arith ∙ sym (ap (λ f. cond f 0 (length b.lines) + cond f (length b.lines) 0) is)

-- as many lines were sent, or not, as went to nodes
all_packed : (most : ℕ) (nodes : List Node) (reads : List Read) (batched : Batched) → AreBatched most nodes reads batched → count_by went (routes_of nodes reads) ≡ over_nodes nodes batched lines_sent + over_nodes nodes batched lines_not_sent
all_packed most nodes reads batched are =
    let places = range_with_len 0 (length nodes) in
    sym (over_places (length nodes) (routes_of nodes reads) (all_inside nodes reads))
    ∙ both_sums (λ place. lines_sent (batched place)) (λ place. lines_not_sent (batched place)) (at_place (routes_of nodes reads))
    (λ place. sym (many-to nodes place reads) ∙ ap length (sym (packets-lines most nodes reads batched are place)) ∙ sent_or_not (batched place)) places

pub all_fates : (most : ℕ) (nodes : List Node) (reads : List Read) (batched : Batched) → AreBatched most nodes reads batched
    → length (routes_of nodes reads) + long_in reads ≡ (count_by is_bad (routes_of nodes reads) + long_in reads) + over_nodes nodes batched lines_sent + count_by is_unowned (routes_of nodes reads) + over_nodes nodes batched lines_not_sent
all_fates most nodes reads batched are = omega (arith, all_ends (routes_of nodes reads), all_packed most nodes reads batched are)

-- a number of lines that hasn't reached the last count is the sum of its parts
pub counted_fates : (n a b c d : ℕ) → n ≡ a + b + c + d → counted 0 n < last_number → counted 0 n ≡ counted 0 a + counted 0 b + counted 0 c + counted 0 d
counted_fates n a b c d is few = omega arith

-- a number of packets after others
over-behind : (number : List Batch → ℕ) → ((xs ys : List Batch) → number (xs ++ ys) ≡ number xs + number ys) → (nodes : List Node) (first second : Batched) → over_nodes nodes (behind first second) number ≡ over_nodes nodes first number + over_nodes nodes second number
over-behind number adds nodes first second = both_sums (λ place. number (first place)) (λ place. number (second place)) (λ place. number (first place ++ second place)) (λ place. adds (first place) (second place)) (range_with_len 0 (length nodes))

-- what lines and packets count for under a name, and what others after them do
number_in-lines : (nodes : List Node) (m n j k : ℕ) (xs ys : List Route) (first second : Batched) (name : List ℕ)
    → number_in (totals_by nodes (m + n) (j + k) (xs ++ ys) (behind first second)) name ≡ number_in (totals_by nodes m j xs first) name + number_in (totals_by nodes n k ys second) name
number_in-lines nodes m n j k xs ys first second name =
    both _ _ _ _ _ _ (bytes_eq (codes "packets") name) refl
    (both _ _ _ _ _ _ (bytes_eq (codes "lines") name) (omega (arith, length-append xs ys))
    (both _ _ _ _ _ _ (bytes_eq (codes "bad") name) (omega (arith, sum_by-append (λ x. cond (is_bad x) 1 0) xs ys))
    (both _ _ _ _ _ _ (bytes_eq (codes "sent") name) (over-behind lines_sent (sum_by-append (λ (b : Batch). cond b.is_failed 0 (length b.lines))) nodes first second)
    (both _ _ _ _ _ _ (bytes_eq (codes "unowned") name) (sum_by-append (λ x. cond (is_unowned x) 1 0) xs ys)
    (both _ _ _ _ _ _ (bytes_eq (codes "send_faults") name) (over-behind lines_not_sent (sum_by-append (λ (b : Batch). cond b.is_failed (length b.lines) 0)) nodes first second) refl)))))
  where
    both : (a b c x y z : ℕ) (is : Bool) → c ≡ a + b → z ≡ x + y → cond is c z ≡ cond is a x + cond is b y
    both a b c x y z true here rest = here
    both a b c x y z false here rest = rest

-- totals with others added twice
pub add-twice : (one other all : List Total) → ((name : List ℕ) → number_in all name ≡ number_in one name + number_in other name) → (t : List Total) → add_totals (add_totals t one) other ≡ add_totals t all
add-twice one other all sum [] = refl
add-twice one other all sum (t ∷ ts) = λ i. (t.0, next (number_in one t.0) (number_in other t.0) (number_in all t.0) (sum t.0) i) ∷ add-twice one other all sum ts i
  where
    next : (a b c : ℕ) → c ≡ a + b → counted (counted t.1 a) b ≡ counted t.1 c
    next a b c is = omega (arith, is)

-- totals of lines and packets after totals of others
pub add_totals-next : (nodes : List Node) (m n j k : ℕ) (xs ys : List Route) (first second : Batched) (t : List Total)
    → add_totals (add_totals t (totals_by nodes m j xs first)) (totals_by nodes n k ys second) ≡ add_totals t (totals_by nodes (m + n) (j + k) (xs ++ ys) (behind first second))
add_totals-next nodes m n j k xs ys first second =
    add-twice (totals_by nodes m j xs first) (totals_by nodes n k ys second) (totals_by nodes (m + n) (j + k) (xs ++ ys) (behind first second)) (number_in-lines nodes m n j k xs ys first second)

-- a number of the packets to one node
pub over-only : (number : List Batch → ℕ) → number [] ≡ 0 → (nodes : List Node) (place : ℕ) (bs : List Batch) → place < length nodes → over_nodes nodes (only place bs) number ≡ number bs
over-only number none nodes place bs inside = within 0 (length nodes) place (omega arith) inside where
  at_one : ℕ → ℕ
  at_one at = number (only place bs at)

  past : (a n : ℕ) → place < a → sum_by at_one (range_with_len a n) ≡ 0
  past a zero before = refl
  past a (suc n) before =
      omega (arith, sum_by-cons at_one a (range_with_len (a + 1) n), ap number (only-elsewhere place bs a (λ same. omega (arith, same, before))), none, past (a + 1) n (omega (arith, before)))

  within : (a n k : ℕ) → place ≡ a + k → k < n → sum_by at_one (range_with_len a n) ≡ number bs
  within a zero k is below = absurd (omega (arith, below))
  within a (suc n) zero is below =
      let here : at_one a ≡ number bs = ap (λ at. number (only place bs at)) (let same : a ≡ place = omega (arith, is) in same) ∙ ap number (only-here place bs) in
      omega (arith, sum_by-cons at_one a (range_with_len (a + 1) n), here, past (a + 1) n (omega (arith, is)))
  within a (suc n) (suc k) is below =
      omega (arith, sum_by-cons at_one a (range_with_len (a + 1) n), ap number (only-elsewhere place bs a (λ same. omega (arith, is, same))), none, within (a + 1) n k (omega (arith, is)) (omega (arith, below)))

-- the sum of one number
sum-one : {X : Type 0} (f : X → ℕ) (x : X) → sum_by f (x ∷ []) ≡ f x
sum-one f x = sum_by-cons f x [] ∙ omega arith

-- the sum of two numbers
sum-two : {X : Type 0} (f : X → ℕ) (x y : X) → sum_by f (x ∷ y ∷ []) ≡ f x + f y
sum-two f x y = sum_by-cons f x (y ∷ []) ∙ ap (λ n. f x + n) (sum-one f y)

-- the totals of a proxy with these numbers by name
abbrev named : (List ℕ → ℕ) → List Total
named number = map (λ t. (t.0, number t.0)) no_totals

-- totals with the same numbers are the same
named-alike : (f g : List ℕ → ℕ) → f (codes "packets") ≡ g (codes "packets") → f (codes "lines") ≡ g (codes "lines") → f (codes "bad") ≡ g (codes "bad") → f (codes "sent") ≡ g (codes "sent") → f (codes "unowned") ≡ g (codes "unowned")
    → f (codes "send_faults") ≡ g (codes "send_faults") → named f ≡ named g
named-alike f g packets lines bad sent unowned send_faults = λ i.
    (codes "packets", packets i) ∷ (codes "lines", lines i) ∷ (codes "bad", bad i) ∷ (codes "sent", sent i) ∷ (codes "unowned", unowned i) ∷ (codes "send_faults", send_faults i) ∷ []

-- a number of totals
abbrev under : List ℕ → List Total → ℕ
under name totals = number_in totals name

pub sums_of_totals-one : (number : List ℕ → ℕ) → sums_of_totals (named number ∷ []) ≡ named number
sums_of_totals-one number =
    named-alike (λ name. sum_by (under name) (named number ∷ [])) number
    (one (codes "packets")) (one (codes "lines")) (one (codes "bad")) (one (codes "sent")) (one (codes "unowned")) (one (codes "send_faults"))
  where
    one : (name : List ℕ) → sum_by (under name) (named number ∷ []) ≡ under name (named number)
    one name = sum-one (under name) (named number)

pub sums_of_totals-append : (xs ys : List (List Total)) → sums_of_totals (xs ++ ys) ≡ sums_of_totals (sums_of_totals xs ∷ sums_of_totals ys ∷ [])
sums_of_totals-append xs ys =
    named-alike (λ name. sum_by (under name) (xs ++ ys)) (λ name. sum_by (under name) (sums_of_totals xs ∷ sums_of_totals ys ∷ []))
    (both (codes "packets") refl refl) (both (codes "lines") refl refl) (both (codes "bad") refl refl) (both (codes "sent") refl refl) (both (codes "unowned") refl refl) (both (codes "send_faults") refl refl)
  where
    both : (name : List ℕ) → under name (sums_of_totals xs) ≡ sum_by (under name) xs → under name (sums_of_totals ys) ≡ sum_by (under name) ys → sum_by (under name) (xs ++ ys) ≡ sum_by (under name) (sums_of_totals xs ∷ sums_of_totals ys ∷ [])
    both name first second = sum_by-append (under name) xs ys ∙ (λ i. sym first i + sym second i) ∙ sym (sum-two (under name) (sums_of_totals xs) (sums_of_totals ys))

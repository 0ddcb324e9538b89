-- Lemmas on the index.
use Rattle.std.proofs.Common.{◌≡◌, ◌≢◌, ℕ, zero, suc, ◌+◌, ◌*◌, ◌^◌, ◌<◌, ◌≤◌, List, [], ◌∷◌, ◌++◌, length, map, get_or, set, Option, Some, None, replicate, refl, sym, subst, ap, ◌∙◌, arith}
use Rattle.std.proofs.lemmas.Bool.{cases_eq}
use Rattle.std.proofs.lemmas.List.{get_or_read, get_or-map, length-set, length-append, length-map, length-replicate, map-set, set-get_or, get_or-set_same, get_or-set_other}
use Rattle.sd_rows.specs.Index.{taken_count, place_in, places_in, tag_of, tags_in, no_cell, cell_of, cells_of, hash_in, hashes_in, no_spot, home_by, home_in, IsProbed, IsIndex, IsProbedWithHole, IsIndexWithHole}
use Rattle.sd_rows.specs.declared.index.Cell.{Cell}
use Rattle.sd_rows.specs.declared.index.Spot.{Spot}

-- a function that differs from another at one number
pub record Differs {X : Type 0} (f g : ℕ → X) (i : ℕ) (x : X) : Type 0 where
  pub at : g i ≡ x
  pub other : (j : ℕ) → j ≢ i → g j ≡ f j

pub put_probed :
    (cell cell' : ℕ → Option ℕ) (own_cell own_cell' : ℕ → ℕ) (home home' : ℕ → Option ℕ) (q k c : ℕ)
    → IsProbed cell own_cell home
    → home q ≡ None → cell c ≡ None → k ≤ c → ((d : ℕ) → k ≤ d → d < c → cell d ≢ None)
    → Differs cell cell' c (Some q) → Differs own_cell own_cell' q c → Differs home home' q (Some k)
    → IsProbed cell' own_cell' home'
put_probed cell cell' own_cell own_cell' home home' q k c w away empty from run C S H = record {
  own = λ d p e. grind (arith, cases_eq d c, cases_eq p q, w.own d p, w.live d p, C.at, C.other d, S.at, S.other p);
  live = λ d p e. grind (arith, cases_eq d c, cases_eq p q, w.live d p, C.at, C.other d, H.at, H.other p);
  named = λ p h e. grind (arith, cases_eq p q, cases_eq (own_cell p) c, w.named p h, C.at, C.other (own_cell p), S.at, S.other p, H.at, H.other p);
  after = λ p h e. grind (arith, cases_eq p q, w.after p h, S.at, S.other p, H.at, H.other p);
  walk = λ p h d e from' before z. grind (arith, cases_eq d c, cases_eq p q, w.walk p h d, run d, C.at, C.other d, S.at, S.other p, H.at, H.other p);
}

pub taken_count-set : {X : Type 0} (xs : List (Option X)) (i : ℕ) (x : X) → i < length xs → get_or xs i None ≡ None → taken_count (set xs i (Some x)) ≡ suc (taken_count xs)
taken_count-set [] i x lt e = absurd (omega arith)
taken_count-set (None ∷ xs) zero x lt e = grind arith
taken_count-set (Some y ∷ xs) zero x lt e = grind arith
taken_count-set (None ∷ xs) (suc i) x lt e = taken_count-set xs i x (omega arith) e
taken_count-set (Some y ∷ xs) (suc i) x lt e = grind (arith, taken_count-set xs i x (omega arith) e)

pub taken_count-unset : {X : Type 0} (xs : List (Option X)) (i : ℕ) → get_or xs i None ≢ None → suc (taken_count (set xs i None)) ≡ taken_count xs
taken_count-unset [] i e = absurd (e refl)
taken_count-unset (None ∷ xs) zero e = absurd (e refl)
taken_count-unset (Some y ∷ xs) zero e = grind arith
taken_count-unset (None ∷ xs) (suc i) e = taken_count-unset xs i e
taken_count-unset (Some y ∷ xs) (suc i) e = grind (arith, taken_count-unset xs i e)

pub taken_count-le : {X : Type 0} (xs : List (Option X)) → taken_count xs ≤ length xs
taken_count-le [] = omega arith
taken_count-le (None ∷ xs) = omega (arith, taken_count-le xs)
taken_count-le (Some y ∷ xs) = omega (arith, taken_count-le xs)

pub taken_count-lt : {X : Type 0} (xs : List (Option X)) (i : ℕ) → i < length xs → get_or xs i None ≡ None → taken_count xs < length xs
taken_count-lt [] i lt e = absurd (omega arith)
taken_count-lt (None ∷ xs) zero lt e = omega (arith, taken_count-le xs)
taken_count-lt (Some y ∷ xs) zero lt e = grind arith
taken_count-lt (None ∷ xs) (suc i) lt e = omega (arith, taken_count-lt xs i (omega arith) e)
taken_count-lt (Some y ∷ xs) (suc i) lt e = omega (arith, taken_count-lt xs i (omega arith) e)

-- where all from a place on are there, they are counted
pub taken_count-run : {X : Type 0} (xs : List (Option X)) (a : ℕ) → ((c : ℕ) → a ≤ c → c < length xs → get_or xs c None ≢ None) → length xs ≤ a + taken_count xs
taken_count-run [] a run = omega arith
taken_count-run (None ∷ xs) zero run = absurd (run 0 (omega arith) (omega arith) refl)
taken_count-run (Some y ∷ xs) zero run = omega (arith, taken_count-run xs 0 (λ c l m. run (suc c) (omega arith) (omega arith)))
taken_count-run (None ∷ xs) (suc a) run = omega (arith, taken_count-run xs a (λ c l m. run (suc c) (omega arith) (omega arith)))
taken_count-run (Some y ∷ xs) (suc a) run = omega (arith, taken_count-run xs a (λ c l m. run (suc c) (omega arith) (omega arith)))

-- a list that is written at one place differs there alone
pub set_differs : {X : Type 0} (xs : List X) (i : ℕ) (x d : X) → i < length xs → Differs (λ j. get_or xs j d) (λ j. get_or (set xs i x) j d) i x
set_differs xs i x d lt = record {
  at = get_or-set_same xs i x d lt;
  other = λ j ne. get_or-set_other xs i j x d ne;
}

-- where functions differ at one number, so do those that read them further
pub differs_by : {X Y : Type 0} (f g : ℕ → X) (i : ℕ) (x : X) (φ : X → Y) → Differs f g i x → Differs (λ j. φ (f j)) (λ j. φ (g j)) i (φ x)
differs_by f g i x φ d = record { at = ap φ d.at; other = λ j ne. ap φ (d.other j ne) }

-- what has a home has a hash
pub hash_of_home : (homes : ℕ) (o : Option ℕ) → home_in homes o ≢ None → o ≢ None
hash_of_home homes o ne e = ne (ap (home_in homes) e)

pub put_index :
    (cells : List (Option ℕ)) (tags own : List ℕ) (hashes : List (Option ℕ)) (homes q t c : ℕ)
    → IsIndex cells tags own hashes homes
    → q < length hashes → get_or hashes q None ≡ None → home_by homes t < homes
    → home_by homes t ≤ c → c < length cells → get_or cells c None ≡ None
    → ((d : ℕ) → home_by homes t ≤ d → d < c → get_or cells d None ≢ None)
    → IsIndex (set cells c (Some q)) (set tags c t) (set own q c) (set hashes q (Some t)) homes
put_index cells tags own hashes homes q t c w within away low from inside empty run =
    let H = set_differs hashes q (Some t) None within in
    let C = set_differs cells c (Some q) None inside in
    let T = set_differs tags c t 0 (omega (arith, w.tags_len, inside)) in
    let S = set_differs own q c 0 (omega (arith, w.own_len, within)) in
    let lh = length-set hashes q (Some t) in
    let away' : home_in homes (get_or hashes q None) ≡ None = ap (home_in homes) away in record {
      probed = put_probed _ _ _ _ _ _ q (home_by homes t) c w.probed away' empty from run C S (differs_by _ _ q (Some t) (home_in homes) H);
      tagged = λ d p e. grind (arith, cases_eq d c, cases_eq p q, w.tagged d p, C.at, C.other d, T.at, T.other d, H.at, H.other p, away);
      cells_len = grind (arith, w.cells_len, length-set cells c (Some q));
      tags_len = grind (arith, w.tags_len, length-set tags c t, length-set cells c (Some q));
      own_len = grind (arith, w.own_len, lh, length-set own q c);
      few = grind (arith, w.few, lh);
      small = w.small;
      low = λ p h e. grind (arith, cases_eq p q, w.low p h, H.at, H.other p, low);
      counts = grind (arith, w.counts, taken_count-set cells c q inside empty, taken_count-set hashes q t within away);
    }

pub hole_probed :
    (cell cell' : ℕ → Option ℕ) (own_cell own_cell' : ℕ → ℕ) (home home' : ℕ → Option ℕ) (q c o : ℕ)
    → IsProbed cell own_cell home → cell c ≡ Some q
    → Differs cell cell' c None → Differs own_cell own_cell' q o → Differs home home' q None
    → IsProbedWithHole cell' own_cell' home' c (c + 1)
hole_probed cell cell' own_cell own_cell' home home' q c o w here C S H = record {
  own = λ d p e. grind (arith, cases_eq d c, cases_eq p q, w.own d p, w.own c q, C.at, C.other d, S.other p);
  live = λ d p e. grind (arith, cases_eq d c, cases_eq p q, w.live d p, w.own d p, w.own c q, C.at, C.other d, H.at, H.other p);
  named = λ p h e. grind (arith, cases_eq p q, cases_eq (own_cell p) c, w.named p h, C.at, C.other (own_cell p), S.other p, H.at, H.other p);
  after = λ p h e. grind (arith, cases_eq p q, w.after p h, S.other p, H.at, H.other p);
  walk = λ p h d e from before ne z. grind (arith, cases_eq p q, w.walk p h d, C.at, C.other d, S.other p, H.at, H.other p);
  gap = C.at;
  passed = λ p h e l m. grind (arith, cases_eq p q, w.named p h, C.at, S.other p, H.at, H.other p);
}

pub skip_probed :
    (cell : ℕ → Option ℕ) (own_cell : ℕ → ℕ) (home : ℕ → Option ℕ) (hole next q k : ℕ)
    → IsProbedWithHole cell own_cell home hole next → cell next ≡ Some q → home q ≡ Some k → hole < k
    → IsProbedWithHole cell own_cell home hole (next + 1)
skip_probed cell own_cell home hole next q k w here has behind = record {
  own = w.own;
  live = w.live;
  named = w.named;
  after = w.after;
  walk = w.walk;
  gap = w.gap;
  passed = λ p h e l m. grind (arith, cases_eq (own_cell p) next, w.passed p h, w.named p h);
}

pub move_probed :
    (cell mid cell' : ℕ → Option ℕ) (own_cell own_cell' : ℕ → ℕ) (home : ℕ → Option ℕ) (hole next q k : ℕ)
    → IsProbedWithHole cell own_cell home hole next → cell next ≡ Some q → home q ≡ Some k → k ≤ hole → hole < next
    → Differs cell mid hole (Some q) → Differs mid cell' next None → Differs own_cell own_cell' q hole
    → IsProbedWithHole cell' own_cell' home next (next + 1)
move_probed cell mid cell' own_cell own_cell' home hole next q k w here has from before M C S =
    let at : cell' hole ≡ Some q = grind (arith, M.at, C.other hole) in
    let other : (d : ℕ) → d ≢ hole → d ≢ next → cell' d ≡ cell d = λ d n m. grind (arith, M.other d, C.other d) in record {
      own = λ d p e. grind (arith, cases_eq d hole, cases_eq d next, cases_eq p q, w.own d p, w.own next q, at, C.at, other d, S.at, S.other p);
      live = λ d p e. grind (arith, cases_eq d hole, cases_eq d next, cases_eq p q, w.live d p, at, C.at, other d);
      named = λ p h e. grind (arith, cases_eq p q, cases_eq (own_cell p) next, cases_eq (own_cell p) hole, w.named p h, w.gap, at, other (own_cell p), S.at, S.other p);
      after = λ p h e. grind (arith, cases_eq p q, w.after p h, S.at, S.other p);
      walk = λ p h d e l m ne z. grind (arith, cases_eq p q, cases_eq d hole, w.walk p h d, w.own next q, at, other d, S.at, S.other p);
      gap = C.at;
      passed = λ p h e l m. absurd (omega arith);
    }

pub end_probed :
    (cell : ℕ → Option ℕ) (own_cell : ℕ → ℕ) (home : ℕ → Option ℕ) (hole next : ℕ)
    → IsProbedWithHole cell own_cell home hole next → hole < next → cell next ≡ None
    → IsProbed cell own_cell home
end_probed cell own_cell home hole next w before empty = record {
  own = w.own;
  live = w.live;
  named = w.named;
  after = w.after;
  walk = λ p h d e l m z. grind (arith, cases_eq d hole, cases_eq (own_cell p) next, w.walk p h d, w.walk p h next, w.passed p h, w.named p h);
}

pub empty_index :
    (cells : List (Option ℕ)) (tags own : List ℕ) (hashes : List (Option ℕ)) (homes q c t o : ℕ)
    → IsIndex cells tags own hashes homes → q < length hashes → get_or hashes q None ≢ None → c < length cells → get_or cells c None ≡ Some q
    → IsIndexWithHole (set cells c None) (set tags c t) (set own q o) (set hashes q None) homes c (c + 1)
empty_index cells tags own hashes homes q c t o w within live inside here =
    let H = set_differs hashes q None None within in
    let C = set_differs cells c None None inside in
    let T = set_differs tags c t 0 (omega (arith, w.tags_len, inside)) in
    let S = set_differs own q o 0 (omega (arith, w.own_len, within)) in
    let lh = length-set hashes q None in record {
      probed = hole_probed _ _ _ _ _ _ q c o w.probed here C S (differs_by _ _ q None (home_in homes) H);
      tagged = λ d p e. grind (arith, cases_eq d c, cases_eq p q, w.tagged d p, w.probed.own d p, w.probed.own c q, here, C.at, C.other d, T.other d, H.other p);
      cells_len = grind (arith, w.cells_len, length-set cells c None);
      tags_len = grind (arith, w.tags_len, length-set tags c t, length-set cells c None);
      own_len = grind (arith, w.own_len, lh, length-set own q o);
      few = grind (arith, w.few, lh);
      small = w.small;
      low = λ p h e. grind (arith, cases_eq p q, w.low p h, H.at, H.other p);
      counts = grind (arith, w.counts, taken_count-unset cells c (λ e. grind (arith, e, here)), taken_count-unset hashes q live);
    }

pub skip_index :
    (cells : List (Option ℕ)) (tags own : List ℕ) (hashes : List (Option ℕ)) (homes hole next q k : ℕ)
    → IsIndexWithHole cells tags own hashes homes hole next → get_or cells next None ≡ Some q → home_in homes (get_or hashes q None) ≡ Some k → hole < k
    → IsIndexWithHole cells tags own hashes homes hole (next + 1)
skip_index cells tags own hashes homes hole next q k w here has behind = record {
  probed = skip_probed _ _ _ hole next q k w.probed here has behind;
  tagged = w.tagged;
  cells_len = w.cells_len;
  tags_len = w.tags_len;
  own_len = w.own_len;
  few = w.few;
  small = w.small;
  low = w.low;
  counts = w.counts;
}

pub move_index :
    (cells : List (Option ℕ)) (tags own : List ℕ) (hashes : List (Option ℕ)) (homes hole next q k t u : ℕ)
    → IsIndexWithHole cells tags own hashes homes hole next → get_or cells next None ≡ Some q → home_in homes (get_or hashes q None) ≡ Some k → k ≤ hole
    → t ≡ get_or tags next 0 → hole < next → next < length cells → q < length hashes
    → IsIndexWithHole (set (set cells hole (Some q)) next None) (set (set tags hole t) next u) (set own q hole) hashes homes next (next + 1)
move_index cells tags own hashes homes hole next q k t u w here has from tag before inside within =
    let M = set_differs cells hole (Some q) None (omega arith) in
    let lc = length-set cells hole (Some q) in
    let C = set_differs (set cells hole (Some q)) next None None (omega (arith, lc)) in
    let N = set_differs tags hole t 0 (omega (arith, w.tags_len)) in
    let lt = length-set tags hole t in
    let T = set_differs (set tags hole t) next u 0 (omega (arith, lt, w.tags_len)) in
    let S = set_differs own q hole 0 (omega (arith, w.own_len)) in
    let there : get_or (set cells hole (Some q)) next None ≢ None = λ e. grind (arith, e, M.other next, here) in record {
      probed = move_probed _ _ _ _ _ _ hole next q k w.probed here has from before M C S;
      tagged = λ d p e. grind (arith, cases_eq d hole, cases_eq d next, w.tagged d p, w.tagged next q, here, tag, M.at, M.other d, C.at, C.other d, N.at, N.other d, T.at, T.other d);
      cells_len = grind (arith, w.cells_len, lc, length-set (set cells hole (Some q)) next None);
      tags_len = grind (arith, w.tags_len, lt, length-set (set tags hole t) next u, lc, length-set (set cells hole (Some q)) next None);
      own_len = grind (arith, w.own_len, length-set own q hole);
      few = w.few;
      small = w.small;
      low = w.low;
      counts = grind (arith, w.counts, w.probed.gap, taken_count-set cells hole q (omega arith) w.probed.gap, taken_count-unset (set cells hole (Some q)) next there);
    }

pub end_index :
    (cells : List (Option ℕ)) (tags own : List ℕ) (hashes : List (Option ℕ)) (homes hole next : ℕ)
    → IsIndexWithHole cells tags own hashes homes hole next → hole < next → get_or cells next None ≡ None
    → IsIndex cells tags own hashes homes
end_index cells tags own hashes homes hole next w before empty = record {
  probed = end_probed _ _ _ hole next w.probed before empty;
  tagged = w.tagged;
  cells_len = w.cells_len;
  tags_len = w.tags_len;
  own_len = w.own_len;
  few = w.few;
  small = w.small;
  low = w.low;
  counts = w.counts;
}

pub present_within : {X : Type 0} (xs : List (Option X)) (i : ℕ) → get_or xs i None ≢ None → i < length xs
present_within [] i e = absurd (e refl)
present_within (x ∷ xs) zero e = omega arith
present_within (x ∷ xs) (suc i) e = omega (arith, present_within xs i e)

pub get_or_past : {X : Type 0} (xs : List X) (i : ℕ) (d : X) → length xs ≤ i → get_or xs i d ≡ d
get_or_past [] i d le = refl
get_or_past (x ∷ xs) zero d le = absurd (omega arith)
get_or_past (x ∷ xs) (suc i) d le = get_or_past xs i d (omega arith)

pub read_some : {X : Type 0} (xs : List (Option X)) (i : ℕ) (x : X) (r : Option X) → i < length xs → r ≡ get_or xs i r → r ≡ Some x → get_or xs i None ≡ Some x
read_some xs i x r lt is some = sym (get_or_read xs i r lt is None) ∙ some

pub some_of : {X : Type 0} (o : Option X) → o ≢ None → (x : X) × (o ≡ Some x)
some_of None ne = absurd (ne refl)
some_of (Some x) ne = (x, refl)

-- a live place stands in its own cell
pub own_cell_is :
    (cells : List (Option ℕ)) (tags own : List ℕ) (hashes : List (Option ℕ)) (homes q c : ℕ)
    → IsIndex cells tags own hashes homes → get_or hashes q None ≢ None → c ≡ get_or own q 0 → get_or cells c None ≡ Some q
own_cell_is cells tags own hashes homes q c w live is =
    let h = some_of (get_or hashes q None) live in
    subst (λ s. get_or cells s None ≡ Some q) (sym is) (w.probed.named q (home_by homes h.0) (ap (home_in homes) h.1))

pub replicate_at : {X : Type 0} (n i : ℕ) (d : X) → get_or (replicate n d) i d ≡ d
replicate_at zero i d = refl
replicate_at (suc n) zero d = refl
replicate_at (suc n) (suc i) d = replicate_at n i d

pub taken_count-none : {X : Type 0} (n : ℕ) (d : Option X) → d ≡ None → taken_count (replicate n d) ≡ 0
taken_count-none zero d e = refl
taken_count-none (suc n) None e = taken_count-none n None refl
taken_count-none (suc n) (Some x) e = grind (arith, e)

pub taken_count-same : {X : Type 0} (xs : List (Option X)) (i : ℕ) (x : X) → get_or xs i None ≢ None → taken_count (set xs i (Some x)) ≡ taken_count xs
taken_count-same [] i x e = absurd (e refl)
taken_count-same (None ∷ xs) zero x e = absurd (e refl)
taken_count-same (Some y ∷ xs) zero x e = refl
taken_count-same (None ∷ xs) (suc i) x e = taken_count-same xs i x e
taken_count-same (Some y ∷ xs) (suc i) x e = grind (arith, taken_count-same xs i x e)

pub taken_count-append : {X : Type 0} (xs : List (Option X)) (n : ℕ) → taken_count (xs ++ replicate n None) ≡ taken_count xs
taken_count-append [] n = taken_count-none n None refl
taken_count-append (None ∷ xs) n = taken_count-append xs n
taken_count-append (Some x ∷ xs) n = ap suc (taken_count-append xs n)

-- what is read of a list behind which the default stands is what is read of the list
pub get_or_padded : {X : Type 0} (xs : List X) (n i : ℕ) (d : X) → get_or (xs ++ replicate n d) i d ≡ get_or xs i d
get_or_padded [] n i d = replicate_at n i d
get_or_padded (x ∷ xs) n zero d = refl
get_or_padded (x ∷ xs) n (suc i) d = get_or_padded xs n i d

pub get_or_pushed : {X : Type 0} (xs : List X) (i : ℕ) (d : X) → get_or (xs ++ d ∷ []) i d ≡ get_or xs i d
get_or_pushed xs i d = get_or_padded xs 1 i d

pub length-pushed : {X : Type 0} (xs : List X) (x : X) → length (xs ++ x ∷ []) ≡ length xs + 1
length-pushed xs x = length-append xs (x ∷ [])

-- one place more, which isn't live
pub push_index :
    (cells : List (Option ℕ)) (tags own : List ℕ) (hashes : List (Option ℕ)) (homes : ℕ)
    → IsIndex cells tags own hashes homes → 2 * (length hashes + 1) ≤ homes
    → IsIndex cells tags (own ++ 0 ∷ []) (hashes ++ None ∷ []) homes
push_index cells tags own hashes homes w more =
    let H = λ (p : ℕ). get_or_pushed hashes p None in
    let S = λ (p : ℕ). get_or_pushed own p 0 in
    let lh = length-pushed {X = Option ℕ} hashes None in record {
      probed = record {
        own = λ c p e. grind (arith, S p, w.probed.own c p);
        live = λ c p e. grind (arith, H p, w.probed.live c p);
        named = λ p h e. grind (arith, H p, S p, w.probed.named p h);
        after = λ p h e. grind (arith, H p, S p, w.probed.after p h);
        walk = λ p h d e l m z. grind (arith, H p, S p, w.probed.walk p h d);
      };
      tagged = λ c p e. H p ∙ w.tagged c p e;
      cells_len = w.cells_len;
      tags_len = w.tags_len;
      own_len = omega (arith, w.own_len, lh, length-pushed own 0);
      few = omega (arith, lh, more);
      small = w.small;
      low = λ p h e. grind (arith, H p, w.low p h);
      counts = w.counts ∙ sym (taken_count-append hashes 1);
    }

pub open_index :
    (cells : List (Option ℕ)) (tags own : List ℕ) (hashes : List (Option ℕ)) (n : ℕ)
    → cells ≡ replicate (3 * n) None → length tags ≡ 3 * n → own ≡ [] → hashes ≡ [] → n ≤ 2 ^ 30
    → IsIndex cells tags own hashes (2 * n)
open_index cells tags own hashes n cs ts ss hs few =
    let lc : length cells ≡ 3 * n = ap length cs ∙ length-replicate (3 * n) None in
    let no_cell : (c : ℕ) → get_or cells c None ≡ None = λ c. ap (λ l. get_or l c None) cs ∙ replicate_at (3 * n) c None in
    let no_home : (p : ℕ) → home_in (2 * n) (get_or hashes p None) ≡ None = λ p. ap (λ l. home_in (2 * n) (get_or l p None)) hs in record {
      probed = record {
        own = λ c p e. grind (arith, e, no_cell c);
        live = λ c p e z. grind (arith, e, no_cell c);
        named = λ p h e. grind (arith, e, no_home p);
        after = λ p h e. grind (arith, e, no_home p);
        walk = λ p h d e l m z. grind (arith, e, no_home p);
      };
      tagged = λ c p e. grind (arith, e, no_cell c);
      cells_len = omega (arith, lc);
      tags_len = omega (arith, ts, lc);
      own_len = ap length ss ∙ sym (ap length hs);
      few = omega (arith, ap length hs);
      small = omega (arith, few);
      low = λ p h e. grind (arith, e, no_home p);
      counts = omega (arith, ap taken_count cs ∙ taken_count-none (3 * n) None refl, ap taken_count hs);
    }

pub map_replicate : {X Y : Type 0} (f : X → Y) (n : ℕ) (x : X) → map f (replicate n x) ≡ replicate n (f x)
map_replicate f zero x = refl
map_replicate f (suc n) x = ap (λ ys. f x ∷ ys) (map_replicate f n x)

subst4 :
    {C C' : List (Option ℕ)} {T T' S S' : List ℕ} {H H' : List (Option ℕ)}
    → C' ≡ C → T' ≡ T → S' ≡ S → H' ≡ H → (homes : ℕ) → IsIndex C T S H homes → IsIndex C' T' S' H' homes
subst4 c t s h homes w = rw (c, t, s, h) w

holed4 :
    {C C' : List (Option ℕ)} {T T' S S' : List ℕ} {H H' : List (Option ℕ)}
    → C' ≡ C → T' ≡ T → S' ≡ S → H' ≡ H → (homes hole next : ℕ) → IsIndexWithHole C T S H homes hole next → IsIndexWithHole C' T' S' H' homes hole next
holed4 c t s h homes hole next w = rw (c, t, s, h) w

-- the same of an index in the code: a place is taken in
pub put_indexed :
    (cells : List Cell) (spots : List Spot) (homes q t c : ℕ) (cell : Cell) (spot : Spot)
    → IsIndex (places_in cells) (tags_in cells) (cells_of spots) (hashes_in spots) homes
    → q < length spots → get_or (hashes_in spots) q None ≡ None → home_by homes t < homes
    → home_by homes t ≤ c → c < length cells → get_or (places_in cells) c None ≡ None
    → ((d : ℕ) → home_by homes t ≤ d → d < c → get_or (places_in cells) d None ≢ None)
    → place_in cell ≡ Some q → tag_of cell ≡ t → cell_of spot ≡ c → hash_in spot ≡ Some t
    → IsIndex (places_in (set cells c cell)) (tags_in (set cells c cell)) (cells_of (set spots q spot)) (hashes_in (set spots q spot)) homes
put_indexed cells spots homes q t c cell spot w within away low from inside empty run named tag own hash =
    let C : places_in (set cells c cell) ≡ set (places_in cells) c (Some q) = map-set place_in cells c cell ∙ ap (λ o. set (places_in cells) c o) named in
    let T : tags_in (set cells c cell) ≡ set (tags_in cells) c t = map-set tag_of cells c cell ∙ ap (λ o. set (tags_in cells) c o) tag in
    let S : cells_of (set spots q spot) ≡ set (cells_of spots) q c = map-set cell_of spots q spot ∙ ap (λ o. set (cells_of spots) q o) own in
    let H : hashes_in (set spots q spot) ≡ set (hashes_in spots) q (Some t) = map-set hash_in spots q spot ∙ ap (λ o. set (hashes_in spots) q o) hash in
    let lh : length (hashes_in spots) ≡ length spots = length-map spots hash_in in
    let lc : length (places_in cells) ≡ length cells = length-map cells place_in in
    subst4 C T S H homes (put_index (places_in cells) (tags_in cells) (cells_of spots) (hashes_in spots) homes q t c w (omega arith) away low from (omega arith) empty run)

-- a place is taken out of its cell
pub empty_indexed :
    (cells : List Cell) (spots : List Spot) (homes q c : ℕ)
    → IsIndex (places_in cells) (tags_in cells) (cells_of spots) (hashes_in spots) homes
    → get_or (hashes_in spots) q None ≢ None → get_or (places_in cells) c None ≡ Some q
    → IsIndexWithHole (places_in (set cells c no_cell)) (tags_in (set cells c no_cell)) (cells_of (set spots q no_spot)) (hashes_in (set spots q no_spot)) homes c (c + 1)
empty_indexed cells spots homes q c w live here =
    let C : places_in (set cells c no_cell) ≡ set (places_in cells) c None = map-set place_in cells c no_cell in
    let T : tags_in (set cells c no_cell) ≡ set (tags_in cells) c 0 = map-set tag_of cells c no_cell in
    let S : cells_of (set spots q no_spot) ≡ set (cells_of spots) q 0 = map-set cell_of spots q no_spot in
    let H : hashes_in (set spots q no_spot) ≡ set (hashes_in spots) q None = map-set hash_in spots q no_spot in
    holed4 C T S H homes c (c + 1)
    (empty_index (places_in cells) (tags_in cells) (cells_of spots) (hashes_in spots) homes q c 0 0 w (present_within (hashes_in spots) q live) live
    (present_within (places_in cells) c (λ n. grind (arith, n, here))) here)

-- a place is moved to the hole
pub move_indexed :
    (cells : List Cell) (spots : List Spot) (homes hole next q : ℕ) (cell : Cell) (spot : Spot)
    → IsIndexWithHole (places_in cells) (tags_in cells) (cells_of spots) (hashes_in spots) homes hole next
    → get_or (places_in cells) next None ≡ Some q → cell ≡ get_or cells next cell → next < length cells
    → home_by homes (tag_of cell) ≤ hole → hole < next → cell_of spot ≡ hole → hash_in spot ≡ Some (tag_of cell)
    → IsIndexWithHole (places_in (set (set cells hole cell) next no_cell)) (tags_in (set (set cells hole cell) next no_cell))
    (cells_of (set spots q spot)) (hashes_in (set spots q spot)) homes next (next + 1)
move_indexed cells spots homes hole next q cell spot w here is inside from before own hash =
    let place : place_in cell ≡ Some q = sym (get_or-map place_in cells next cell None inside ∙ ap place_in (sym is)) ∙ here in
    let tag : tag_of cell ≡ get_or (tags_in cells) next 0 = sym (get_or-map tag_of cells next cell 0 inside ∙ ap tag_of (sym is)) in
    let hashed : get_or (hashes_in spots) q None ≡ Some (tag_of cell) = w.tagged next q here ∙ ap Some (sym tag) in
    let C : places_in (set (set cells hole cell) next no_cell) ≡ set (set (places_in cells) hole (Some q)) next None =
    map-set place_in (set cells hole cell) next no_cell ∙ ap (λ l. set l next None) (map-set place_in cells hole cell ∙ ap (λ o. set (places_in cells) hole o) place) in
    let T : tags_in (set (set cells hole cell) next no_cell) ≡ set (set (tags_in cells) hole (tag_of cell)) next 0 =
    map-set tag_of (set cells hole cell) next no_cell ∙ ap (λ l. set l next 0) (map-set tag_of cells hole cell) in
    let S : cells_of (set spots q spot) ≡ set (cells_of spots) q hole = map-set cell_of spots q spot ∙ ap (λ o. set (cells_of spots) q o) own in
    let H : hashes_in (set spots q spot) ≡ hashes_in spots =
    map-set hash_in spots q spot ∙ ap (λ o. set (hashes_in spots) q o) (hash ∙ sym hashed) ∙ set-get_or (hashes_in spots) q None in
    holed4 C T S H homes next (next + 1)
    (move_index (places_in cells) (tags_in cells) (cells_of spots) (hashes_in spots) homes hole next q (home_by homes (tag_of cell)) (tag_of cell) 0 w here
    (ap (home_in homes) hashed) from tag before (subst (λ n. next < n) (sym (length-map cells place_in)) inside)
    (present_within (hashes_in spots) q (λ n. grind (arith, n, hashed))))

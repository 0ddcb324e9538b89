-- Each step of a turn keeps its rule.
use Rattle.std.proofs.Common.{◌≡◌, ℕ, zero, suc, ◌+◌, ◌-◌, ◌<◌, ◌≤◌, ◌≢◌, ◌⊎◌, Bool, true, false, true≢false, List, [], ◌∷◌, ◌++◌, map, length, get_or, set, sym, refl, ap, ◌∙◌, subst, inl, inr, ⊎_elim, arith, eqb, ne_eqb, zero-add, Option as Maybe, Some}
use mathlib.Core.Logic.{dite}
use native.Mathlib.Decide.{ℕ_discrete}
use mathlib.Core.Option.{Option, some, none, some-injective, some-ne-none}
use lib.ListN.{get_elem?}
use prog.Atomic.{either}
use Rattle.atomic_table.specs.Table.{State, Me, step, stepped, Act, keeps, takes, gives, Valid, carried_after, opening, Final, Seen, Allows, Splits, Joins}
use Rattle.atomic_table.proofs.Lists.{at_set, set_again, set_else, at_snoc, at_longer}
use Rattle.sd_turn.specs.declared.view.Account.{Account}
use Rattle.sd_turn.specs.declared.view.View.{View}
use Rattle.sd_turn.specs.Lists.{total, span}
use Rattle.sd_turn.specs.Views.{account, first_account, further_numbers, first_number, giver, first_view, newcomer, view, own_of, seen_of, IsPlain, holding, numbers_in, spent, both, kept_back, given_away}
use Rattle.sd_turn.specs.Rule.{Protocol, Fits, amount_at, Home, Away, Kept, Laws, Opens, Closes, Grows, took}
use Rattle.sd_turn.proofs.Totals.{total_one-span, total-span_last, set_at, each_set, total-append, total-set, total_same, term_le, summands_le, total_only, is, is_itself, span_once, Each-append, Each-others, Each-always}

module _ {S E F : Type 0} (b : Protocol S E F) (f : F) (count : ℕ) where
  abbrev Vw : Type 0
  Vw = View E F

  abbrev St : Type 0
  St = State S Vw

  abbrev Rule : St → Type 0
  Rule = Kept b f count

  abbrev state : List ℕ → List (Option S) → List Vw → St
  state ws hs vs = record { words = ws; homes = hs; views = vs }

  abbrev own_numbers : List (Account E) → List ℕ
  own_numbers = map (λ (a : Account E). a.number)

  -- a seat that stands by itself and has the turn or not
  abbrev pub single : ℕ → List E → List E → Bool → Vw
  single number own seen turn = view (account number own seen ∷ []) [] turn (Some f)

  differ : (x : Bool) → x ≡ true → x ≡ false → ⊥
  differ x p q = true≢false (sym p ∙ q)

  -- one seat has a new view with the same numbers
  remake : (s s' : St) (r : Rule s) (whole : List E) → b.sound f count whole → (id : ℕ) (v w : Vw) → get_elem? s.views id ≡ some v
      → ((k : ℕ) → amount_at b k w + b.amount k r.whole ≡ amount_at b k v + b.amount k whole)
      → ((h : ℕ → ℕ) → total h (numbers_in w) ≡ total h (numbers_in v))
      → ((j : ℕ) (u : Vw) → j ≢ id → get_elem? s.views j ≡ some u → Fits b whole u) → Fits b whole w → s'.views ≡ set s.views id w → Home b f whole s' ⊎ Away b whole s' → Rule s'
  remake s s' r whole is_sound id v w at more same others mine is_set turn = record {
    whole = whole;
    sound = is_sound;
    turn = turn;
    sums = λ k. ap (total (amount_at b k)) is_set ∙ (let t = total-set (amount_at b k) s.views id v w at in let q = r.sums k in let p = more k in omega arith);
    fits = λ j u e. each_set (Fits b whole) s.views id w others mine j u (subst (λ l. get_elem? l j ≡ some u) is_set e);
    numbered = λ h. ap (total (λ v. total h (numbers_in v))) is_set ∙ (total_same (λ v. total h (numbers_in v)) s.views id v w at (same h) ∙ r.numbered h);
  }

  -- the turn is taken with the value, or it was not free
  pub takes_turn : Laws b → (slots id number : ℕ) (own seen : List E) → let v : Vw = single number own seen false in
      Allows Rule slots id (v, []) 0 (λ x. either (eqb x 0) (number + 1) x) (took b (step slots 0 0 (number + 1) none) (v, []))
  takes_turn laws slots id number own seen s r _ at _ =
      let v : Vw = single number own seen false in
      let Goal : St → Type 0 = λ z. (w : Vw) × (a : Act S) × Valid z.homes [] a × Rule (stepped z 0 (either (eqb (get_or z.words 0 0) 0) (number + 1) (get_or z.words 0 0)) id [] w a)
      × took b (step slots 0 0 (number + 1) none) (v, []) (get_or z.words 0 0) (w, carried_after [] a) in
      ⊎_elim
      (λ (home : Home b f r.whole s).
      let y : S = home.1.0 in
      let w : Vw = holding v r.whole in
      let mine = (r.fits id v at).0 in
      subst (λ (z : List ℕ × List (Option S)). Goal (state z.0 z.1 s.views)) (λ i. (sym home.0 i, sym home.1.1 i)) (
        w,
        takes 0 y,
        refl,
        remake s (state ((number + 1) ∷ b.words r.whole) (none ∷ []) (set s.views id w)) r r.whole r.sound id v w at (λ k. refl) (λ h. refl) (λ j u _ e. r.fits j u e)
            ((laws.looks r.whole (account number own seen) mine.0, tt), tt) refl
            (inr (
              id,
              w,
              account number own r.whole,
              set_at s.views id v w at,
              refl,
              refl,
              refl,
              refl,
              refl,
              λ j u apart e. home.2 j u (sym (set_else s.views id j w apart) ∙ e),
            )),
        ((λ _. (y, r.whole, refl, home.1.2, ap Some (sym home.1.3), mine.0)), (λ ne. absurd (ne refl))),
      ))
      (λ (away : Away b r.whole s).
      let n : ℕ = away.2.number + 1 in
      let same = set_again s.views id v at in
      let off : eqb n 0 ≡ false = ne_eqb n 0 (λ e. omega arith) in
      subst (λ (z : List ℕ). Goal (state z s.homes s.views)) (sym away.7) (
        v,
        keeps,
        tt,
        subst (λ t. Rule (state (either t (number + 1) n ∷ b.words r.whole) s.homes (set s.views id v))) (sym off)
            (subst (λ (z : List ℕ × List Vw). Rule (state z.0 s.homes z.1)) (λ i. (away.7 i, sym same i)) r),
        ((λ e. absurd (omega arith)), (λ _. refl)),
      ))
      r.turn

  -- who has the turn is the one seat whose view has it
  pub holder : (s : St) (r : Rule s) (id number : ℕ) (own seen : List E) → get_elem? s.views id ≡ some (single number own seen true)
      → (seen ≡ r.whole) × (s.words ≡ (number + 1) ∷ b.words r.whole) × (s.homes ≡ none ∷ []) × ((j : ℕ) (u : Vw) → j ≢ id → get_elem? s.views j ≡ some u → u.turn ≡ false)
  holder s r id number own seen at =
      let v : Vw = single number own seen true in
      ⊎_elim
      (λ (home : Home b f r.whole s). absurd (differ v.turn refl (home.2 id v at)))
      (λ (away : Away b r.whole s).
      let here : id ≡ away.0 = dite (ℕ_discrete id away.0) (λ e. e) (λ apart. absurd (differ v.turn refl (away.9 id v apart at))) in
      let same : v ≡ away.1 = some-injective v away.1 (sym at ∙ (λ i. get_elem? s.views (here i)) ∙ away.3) in
      let mine : account number own seen ≡ away.2 = ap (λ (l : List (Account E)). first_account l) (ap (λ (x : Vw). x.accounts) same ∙ away.5) in
      (ap (λ (a : Account E). a.seen) mine ∙ away.6, away.7 ∙ (λ i. ((sym mine i).number + 1) ∷ b.words r.whole), away.8, λ j u apart e. away.9 j u (λ q. apart (q ∙ sym here)) e))
      r.turn

  -- the seat with the turn makes its own part and the whole longer
  pub changes : (s s' : St) (r : Rule s) (id number : ℕ) (own seen own' seen' : List E) (turn : Bool) → get_elem? s.views id ≡ some (single number own seen true) → seen ≡ r.whole
      → Grows b f count number own seen own' seen' → s'.views ≡ set s.views id (single number own' seen' turn) → Home b f seen' s' ⊎ Away b seen' s' → Rule s'
  changes s s' r id number own seen own' seen' turn at all grows is_set is_turn =
      let v : Vw = single number own seen true in
      let w : Vw = single number own' seen' turn in
      let fit = subst (λ l. Fits b l v) (sym all) (r.fits id v at) in
      remake s s' r seen' (grows.sound (subst (b.sound f count) (sym all) r.sound)) id v w at
      (λ k. let g = grows.amounts k in let e = ap (b.amount k) all in omega arith) (λ h. refl)
      (λ j u apart d.
      let t = summands_le (λ (x : Vw). total (is number) (numbers_in x)) s.views id j v u apart at d in
      let q = r.numbered (is number) in
      let o = span_once number 0 count in
      let i = is_itself number in
      let p = total-append (is number) (own_numbers u.accounts) u.spare in
      let fits = subst (λ l. Fits b l u) (sym all) (r.fits j u d) in
      let there : total (is number) (own_numbers u.accounts) ≡ 0 = omega arith in
      let spare : total (is number) u.spare ≡ 0 = omega arith in (
        Each-others (λ (a : Account E). a.number) number (b.fits seen) (b.fits seen') grows.others u.accounts there fits.0,
        Each-others (λ (n : ℕ). n) number (b.unused seen) (b.unused seen') grows.unused u.spare (ap (total (is number)) (map_itself u.spare) ∙ spare) fits.1,
      ))
      ((grows.mine fit.0.0, tt), tt) is_set is_turn
    where
      map_itself : (ns : List ℕ) → map (λ (n : ℕ). n) ns ≡ ns
      map_itself [] = refl
      map_itself (n ∷ ns) = ap (λ l. n ∷ l) (map_itself ns)

  -- the turn and the value are given back
  pub gives_turn : (slots id number : ℕ) (own seen own' seen' : List E) (y : S) → b.fixed y ≡ f → b.stands y seen' → b.words seen' ≡ b.words seen → Grows b f count number own seen own' seen'
      → (then : ℕ → Me S Vw → Type 0) → ((n : ℕ) → then n (single number own' seen' false, []))
      → Allows Rule slots id (single number own seen true, (0, y) ∷ []) 0 (λ _. 0) then
  gives_turn slots id number own seen own' seen' y of is_state quiet grows then promised s r _ at _ =
      let w : Vw = single number own' seen' false in
      let h = holder s r id number own seen at in
      let ws : List ℕ = b.words seen' in
      let words : b.words r.whole ≡ ws = ap b.words (sym h.0) ∙ sym quiet in
      let Goal : St → Type 0 = λ z. (w : Vw) × (a : Act S) × Valid z.homes ((0, y) ∷ []) a × Rule (stepped z 0 0 id ((0, y) ∷ []) w a)
      × then (get_or z.words 0 0) (w, carried_after ((0, y) ∷ []) a) in
      let after : St = state (0 ∷ ws) (some y ∷ []) (set s.views id w) in
      let kept : Rule after =
      changes s after r id number own seen own' seen' false at h.0 grows refl
      (inl (refl, (y, refl, is_state, of), each_set (λ (x : Vw). x.turn ≡ false) s.views id w (λ j u apart d. h.3 j u apart d) refl)) in
      subst (λ (z : List ℕ × List (Option S)). Goal (state z.0 z.1 s.views)) (λ i. (((λ j. (number + 1) ∷ sym words j) ∙ sym h.1) i, sym h.2 i)) (w, gives, tt, kept, promised (number + 1))

  -- a seat gives one of its numbers away
  pub splits_off : Laws b → (id n : ℕ) (accounts : List (Account E)) (ns : List ℕ) (fixed : Maybe F) → let v : Vw = view accounts (n ∷ ns) false fixed in Splits Rule id v (kept_back v) (given_away v)
  splits_off laws id n accounts ns fixed s r at =
      let v : Vw = view accounts (n ∷ ns) false fixed in
      let w : Vw = kept_back v in
      let u : Vw = given_away v in
      let vs : List Vw = set s.views id w in
      let fit = r.fits id v at in
      record {
        whole = r.whole;
        sound = r.sound;
        turn = ⊎_elim
            (λ (home : Home b f r.whole s). inl (
              home.0,
              home.1,
              λ j x e. ⊎_elim
                  (λ (t : get_elem? vs j ≡ some x). each_set (λ (z : Vw). z.turn ≡ false) s.views id w (λ i z _ d. home.2 i z d) refl j x t)
                  (λ (t : u ≡ x). ap (λ (z : Vw). z.turn) (sym t))
                  (at_snoc vs u x j e),
            ))
            (λ (away : Away b r.whole s).
            let apart : away.0 ≢ id = λ e. true≢false (sym away.4 ∙ ap (λ (z : Vw). z.turn) (some-injective away.1 v (sym away.3 ∙ (λ i. get_elem? s.views (e i)) ∙ at))) in
            inr (
              away.0,
              away.1,
              away.2,
              at_longer vs (u ∷ []) away.0 away.1 (set_else s.views id away.0 w apart ∙ away.3),
              away.4,
              away.5,
              away.6,
              away.7,
              away.8,
              λ j x ne e. ⊎_elim
                  (λ (t : get_elem? vs j ≡ some x). ⊎_elim
                  (λ (q : (j ≡ id) × (w ≡ x)). ap (λ (z : Vw). z.turn) (sym q.1))
                  (λ (q : (j ≢ id) × (get_elem? s.views j ≡ some x)). away.9 j x ne q.1)
                  (at_set s.views id j w x t))
                  (λ (t : u ≡ x). ap (λ (z : Vw). z.turn) (sym t))
                  (at_snoc vs u x j e),
            ))
            r.turn;
        sums = λ k.
            let a = total-append (amount_at b k) vs (u ∷ []) in
            let c = total_same (amount_at b k) s.views id v w at refl in
            let d = laws.none k in
            let q = r.sums k in
            omega arith;
        fits = λ j x e. ⊎_elim
            (λ (t : get_elem? vs j ≡ some x). each_set (Fits b r.whole) s.views id w (λ i z _ d. r.fits i z d) (fit.0, fit.1.1) j x t)
            (λ (t : u ≡ x). subst (Fits b r.whole) t ((laws.begins r.whole n fit.1.0, tt), tt))
            (at_snoc vs u x j e);
        numbered = λ h.
            let g : Vw → ℕ = λ x. total h (numbers_in x) in
            let a = total-append g vs (u ∷ []) in
            let d = total-set g s.views id v w at in
            let c = total-append h (own_numbers accounts) (n ∷ ns) in
            let e = total-append h (own_numbers accounts) ns in
            let q = r.numbered h in
            omega arith;
      }

  numbers-append : (xs ys : List (Account E)) → own_numbers (xs ++ ys) ≡ own_numbers xs ++ own_numbers ys
  numbers-append [] ys = refl
  numbers-append (x ∷ xs) ys = ap (λ l. x.number ∷ l) (numbers-append xs ys)

  -- a seat takes in another, and neither has the turn
  pub joins_in : (id : ℕ) (v : Vw) (other : ℕ) (w : Vw) → v.turn ≡ false → w.turn ≡ false → Joins Rule id v other w (both v w) spent
  joins_in id v other w v-free w-free s r at apart there' =
      let u : Vw = both v w in
      let vs : List Vw = set s.views id u in
      let there : get_elem? s.views other ≡ some w = sym (set_else s.views id other u apart) ∙ there' in
      let mine = r.fits id v at in
      let theirs = r.fits other w there in
      record {
        whole = r.whole;
        sound = r.sound;
        turn = ⊎_elim
            (λ (home : Home b f r.whole s). inl (
              home.0,
              home.1,
              each_set (λ (z : Vw). z.turn ≡ false) vs other spent
                  (λ j x _ e. each_set (λ (z : Vw). z.turn ≡ false) s.views id u (λ i z _ d. home.2 i z d) v-free j x e) refl,
            ))
            (λ (away : Away b r.whole s).
            let not_id : away.0 ≢ id = λ e. true≢false (sym away.4 ∙ ap (λ (z : Vw). z.turn) (some-injective away.1 v (sym away.3 ∙ (λ i. get_elem? s.views (e i)) ∙ at)) ∙ v-free) in
            let not_other : away.0 ≢ other = λ e. true≢false (sym away.4 ∙ ap (λ (z : Vw). z.turn) (some-injective away.1 w (sym away.3 ∙ (λ i. get_elem? s.views (e i)) ∙ there)) ∙ w-free) in
            inr (
              away.0,
              away.1,
              away.2,
              set_else vs other away.0 spent not_other ∙ set_else s.views id away.0 u not_id ∙ away.3,
              away.4,
              away.5,
              away.6,
              away.7,
              away.8,
              λ j x ne e. ⊎_elim
                  (λ (t : (j ≡ other) × (spent ≡ x)). ap (λ (z : Vw). z.turn) (sym t.1))
                  (λ (t : (j ≢ other) × (get_elem? vs j ≡ some x)). ⊎_elim
                  (λ (q : (j ≡ id) × (u ≡ x)). ap (λ (z : Vw). z.turn) (sym q.1) ∙ v-free)
                  (λ (q : (j ≢ id) × (get_elem? s.views j ≡ some x)). away.9 j x ne q.1)
                  (at_set s.views id j u x t.1))
                  (at_set vs other j spent x e),
            ))
            r.turn;
        sums = λ k.
            let a = total-set (amount_at b k) s.views id v u at in
            let c = total-set (amount_at b k) vs other w spent there' in
            let d = total-append (λ (a : Account E). b.amount k a.own) w.accounts v.accounts in
            let q = r.sums k in
            omega arith;
        fits = each_set (Fits b r.whole) vs other spent
            (λ j x _ e. each_set (Fits b r.whole) s.views id u (λ i z _ d. r.fits i z d) (Each-append (b.fits r.whole) w.accounts v.accounts theirs.0 mine.0, Each-append (b.unused r.whole) w.spare v.spare theirs.1 mine.1) j x e) (tt, tt);
        numbered = λ h.
            let g : Vw → ℕ = λ x. total h (numbers_in x) in
            let a = total-set g s.views id v u at in
            let l = total-set g vs other w spent there' in
            let c = total-append h (own_numbers (w.accounts ++ v.accounts)) (w.spare ++ v.spare) in
            let d = ap (total h) (numbers-append w.accounts v.accounts) in
            let e = total-append h (own_numbers w.accounts) (own_numbers v.accounts) in
            let i = total-append h w.spare v.spare in
            let j = total-append h (own_numbers w.accounts) w.spare in
            let k = total-append h (own_numbers v.accounts) v.spare in
            let q = r.numbered h in
            omega arith;
      }

  -- a seat that has as many accounts as there are seats has all of them, so the value is at home and its parts are the whole
  all_joined : Laws b → (s : St) (r : Rule s) (id : ℕ) (v : Vw) → get_elem? s.views id ≡ some v → v.turn ≡ false → count ≤ length v.accounts → Home b f r.whole s × ((k : ℕ) → amount_at b k v ≡ b.amount k r.whole) × ((weigh : ℕ → ℕ) → total weigh (own_numbers v.accounts) ≡ total weigh (span 0 count))
  all_joined laws s r id v at free all =
      let g : Vw → ℕ = λ x. total (λ (n : ℕ). 1) (numbers_in x) in
      let whole : total g s.views ≡ count = r.numbered (λ n. 1) ∙ total_one-span 0 count in
      let mine : length v.accounts ≤ g v = counts v in
      let others : (j : ℕ) (u : Vw) → j ≢ id → get_elem? s.views j ≡ some u → length u.accounts ≡ 0 = λ j u apart e.
      let t = summands_le g s.views id j v u apart at e in let c = counts u in omega arith in (
        ⊎_elim
            (λ (home : Home b f r.whole s). home)
            (λ (away : Away b r.whole s). absurd (dite (ℕ_discrete away.0 id)
            (λ e. true≢false (sym away.4 ∙ ap (λ (z : Vw). z.turn) (some-injective away.1 v (sym away.3 ∙ (λ i. get_elem? s.views (e i)) ∙ at)) ∙ free))
            (λ ne. let z = others away.0 away.1 ne away.3 in let one : length away.1.accounts ≡ 1 = ap (λ (l : List (Account E)). length l) away.5 in omega arith)))
            r.turn,
        (λ k. sym (sym (r.sums k) ∙ total_only (amount_at b k) s.views id v at (λ j u apart e. none_left k u.accounts (others j u apart e)))),
        λ h.
            let w : Vw → ℕ = λ x. total h (numbers_in x) in
            let only = total_only w s.views id v at (λ j u apart e. let t = summands_le g s.views id j v u apart at e in no_weight h (numbers_in u) (omega arith)) in
            let top = term_le g s.views id v at in
            let one = total-append (λ (n : ℕ). 1) (own_numbers v.accounts) v.spare in
            let ones_are = ones v.accounts in
            let spare : total h v.spare ≡ 0 = no_weight h v.spare (omega arith) in
            let a = total-append h (own_numbers v.accounts) v.spare in
            let q = r.numbered h in
            omega arith,
      )
    where
      ones : (accounts : List (Account E)) → total (λ (n : ℕ). 1) (own_numbers accounts) ≡ length accounts
      ones [] = refl
      ones (a ∷ accounts) = omega (arith, ones accounts)

      counts : (u : Vw) → length u.accounts ≤ total (λ (n : ℕ). 1) (numbers_in u)
      counts u = let a = total-append (λ (n : ℕ). 1) (own_numbers u.accounts) u.spare in let o = ones u.accounts in omega arith

      no_weight : (h : ℕ → ℕ) (ns : List ℕ) → total (λ (n : ℕ). 1) ns ≡ 0 → total h ns ≡ 0
      no_weight h [] e = refl
      no_weight h (n ∷ ns) e = absurd (omega arith)

      none_left : (k : ℕ) (accounts : List (Account E)) → length accounts ≡ 0 → total (λ (a : Account E). b.amount k a.own) accounts ≡ 0
      none_left k [] e = refl
      none_left k (a ∷ accounts) e = absurd (omega arith)

  -- what the value that comes out at the end is
  pub closes : Laws b → (words : List ℕ) (slots : List S) (id : ℕ) (v : Vw) → Final (Seen Rule id v) words slots → v.turn ≡ false → length v.accounts ≡ count
      → (y : S) → get_elem? slots 0 ≡ some y → Closes b f count v.accounts y
  closes laws words slots id v final free all y out =
      let r = final.1.0 in
      let long : count ≤ length v.accounts = omega arith in
      let j = all_joined laws final.0 r id v final.1.1 free long in
      let home = j.0 in
      let same : home.1.0 ≡ y = some-injective home.1.0 y (sym (final.4 0 home.1.0 (ap (λ (l : List (Option S)). get_elem? l 0) home.1.1)) ∙ out) in
      record {
        whole = r.whole;
        sound = r.sound;
        stands = subst (λ (z : S). b.stands z r.whole) same home.1.2;
        fixed = ap b.fixed (sym same) ∙ home.1.3;
        sums = j.1;
        numbered = j.2;
        fits = (r.fits id v final.1.1).0;
      }

  -- the table at the start
  opens_with : Laws b → (y : S) (whole : List E) → b.fixed y ≡ f → 0 < count → b.stands y whole → b.sound f count whole → ((k : ℕ) → b.amount k whole ≡ 0) → ((n : ℕ) → b.unused whole n)
      → Rule (opening (0 ∷ b.words whole) (y ∷ []) (first_view f count))
  opens_with laws y whole of some_seat is_state is_sound zeros clean =
      let v : Vw = first_view f count in
      record {
        whole = whole;
        sound = is_sound;
        turn = inl (refl, (y, refl, is_state, of), one (λ (x : Vw). x.turn ≡ false) v refl);
        sums = λ k. let z = zeros k in let n = laws.none k in omega arith;
        fits = one (Fits b whole) v ((laws.begins whole (count - 1) (clean (count - 1)), tt), Each-always (b.unused whole) clean (span 0 (count - 1 - 0)));
        numbered = λ h.
            let last : ℕ = count - 1 in
            let a : last - 0 ≡ last = omega arith in
            let e : count ≡ suc last = omega arith in
            let c = total-span_last h 0 last in
            let d = ap (λ n. total h (span 0 n)) a in
            let g = ap (λ n. total h (span 0 n)) e in
            let z = ap h (zero-add last) in
            omega arith;
      }
    where
      one : (P : Vw → Type 0) (v : Vw) → P v → (j : ℕ) (u : Vw) → get_elem? (v ∷ []) j ≡ some u → P u
      one P v p zero u e = subst P (some-injective v u e) p
      one P v p (suc j) u e = absurd (some-ne-none u (sym e))

  pub opens : Laws b → (y : S) (words : List ℕ) → b.fixed y ≡ f → 0 < count → Opens b count y words → Rule (opening words (y ∷ []) (first_view f count))
  opens laws y words of some_seat o = subst (λ (ws : List ℕ). Rule (opening ws (y ∷ []) (first_view f count))) (sym o.words_are)
      (opens_with laws y o.whole of some_seat o.stands (subst (λ q. b.sound q count o.whole) of o.sound) o.none o.unused)

  pub gives_away : Laws b → (id last number : ℕ) (v : Vw) → v ≡ giver f last number → number < last → Splits Rule id v (kept_back v) (given_away v)
  gives_away laws id last number v is_giver below =
      let m : ℕ = last - (number + 1) in
      let e : last - number ≡ suc m = omega arith in
      let accounts : List (Account E) = account last [] [] ∷ [] in
      let same : v ≡ view accounts (number ∷ span (number + 1) m) false (Some f) = is_giver ∙ ap (λ n. view accounts (span number n) false (Some f)) e in
      subst (λ (z : Vw). Splits Rule id z (kept_back z) (given_away z)) (sym same) (splits_off laws id number accounts (span (number + 1) m) (Some f))

  -- a plain seat with a known fixed part has this view
  pub plain_is : (number : ℕ) (v : Vw) → IsPlain number v → v.fixed ≡ Some f → v ≡ single number (own_of v) (seen_of v) false
  plain_is number v plain of = plain ∙ ap (view (account number (own_of v) (seen_of v) ∷ []) [] false) of

  pub takes_at : Laws b → (slots id number new : ℕ) (me : Me S Vw) → me.1 ≡ [] → IsPlain number me.0 → me.0.fixed ≡ Some f → new ≡ number + 1
      → Allows Rule slots id me 0 (λ x. either (eqb x 0) new x) (took b (step slots 0 0 new none) me)
  takes_at laws slots id number new me alone plain of up =
      let is_me : me ≡ (single number (own_of me.0) (seen_of me.0) false, []) = λ i. (plain_is number me.0 plain of i, alone i) in
      subst (λ (z : ℕ × Me S Vw). Allows Rule slots id z.1 0 (λ x. either (eqb x 0) z.0 x) (took b (step slots 0 0 z.0 none) z.1)) (λ i. (sym up i, sym is_me i))
      (takes_turn laws slots id number (own_of me.0) (seen_of me.0))

module _ {E F : Type 0} (f : F) (last number : ℕ) (v : View E F) where
  pub kept_back-giver : v ≡ giver f last number → number < last → kept_back v ≡ giver f last (number + 1)
  kept_back-giver is_giver below = let e : last - number ≡ suc (last - (number + 1)) = omega arith in
      ap kept_back is_giver ∙ ap (λ n. view (account last [] [] ∷ []) (further_numbers (span number n)) false (Some f)) e

  pub given_away-giver : v ≡ giver f last number → number < last → given_away v ≡ newcomer f number
  given_away-giver is_giver below = let e : last - number ≡ suc (last - (number + 1)) = omega arith in
      ap given_away is_giver ∙ ap (λ n. view (account (first_number (span number n)) [] [] ∷ []) [] false (Some f)) e

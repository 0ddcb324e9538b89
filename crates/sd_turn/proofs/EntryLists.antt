-- A history with entries more.
use Rattle.std.proofs.Common.{◌≡◌, ℕ, ◌<◌, Bool, true, false, eqb, eq-eqb, ne_eqb, ◌≢◌, List, [], ◌∷◌, ◌++◌, refl, sym, ap, subst, ◌∙◌, append_assoc, append-nil, map, zero-le, arith, Any}
use Rattle.sd_turn.specs.declared.view.Account.{Account}
use Rattle.sd_turn.specs.Lists.{total, span, Each}
use Rattle.sd_turn.proofs.Totals.{total-map, is, span_has, Any-numbered}
use Rattle.sd_turn.specs.Entries.{Begins, pick, entries_by}

module _ {N : Type 0} where
  pub pick-append : (b : Bool) (e : N) (xs ys : List N) → pick b e (xs ++ ys) ≡ pick b e xs ++ ys
  pick-append true e xs ys = refl
  pick-append false e xs ys = refl

  pub begins_more : (seen log es : List N) → Begins seen log → Begins seen (log ++ es)
  begins_more seen log es b = (b.0 ++ es, ap (λ l. l ++ es) b.1 ∙ append_assoc seen b.0 es)

  module _ (who : N → ℕ) where
    pub entries_by-append : (n : ℕ) (xs ys : List N) → entries_by who n (xs ++ ys) ≡ entries_by who n xs ++ entries_by who n ys
    entries_by-append n [] ys = refl
    entries_by-append n (e ∷ xs) ys = ap (pick (eqb (who e) n) e) (entries_by-append n xs ys) ∙ pick-append (eqb (who e) n) e (entries_by who n xs) (entries_by who n ys)

    -- entries with one number, by it and by another
    all_by : (n : ℕ) (es : List N) → Each (λ e. who e ≡ n) es → entries_by who n es ≡ es
    all_by n [] mine = refl
    all_by n (e ∷ es) mine = ap (λ c. pick c e (entries_by who n es)) (eq-eqb (who e) n mine.0) ∙ ap (λ l. e ∷ l) (all_by n es mine.1)

    none_by : (n m : ℕ) (es : List N) → n ≢ m → Each (λ e. who e ≡ n) es → entries_by who m es ≡ []
    none_by n m [] apart mine = refl
    none_by n m (e ∷ es) apart mine =
        ap (λ c. pick c e (entries_by who m es)) (ne_eqb (who e) m (λ q. apart (sym mine.0 ∙ q))) ∙ none_by n m es apart mine.1

    pub own_entries : (n : ℕ) (log es : List N) → Each (λ e. who e ≡ n) es → entries_by who n (log ++ es) ≡ entries_by who n log ++ es
    own_entries n log es mine = entries_by-append n log es ∙ ap (λ l. entries_by who n log ++ l) (all_by n es mine)

    pub other_entries : (n m : ℕ) (log es : List N) → n ≢ m → Each (λ e. who e ≡ n) es → entries_by who m (log ++ es) ≡ entries_by who m log
    other_entries n m log es apart mine =
        entries_by-append m log es ∙ ap (λ l. entries_by who m log ++ l) (none_by n m es apart mine) ∙ append-nil (entries_by who m log)

    all_inside : (n count : ℕ) (es : List N) → n < count → Each (λ e. who e ≡ n) es → Each (λ e. who e < count) es
    all_inside n count [] below mine = tt
    all_inside n count (e ∷ es) below mine = (subst (λ k. k < count) (sym mine.0) below, all_inside n count es below mine.1)

    pub inside_more : (n count : ℕ) (log es : List N) → n < count → Each (λ e. who e ≡ n) es → Each (λ e. who e < count) log → Each (λ e. who e < count) (log ++ es)
    inside_more n count [] es below mine inside = all_inside n count es below mine
    inside_more n count (x ∷ log) es below mine inside = (inside.0, inside_more n count log es below mine inside.1)

-- each number below the count is that of some seat, where the accounts have all of them
pub Any-seat : {X N : Type 0} (account : X → Account N) (number : X → ℕ) → ((x : X) → (account x).number ≡ number x) → (all : List X) (accounts : List (Account N)) → accounts ≡ map account all
    → (count : ℕ) → ((weigh : ℕ → ℕ) → total weigh (map (λ (a : Account N). a.number) accounts) ≡ total weigh (span 0 count)) → (n : ℕ) → n < count → Any (λ x. number x ≡ n) all
Any-seat {X} {N} account number same all accounts are count numbered n below =
    let once = span_has n 0 count zero-le (omega arith) in
    let every = numbered (is n) in
    let first = ap (λ l. total (is n) (map (λ (a : Account N). a.number) l)) are in
    let second = total-map (λ (a : Account N). a.number) (is n) (map account all) in
    let third = total-map account (λ (a : Account N). is n a.number) all in
    let a = Any-numbered (λ x. (account x).number) n all (omega arith) in
    (a.0, a.1, a.2, a.3, sym (same a.1) ∙ a.4)

-- the numbers of accounts are those of their seats
pub numbers-map : {X N : Type 0} (account : X → Account N) (number : X → ℕ) → ((x : X) → (account x).number ≡ number x) → (all : List X) → map (λ (a : Account N). a.number) (map account all) ≡ map number all
numbers-map account number same [] = refl
numbers-map account number same (x ∷ all) = λ i. same x i ∷ numbers-map account number same all i

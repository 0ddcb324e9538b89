-- The one history of a shard, as the callers' own acts join.
use Rattle.std.proofs.Common.{◌≡◌, ◌≢◌, ℕ, zero, suc, ◌+◌, ◌<◌, ◌≤◌, cond, List, [], ◌∷◌, ◌++◌, length, map, get_or, drop, Any, refl, sym, ap, subst, ◌∙◌, arith, zero-add}
use Rattle.std.specs.List.{AllByRecursion}
use Rattle.std.proofs.lemmas.Bool.{ne_eqb}
use Rattle.std.proofs.lemmas.List.{length-map}
use Rattle.sd_turn.specs.Lists.{span}
use Rattle.sd_model_shard.specs.History.{History}
use Rattle.sd_model_serve.specs.Receiving.{flusher, administrator, acts_by}
use Rattle.sd_pool.specs.Adding.{JoinsAs}
use Rattle.sd_pool.specs.Pool.{ShardHistory, limits_of, own_at, policy_of, who_is}
use Rattle.sd_pool.specs.declared.pool.Pool.{Pool}
use Rattle.sd_pool.specs.declared.seat.Seat.{Seat}
use Rattle.sd_shard.specs.declared.shard.ShardBook.{ShardBook}
use Rattle.sd_pool.proofs.AlongLemmas.{AllByRecursion-append, AllByRecursion-back, AllByRecursion-prefix}

-- seats that have made their callers' acts of a log, by the place of a seat whose callers have the numbers from one on
made_at : (i : ℕ) (log : History) (from : ℕ) (seats : List Seat) → map who_is seats ≡ span from (length seats) → AllByRecursion (λ s. own_at s i ≡ acts_by (who_is s) log) seats
    → (k : ℕ) → k < length seats → acts_by (from + k) log ≡ get_or (map (λ s. own_at s i) seats) k []
made_at i log from [] numbers made k below = absurd (omega (arith, below))
made_at i log from (s ∷ seats) numbers made zero below =
    let first : from + 0 ≡ who_is s = omega (arith, ap (λ ns. get_or ns 0 0) numbers) in
    ap (λ who. acts_by who log) first ∙ sym made.0
made_at i log from (s ∷ seats) numbers made (suc k) below =
    let next : from + suc k ≡ (from + 1) + k = omega arith in
    ap (λ who. acts_by who log) next ∙ made_at i log (from + 1) seats (ap (drop 1) numbers) made.1 k (omega (arith, below))

-- callers with the numbers from one on, none of whom has a number past them
none_past : (who from : ℕ) (seats : List Seat) → map who_is seats ≡ span from (length seats) → from + length seats ≤ who → AllByRecursion (λ s. who_is s ≢ who) seats
none_past who from [] numbers past = tt
none_past who from (s ∷ seats) numbers past =
    (λ is. omega (arith, is, past, ap (λ ns. get_or ns 0 0) numbers), none_past who (from + 1) seats (ap (drop 1) numbers) (omega (arith, past)))

-- who made an act is one of the callers
other_than : (who maker : ℕ) (seats : List Seat) → AllByRecursion (λ s. who_is s ≢ who) seats → Any (λ s. who_is s ≡ maker) seats → maker ≢ who
other_than who maker [] others (j, x, below, is, h) same = absurd (omega (arith, below))
other_than who maker (s ∷ seats) others (zero, x, below, is, h) same = others.0 (ap who_is is ∙ h ∙ same)
other_than who maker (s ∷ seats) others (suc j, x, below, is, h) same = other_than who maker seats others.1 (j, x, omega (arith, below), is, h) same

-- a caller who made none of the acts
none_by : (who : ℕ) (seats : List Seat) (log : History) → AllByRecursion (λ s. who_is s ≢ who) seats → AllByRecursion (λ a. Any (λ s. who_is s ≡ a.who) seats) log → acts_by who log ≡ []
none_by who seats [] others whose = refl
none_by who seats (a ∷ log) others whose =
    ap (λ b. cond b (a ∷ acts_by who log) (acts_by who log)) (ne_eqb who a.who (λ same. other_than who a.who seats others whose.0 (sym same)))
    ∙ none_by who seats log others whose.1

pub histories_join : (pool : Pool) (receivers : List Seat) (flushing administering : Seat) (i : ℕ) (book : ShardBook)
    → map who_is receivers ≡ span 0 (length receivers) → who_is flushing ≡ flusher → who_is administering ≡ administrator
    → (h : ShardHistory pool (receivers ++ flushing ∷ administering ∷ []) i book)
    → JoinsAs (limits_of pool) (policy_of pool) (map (λ s. own_at s i) receivers) (own_at flushing i) (own_at administering i) h.log
histories_join pool receivers flushing administering i book numbers flushes administers h =
    let Made : Seat → Type 0 = λ s. own_at s i ≡ acts_by (who_is s) h.log in
    let prefix = AllByRecursion-prefix Made receivers (flushing ∷ administering ∷ []) h.own in
    let back = AllByRecursion-back Made receivers (flushing ∷ administering ∷ []) h.own in
    record {
      legal = h.legal;
      submitted = λ r below. ap (λ who. acts_by who h.log) (sym (zero-add r)) ∙ made_at i h.log 0 receivers numbers prefix r (subst (λ n. r < n) (length-map receivers (λ (s : Seat). own_at s i)) below);
      swapped = ap (λ who. acts_by who h.log) (sym flushes) ∙ sym back.0;
      commanded = ap (λ who. acts_by who h.log) (sym administers) ∙ sym back.1.0;
      others = λ who past flushing_not administering_not. none_by who (receivers ++ flushing ∷ administering ∷ []) h.log
          (AllByRecursion-append (λ s. who_is s ≢ who) receivers (flushing ∷ administering ∷ [])
          (none_past who 0 receivers numbers (omega (arith, past, length-map receivers (λ (s : Seat). own_at s i))))
          (λ is. flushing_not (sym is ∙ flushes), (λ is. administering_not (sym is ∙ administers), tt)))
          h.whose;
    }

-- What receivers count at a desk, one turn after the other.
use Rattle.std.proofs.Common.{◌≡◌, ℕ, ◌+◌, sym, subst, arith}
use Rattle.std.specs.Prelude.{min}
use Rattle.sd_model_record.specs.Record.{Tally}
use Rattle.sd_model_record.specs.Desk.{add_tally, no_tally}
use Rattle.sd_shared_desk.specs.Counts.{Part, HasCounted, plus, of_tally, of_sends}
use Rattle.sd_shared_desk.proofs.CountLemmas.{counted_next, nothing_counted}
use Rattle.sd_model_shard.specs.Shard.{last_number}
use Rattle.sd_desk.specs.Sums.{Count, Amounts, TotalPackets, TotalLines, TotalBad, TotalDropped, TakenPackets, TakenLines, TakenBad, TakenDropped, RoundsMade, Faults, RepeaterFaults, AdminFaults}

-- amounts that are the same, up to the last count
pub record AreAlike (a b : Amounts) : Type 0 where
  pub same : (c : Count) → min (a c) last_number ≡ min (b c) last_number

-- the same amounts in other words
pub counted_as : (a b : Amounts) (old new : Part) → AreAlike a b → HasCounted a old new → HasCounted b old new
counted_as a b old new alike counted = record {
  rises = counted.rises;
  grows = λ c few. omega (arith, counted.grows c few, alike.same c, few);
  adds = λ c. omega (arith, counted.adds c, alike.same c);
}

-- what two turns came to, as one
together : (s t : Tally) (m n : ℕ) (c : Count)
    → min (plus (plus (of_tally s) (of_sends m)) (plus (of_tally t) (of_sends n)) c) last_number ≡ min (plus (of_tally (add_tally s t)) (of_sends (m + n)) c) last_number
together s t m n TotalPackets = omega arith
together s t m n TotalLines = omega arith
together s t m n TotalBad = omega arith
together s t m n TotalDropped = omega arith
together s t m n TakenPackets = omega arith
together s t m n TakenLines = omega arith
together s t m n TakenBad = omega arith
together s t m n TakenDropped = omega arith
together s t m n RoundsMade = omega arith
together s t m n (Faults b) = omega arith
together s t m n RepeaterFaults = omega arith
together s t m n AdminFaults = omega arith

pub merged : (s t : Tally) (m n : ℕ) → AreAlike (plus (plus (of_tally s) (of_sends m)) (plus (of_tally t) (of_sends n))) (plus (of_tally (add_tally s t)) (of_sends (m + n)))
merged s t m n = record { same = λ c. together s t m n c }

-- nothing was counted
pub no_counts : (c : Count) → plus (of_tally no_tally) (of_sends 0) c ≡ 0
no_counts c = omega (arith, nothing_counted c)

-- a tally was counted, and then sends that failed
pub sends_counted : (t : Amounts) (k n : ℕ) (old mid new : Part) → k ≡ n → HasCounted t old mid → HasCounted (of_sends n) mid new → HasCounted (plus t (of_sends k)) old new
sends_counted t k n old mid new is first second =
    subst (λ m. HasCounted (plus t (of_sends m)) old new) (sym is) (counted_next t (of_sends n) old mid new first second)

-- A register's history with one entry more.
use Rattle.std.proofs.Common.{◌≡◌, ℕ, ◌+◌, ◌%◌, ◌^◌, List, [], ◌∷◌, ◌++◌, refl}
use Rattle.sd_cases_threads.specs.declared.register.Event.{Event}
use Rattle.sd_cases_threads.specs.Puts.{sum_after, IsLegal}

pub sum_after-snoc : (sum : ℕ) (log : List Event) (e : Event) → sum_after sum (log ++ e ∷ []) ≡ (sum_after sum log + e.added) % 2 ^ 64
sum_after-snoc sum [] e = refl
sum_after-snoc sum (x ∷ log) e = sum_after-snoc ((sum + x.added) % 2 ^ 64) log e

pub IsLegal-snoc : (sum : ℕ) (log : List Event) (e : Event) → IsLegal sum log → e.found ≡ sum_after sum log → IsLegal sum (log ++ e ∷ [])
IsLegal-snoc sum [] e legal found = (found, tt)
IsLegal-snoc sum (x ∷ log) e legal found = (legal.0, IsLegal-snoc ((sum + x.added) % 2 ^ 64) log e legal.1 found)

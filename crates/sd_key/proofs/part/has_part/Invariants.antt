-- No occurrence of the part begins before `start`.
use Rattle.std.proofs.Common.{◌≡◌, ◌≤◌, List, ℕ, ◌++◌, length}
use Rattle.sd_key.proofs.part.has_part.Given as goal

abbrev pub invariant-loop-start : goal.invariant-loop-start
invariant-loop-start l = (prefix back : List ℕ) → l.key ≡ prefix ++ l.part ++ back → l.start ≤ length prefix

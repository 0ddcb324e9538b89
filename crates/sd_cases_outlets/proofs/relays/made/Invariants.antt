use Rattle.std.proofs.Common.{◌≡◌, ◌≤◌, length, All}
use Rattle.sd_cases_outlets.proofs.relays.made.Given as goal

abbrev pub invariant-loop-k : goal.invariant-loop-k
invariant-loop-k l = record {
  count : length l.texts.items ≡ l.k;
  short : All (λ t. length t.items ≤ 64) l.texts.items;
}

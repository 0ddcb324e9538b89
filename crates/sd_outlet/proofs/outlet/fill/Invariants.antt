use Rattle.std.proofs.Common.{◌≡◌, true, [], length}
use Rattle.crossbeam_queue.specs.Passes.{view, IsPassOf}
use Rattle.sd_outlet.proofs.outlet.fill.Given as goal

abbrev pub invariant-loop : goal.invariant-loop
invariant-loop l = record {
  pass : IsPassOf l.empty l.pass;
  puts : (view l.pass).puts ≡ true;
  takes : (view l.pass).takes ≡ true;
  size : (view l.pass).size ≡ l.bytes;
  taken : (view l.pass).taken ≡ [];
  count : length (view l.pass).put ≡ l.counter;
}

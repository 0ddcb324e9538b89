use Rattle.std.proofs.Common.{◌≡◌}
use Rattle.crossbeam_queue.specs.Passes.{view, IsPassOf}
use Rattle.sd_outlet.specs.Buf.{size_of}
use Rattle.sd_outlet.proofs.outlet.Outlet.give_back.Given as goal

abbrev pub invariant-loop : goal.invariant-loop
invariant-loop g l = record {
  pass : IsPassOf l.self.empty l.drain.empty;
  same : view l.drain.empty ≡ view l.initial.drain.empty;
  size : size_of l.buf ≡ size_of l.fn.buf;
  full : l.drain.full ≡ l.initial.drain.full;
  stop : l.drain.stop ≡ l.initial.drain.stop;
  taken : l.drain.taken ≡ l.initial.drain.taken;
}

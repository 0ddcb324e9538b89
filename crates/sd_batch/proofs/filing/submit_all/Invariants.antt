use Rattle.std.proofs.Common.{◌≡◌, ◌+◌, ◌*◌, ◌≤◌}
use Rattle.sd_batch.proofs.WaitingLemmas.{Submits}
use Rattle.sd_batch.proofs.filing.submit_all.Given as goal

abbrev pub invariant-loop-home : goal.invariant-loop-home
invariant-loop-home g l = record {
  ready : g.G.Submit.is_ready l.group l.seat;
  shards : g.G.Submit.shards l.group l.seat ≡ g.G.Submit.shards l.group l.fn.seat;
  caller : g.G.Submit.caller l.group l.seat ≡ g.G.Submit.caller l.group l.fn.seat;
  submits : Submits (g.G.Submit.adds l.group l.fn.seat l.seat) (g.G.Submit.shards l.group l.fn.seat) (g.G.Submit.caller l.group l.fn.seat) l.batch.items l.home l.fn.filed l.filed;
  more : l.filed.taken + l.filed.dropped ≤ l.fn.filed.taken + l.fn.filed.dropped + 65535 * l.home;
}

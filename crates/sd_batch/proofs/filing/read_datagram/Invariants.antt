use Rattle.std.proofs.Common.{◌≡◌, ◌+◌, ◌*◌, ◌<◌, ◌≤◌, ◌^◌, length}
use Rattle.sd_batch.proofs.FilingLemmas.{Files}
use Rattle.sd_batch.proofs.filing.read_datagram.Given as goal

abbrev pub invariant-loop-piece : goal.invariant-loop-piece
invariant-loop-piece g l = record {
  ready : g.G.Submit.is_ready l.group l.seat;
  shards : g.G.Submit.shards l.group l.seat ≡ g.G.Submit.shards l.group l.fn.seat;
  caller : g.G.Submit.caller l.group l.seat ≡ g.G.Submit.caller l.group l.fn.seat;
  batch : l.batch ≡ record l.fn.batch { items = l.batch.items };
  room : length l.batch.items < l.batch.room;
  files : Files (g.G.Submit.adds l.group l.fn.seat l.seat) (g.G.Submit.shards l.group l.fn.seat) (g.G.Submit.caller l.group l.fn.seat) l.datagram l.fn.batch.items l.lines l.batch.items l.filed;
  flaws : l.filed.bad ≤ l.filed.lines;
  few : l.filed.taken + l.filed.dropped ≤ 2 ^ 32 * l.filed.lines;
}

abbrev pub decreases-loop-piece : goal.decreases-loop-piece
decreases-loop-piece g l = length l.lines

use Rattle.std.proofs.Common.{◌≡◌, ◌≤◌, ◌*◌, ◌^◌, map, take}
use Rattle.sd_model_proxy.specs.Routes.{sums_of_totals}
use Rattle.sd_relay.specs.Sums.{sums_view, totals_in}
use Rattle.sd_relay.proofs.sums.add_up.Given as goal

abbrev pub invariant-loop-post : goal.invariant-loop-post
invariant-loop-post g l = record {
  are : sums_view l.sums ≡ sums_of_totals (map totals_in (take l.post-index l.posts));
  packets : l.sums.packets ≤ l.post-index * 2 ^ 64;
  lines : l.sums.lines ≤ l.post-index * 2 ^ 64;
  bad : l.sums.bad ≤ l.post-index * 2 ^ 64;
  sent : l.sums.sent ≤ l.post-index * 2 ^ 64;
  unowned : l.sums.unowned ≤ l.post-index * 2 ^ 64;
  send_faults : l.sums.send_faults ≤ l.post-index * 2 ^ 64;
}

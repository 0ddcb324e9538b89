use Rattle.std.proofs.Common.{◌≡◌, false, ◌<◌, ◌^◌}
use Rattle.sd_outlet.specs.Feed.{sent, sends_of, is_out, stopped_at, IsFeedOf}
use Rattle.sd_cases_outlets.proofs.relay.send_one.Given as goal

abbrev pub invariant-loop : goal.invariant-loop
invariant-loop g l = record {
  feed : IsFeedOf l.outlet l.feed;
  none_out : is_out l.feed ≡ false;
  same : sent l.feed ≡ sent l.initial.feed;
  stopped : stopped_at l.feed ≡ stopped_at l.initial.feed;
  few : sends_of l.feed < 2 ^ 61;
}

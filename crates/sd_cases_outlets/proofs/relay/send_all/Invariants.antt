use Rattle.std.proofs.Common.{◌≡◌, false, take, map}
use Rattle.std.specs.Prelude.{None}
use Rattle.sd_outlet.specs.Feed.{sent, is_out, stopped_at, IsFeedOf}
use Rattle.sd_cases_outlets.proofs.relay.send_all.Given as goal

abbrev pub invariant-loop-text : goal.invariant-loop-text
invariant-loop-text g l = record {
  feed : IsFeedOf l.outlet l.feed;
  none_out : is_out l.feed ≡ false;
  stopped : stopped_at l.feed ≡ None;
  so_far : sent l.feed ≡ map (λ t. t.items) (take l.text-index l.texts);
}

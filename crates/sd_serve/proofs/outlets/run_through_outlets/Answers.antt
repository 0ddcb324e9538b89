use Rattle.std.proofs.Common.{◌≡◌, ◌+◌, Bool, length, refl, sym, ap, subst, ◌∙◌, arith}
use Rattle.sd_model_outside.specs.Backend.{Backend, Graphite, Console}
use Rattle.sd_outlet.specs.declared.drain.Drain.{Drain}
use Rattle.sd_outlet.specs.declared.feed.Feed.{Feed}
use Rattle.sd_outlet.specs.declared.outlet.Outlet.{Outlet}
use Rattle.sd_outlet.specs.Feed.{IsFeedOf, IsNew, sends_of, sent}
use Rattle.sd_outlet.specs.Worked.{HasWorked}
use Rattle.sd_outside.specs.Backends.{back_of, uses}
use Rattle.sd_delivery.specs.Leads.{feed_in, lead_at}
use Rattle.sd_outside.specs.Backends.{at}
use Rattle.sd_outside.specs.declared.backend.Back.{Back}
use Rattle.sd_outside.specs.declared.backends.PerBackend.{PerBackend}
use Rattle.sd_outside.proofs.BackendLemmas.{at_both}
use Rattle.sd_serve.specs.OutRoom.{outlet_in}
use Rattle.sd_serve.specs.Outlets.{IsNewDrain, offered_of}
use Rattle.sd_serve.specs.declared.outlets.OutCount.{OutCount}
use Rattle.sd_serve.proofs.ThroughLemmas.{WasClosed, few_sends, is_feed, through}
use Rattle.sd_serve.proofs.outlets.run_through_outlets.Goals as goal

pub leads_of-leads-requires : goal.leads_of-leads-requires
leads_of-leads-requires g c =
    let rooms = c.args.outs in
    let outlets : PerBackend Outlet = record { graphite = rooms.graphite.outlet; console = rooms.console.outlet } in
    let feeds : PerBackend Feed = record { graphite = rooms.graphite.feed; console = rooms.console.feed } in
    at_both (λ b. IsFeedOf (at outlets b) (at feeds b) × IsNew (at feeds b)) ((c.requires.outs Graphite).feed_is, (c.requires.outs Graphite).is_new) ((c.requires.outs Console).feed_is, (c.requires.outs Console).is_new)

pub run_with_outlets-requires-clause-drains : goal.run_with_outlets-requires-clause-drains
run_with_outlets-requires-clause-drains g c κs within =
    let rooms = c.args.outs in
    let outlets : PerBackend Outlet = record { graphite = rooms.graphite.outlet; console = rooms.console.outlet } in
    let drains : PerBackend Drain = record { graphite = rooms.graphite.drain; console = rooms.console.drain } in
    at_both (λ b. IsNewDrain (at outlets b) (at drains b)) (record { drain_is = (c.requires.outs Graphite).drain_is; none = (c.requires.outs Graphite).none_got }) (record { drain_is = (c.requires.outs Console).drain_is; none = (c.requires.outs Console).none_got })

pub close_outlet-requires-clause-feed : goal.close_outlet-requires-clause-feed
close_outlet-requires-clause-feed g c =
    let ran = c.run_with_outlets.ensures in
    subst (λ (f : Feed). IsFeedOf c.args.outs.graphite.outlet f) (sym c.into_feed-graphite_feed.ensures) (is_feed _ _ _ _ _ _ _ _ _ _ _ _ _ c.leads_of-leads.ensures ran.leads ran.flushes Graphite)

pub close_outlet-requires-clause-drain : goal.close_outlet-requires-clause-drain
close_outlet-requires-clause-drain g c = (c.run_with_outlets.ensures.drained Graphite).drain_is

pub close_outlet-requires-clause-few : goal.close_outlet-requires-clause-few
close_outlet-requires-clause-few g c =
    let ran = c.run_with_outlets.ensures in
    let few = few_sends _ _ _ _ _ _ _ _ _ _ _ _ _ c.leads_of-leads.ensures ran.leads ran.flushes Graphite in
    let sends = ap sends_of c.into_feed-graphite_feed.ensures in
    let offered = c.offered-to_graphite.ensures ∙ ap (λ (used : Bool). offered_of used c.run_with_outlets.result.0.flusher.rounds) (ran.ran.same_use Graphite) in
    omega (arith, few, sends, offered)

pub close_outlet-requires-2-clause-feed : goal.close_outlet-requires-2-clause-feed
close_outlet-requires-2-clause-feed g c =
    let ran = c.run_with_outlets.ensures in
    subst (λ (f : Feed). IsFeedOf c.args.outs.console.outlet f) (sym c.into_feed-console_feed.ensures) (is_feed _ _ _ _ _ _ _ _ _ _ _ _ _ c.leads_of-leads.ensures ran.leads ran.flushes Console)

pub close_outlet-requires-2-clause-drain : goal.close_outlet-requires-2-clause-drain
close_outlet-requires-2-clause-drain g c = (c.run_with_outlets.ensures.drained Console).drain_is

pub close_outlet-requires-2-clause-few : goal.close_outlet-requires-2-clause-few
close_outlet-requires-2-clause-few g c =
    let ran = c.run_with_outlets.ensures in
    let few = few_sends _ _ _ _ _ _ _ _ _ _ _ _ _ c.leads_of-leads.ensures ran.leads ran.flushes Console in
    let sends = ap sends_of c.into_feed-console_feed.ensures in
    let offered = c.offered-to_console.ensures ∙ ap (λ (used : Bool). offered_of used c.run_with_outlets.result.0.flusher.rounds) (ran.ran.same_use Console) in
    omega (arith, few, sends, offered)

pub returns-clause-ran : goal.returns-clause-ran
returns-clause-ran g c =
    let ran = c.run_with_outlets.ensures.ran in
    let mid = c.run_with_outlets.new.objects.backs.now in
    let backs : PerBackend (Back _) = record { graphite = record mid.graphite { object = c.close_outlet.new.back }; console = record mid.console { object = c.close_outlet-2.new.back } } in
    record {
      flusher = ran.flusher;
      number = ran.number;
      admin = ran.admin;
      admin_number = ran.admin_number;
      serves = ran.serves;
      keeper = ran.keeper;
      lines = ran.lines;
      objects = record { beat = ran.objects.beat; backs = ran.objects.backs; door = ran.objects.door; streams = ran.objects.streams };
      same_use = at_both (λ b. uses backs b ≡ uses c.args.objects.now.backs.now b) (ran.same_use Graphite) (ran.same_use Console);
      len = ran.len;
      each = ran.each;
    }

pub returns-clause-flushes : goal.returns-clause-flushes
returns-clause-flushes g c =
    let ran = c.run_with_outlets in
    let used = uses c.args.objects.now.backs.now in
    let leads = ran.new.leads in
    let rounds = ran.result.0.flusher.rounds in
    let back = back_of g.K.B.Faulty.seen c.args.objects.now.backs.now in
    let old = ran.new.objects.backs.now in
    let backs : PerBackend (Back _) = record { graphite = record old.graphite { object = c.close_outlet.new.back }; console = record old.console { object = c.close_outlet-2.new.back } } in
    let counts : PerBackend OutCount = record { graphite = c.close_outlet.result; console = c.close_outlet-2.result } in
    let was : (b : Backend) → WasClosed (used b) (sent (feed_in (lead_at leads b))) rounds (at counts b) (back b) (back_of g.K.B.Faulty.seen backs b) =
    at_both (λ b. WasClosed (used b) (sent (feed_in (lead_at leads b))) rounds (at counts b) (back b) (back_of g.K.B.Faulty.seen backs b))
    (record {
      skipped = ap (λ (f : Feed). c.close_outlet.result.skipped + length (sent f)) (sym c.into_feed-graphite_feed.ensures) ∙ c.close_outlet.ensures.skipped ∙ c.offered-to_graphite.ensures ∙ ap (λ (used : Bool). offered_of used rounds) (ran.ensures.ran.same_use Graphite);
      worked = subst (λ (f : Feed). HasWorked (sent f) c.close_outlet.result.worked (back Graphite) (g.K.B.Faulty.seen c.close_outlet.new.back)) c.into_feed-graphite_feed.ensures (c.close_outlet.ensures.worked (back Graphite) (ran.ensures.drained Graphite).wrote);
    })
    (record {
      skipped = ap (λ (f : Feed). c.close_outlet-2.result.skipped + length (sent f)) (sym c.into_feed-console_feed.ensures) ∙ c.close_outlet-2.ensures.skipped ∙ c.offered-to_console.ensures ∙ ap (λ (used : Bool). offered_of used rounds) (ran.ensures.ran.same_use Console);
      worked = subst (λ (f : Feed). HasWorked (sent f) c.close_outlet-2.result.worked (back Console) (g.K.B.Faulty.seen c.close_outlet-2.new.back)) c.into_feed-console_feed.ensures (c.close_outlet-2.ensures.worked (back Console) (ran.ensures.drained Console).wrote);
    }) in
    through _ _ _ _ _ _ _ _ _ _ _ _ _ c.leads_of-leads.ensures ran.ensures.leads ran.ensures.flushes c.args.outs counts back _ (λ b. elim b as (λ b. at (record { graphite = c.args.outs.graphite.outlet; console = c.args.outs.console.outlet }) b ≡ outlet_in (at c.args.outs b)) [ Graphite ↦ refl | Console ↦ refl ]) was

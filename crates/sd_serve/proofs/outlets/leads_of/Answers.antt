use Rattle.std.proofs.Common.{◌≡◌, []}
use Rattle.sd_model_outside.specs.Backend.{Graphite, Console}
use Rattle.sd_outlet.specs.Feed.{sent}
use Rattle.sd_outside.specs.Backends.{uses}
use Rattle.sd_delivery.specs.Leads.{IsLeadReady, feed_in, is_used, lead_at, outlet_in}
use Rattle.sd_outside.specs.Backends.{at}
use Rattle.sd_delivery.specs.declared.outlets.Leads.{Leads}
use Rattle.sd_outside.proofs.BackendLemmas.{at_both}
use Rattle.sd_serve.proofs.outlets.leads_of.Goals as goal

pub new-requires : goal.new-requires
new-requires g c = c.requires Graphite

pub new-requires-2 : goal.new-requires-2
new-requires-2 g c = c.requires Console

pub returns : goal.returns
returns g c =
    let leads : Leads = record { graphite = c.new.result; console = c.new-2.result } in
    record {
      ready = at_both (λ b. IsLeadReady (lead_at leads b)) c.new.ensures.ready c.new-2.ensures.ready;
      used_are = at_both (λ b. is_used (lead_at leads b) ≡ uses c.args.backs.now b) c.new.ensures.used c.new-2.ensures.used;
      outlets_are = at_both (λ b. outlet_in (lead_at leads b) ≡ at c.args.outlets.now b) c.new.ensures.outlet c.new-2.ensures.outlet;
      none = at_both (λ b. sent (feed_in (lead_at leads b)) ≡ []) c.new.ensures.none c.new-2.ensures.none;
    }

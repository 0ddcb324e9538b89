-- What a server with outlets needs and leaves before those are closed.
use Rattle.std.specs.Prelude.{◌≡◌, ℕ, Bool, true, false, []}
use Rattle.sd_model_outside.specs.Outside.{Object}
use Rattle.sd_model_outside.specs.Backend.{Backend}
use Rattle.sd_outlet.specs.declared.drain.Drain.{Drain}
use Rattle.sd_outlet.specs.declared.outlet.Outlet.{Outlet}
use Rattle.sd_outlet.specs.declared.worked.Worked.{Worked}
use Rattle.sd_outlet.specs.Drain.{IsDrainOf, got}
use Rattle.sd_outlet.specs.Feed.{sent}
use Rattle.sd_outlet.specs.Worked.{HasWorked}
use Rattle.sd_delivery.specs.Leads.{IsLeadReady, feed_in, is_used, lead_at, outlet_in}
use Rattle.sd_outside.specs.Backends.{at}
use Rattle.sd_delivery.specs.declared.outlets.Leads.{Leads}
use Rattle.sd_outside.specs.declared.backends.PerBackend.{PerBackend}

-- how many texts of so many rounds are offered at an outlet, by whether its backend is used
abbrev pub offered_of : Bool → ℕ → ℕ
offered_of true rounds = rounds
offered_of false rounds = 0

-- the leads are of these outlets, by whether each backend is used, and nothing was sent on them
pub record AreLeadsOf (used : Backend → Bool) (outlets : PerBackend Outlet) (leads : Leads) : Type 0 where
  pub ready : (b : Backend) → IsLeadReady (lead_at leads b)
  pub used_are : (b : Backend) → is_used (lead_at leads b) ≡ used b
  pub outlets_are : (b : Backend) → outlet_in (lead_at leads b) ≡ at outlets b
  pub none : (b : Backend) → sent (feed_in (lead_at leads b)) ≡ []

-- the drain is the outlet's, and has got nothing
pub record IsNewDrain (o : Outlet) (drain : Drain) : Type 0 where
  pub drain_is : IsDrainOf o drain
  pub none : got drain ≡ []

-- The worker of an outlet has ended, which had got nothing before, and wrote all that it got.
pub record WasDrained (o : Outlet) (drain : Drain) (worked : Worked) (old new : Object) : Type 0 where
  pub drain_is : IsDrainOf o drain
  pub wrote : HasWorked (got drain) worked old new

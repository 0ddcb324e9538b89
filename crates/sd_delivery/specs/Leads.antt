-- The outlets of backends, and what is done at them.
use Rattle.std.specs.Prelude.{◌≡◌, ℕ, Bool, true, false, List, [], ◌∷◌}
use Rattle.sd_model_outside.specs.Uses as deliveries
use Rattle.sd_model_outside.specs.Backend.{Backend, Graphite, Console, each_of}
use Rattle.sd_model_record.specs.Desk.{Marks}
use Rattle.sd_outlet.specs.declared.feed.Feed.{Feed}
use Rattle.sd_outlet.specs.declared.outlet.Outlet.{Outlet}
use Rattle.sd_outlet.specs.Feed.{IsFeedOf, is_out}
use Rattle.sd_delivery.specs.declared.outlets.Lead.{Lead}
use Rattle.sd_delivery.specs.declared.outlets.Leads.{Leads}
use Rattle.sd_delivery.specs.Offers.{HasOffered, WasStopped}

-- the lead of a backend
abbrev pub lead_at : Leads → Backend → Lead
lead_at leads Graphite = leads.graphite
lead_at leads Console = leads.console

-- whether the backend is used
abbrev pub is_used : Lead → Bool
is_used lead = lead.used

-- the outlet
abbrev pub outlet_in : Lead → Outlet
outlet_in lead = lead.outlet.now

-- the feed
abbrev pub feed_in : Lead → Feed
feed_in lead = lead.feed

-- the feed is the outlet's, and no buffer is out
pub record IsLeadReady (lead : Lead) : Type 0 where
  pub feed_is : IsFeedOf lead.outlet.now lead.feed
  pub none_out : is_out lead.feed ≡ false

-- of the texts for a backend, those that are offered at its outlet: all where it is used, and none where it isn't
abbrev pub offered_to : Bool → List (List ℕ) → List (List ℕ)
offered_to true texts = texts
offered_to false texts = []

-- the same backend's, over the same outlet
pub record IsSameLead (old new : Lead) : Type 0 where
  pub used : new.used ≡ old.used
  pub outlet : outlet_in new ≡ outlet_in old

-- A backend's texts were offered at its outlet, where it is used, one after another.
pub record Offers (texts : List (List ℕ)) (old new : Lead) : Type 0 where
  pub same : IsSameLead old new
  pub offered : HasOffered (offered_to old.used texts) old.outlet.now old.feed new.feed

-- A feed was stopped.
pub record StopsOne (old new : Lead) : Type 0 where
  pub same : IsSameLead old new
  pub stopped : WasStopped old.feed new.feed

-- the marks of backends of which none is used
abbrev pub no_marks : Marks
no_marks = each_of (λ b. deliveries.NotUsed)

-- each backend's text was offered at its outlet, and the marks are those of backends that aren't used
pub record GivesOutlets (texts : Backend → List ℕ) (marks : Marks) (old new : Leads) : Type 0 where
  pub unused : marks ≡ no_marks
  pub offers : (b : Backend) → Offers (texts b ∷ []) (lead_at old b) (lead_at new b)

-- each lead is ready
abbrev pub AreReadyLeads : Leads → Type 0
AreReadyLeads leads = (b : Backend) → IsLeadReady (lead_at leads b)

-- each feed was stopped
abbrev pub StopsLeads : Leads → Leads → Type 0
StopsLeads old new = (b : Backend) → StopsOne (lead_at old b) (lead_at new b)

-- What the work of each worker needs, and what it leaves.
use Rattle.std.specs.Prelude.{◌≡◌, ℕ, ◌<◌, ◌^◌, List, [], IfSome, None, ⊤}
use Rattle.sd_model_outside.specs.Outside.{Object}
use Rattle.sd_model_outside.specs.Backend.{Backend}
use Rattle.sd_model_record.specs.Desk.{Marks}
use Rattle.sd_model_serve.specs.Rounds.{RecordForm}
use Rattle.sd_pool.specs.declared.pool.Pool.{Pool}
use Rattle.sd_pool.specs.Pool.{own_at, shards_of}
use Rattle.sd_shared_desk.specs.declared.shared_desk.SharedDesk.{SharedDesk}
use Rattle.sd_shared_desk.specs.Shared.{number_of_seat, part_of}
use Rattle.sd_outlet.specs.Drain.{IsDrainOf, got}
use Rattle.sd_outlet.specs.Worked.{HasWorked}
use Rattle.sd_delivery.specs.Delivery.{GivesBackends}
use Rattle.sd_flush.specs.Flushing.{Flushes, form_of}
use Rattle.sd_delivery.specs.Leads.{AreReadyLeads, GivesOutlets, StopsLeads}
use Rattle.sd_flush.specs.declared.flushed.Flushed.{Flushed}
use Rattle.sd_flush.specs.declared.post.FlusherPost.{FlusherPost}
use Rattle.sd_flush.specs.Tables.{IsFlusherPost}
use Rattle.sd_shared.specs.DoorKeeper.{EndsDoorKeeper}
use Rattle.sd_session.specs.Doors.{ServesSessions}
use Rattle.sd_serve.specs.LinePost.{AreLinesReadBy, IsLineReady}
use Rattle.sd_serve.specs.Services.{IsAdminPost, IsIdleDoor}
use Rattle.sd_serve.specs.declared.work.Draining.{Draining}
use Rattle.sd_serve.specs.declared.work.Feeding.{Feeding}
use Rattle.sd_serve.specs.declared.work.Flushing.{Flushing}
use Rattle.sd_serve.specs.declared.work.AdminWork.{AdminWork}
use Rattle.sd_serve.specs.declared.work.LineWork.{LineWork}

-- a flusher has its post, and a delivery that may be given a record
pub record CanFlushOver {D : Type 0} (is_ready : D → Type 0) (pool : Pool) (desk : SharedDesk) (post : FlusherPost) (delivery : D) (beat : Object) : Type 0 where
  pub post_is : IsFlusherPost pool desk post
  pub delivery_is : is_ready delivery
  pub turns : beat.turns < 2 ^ 62

-- It made its rounds, gave their records to the delivery and ended it.
pub record FlushedOver {D : Type 0} (is_ready : D → Type 0) (gives : (Backend → List ℕ) → Marks → D → D → Type 0) (ends : D → D → Type 0) (form : RecordForm) (pool : Pool) (desk : SharedDesk) (run_flushes : ℕ) (post post_now : FlusherPost) (delivery delivery_now : D) (beat beat_now : Object) (flushed : Flushed) : Type 0 where
  pub post_is : IsFlusherPost pool desk post_now
  pub number : number_of_seat post_now.own ≡ number_of_seat post.own
  pub delivery_is : is_ready delivery_now
  pub flushes : Flushes form gives ends run_flushes (own_at post.seat) (own_at post_now.seat) (part_of post.own) (part_of post_now.own) delivery delivery_now beat beat_now flushed

module _ {B E : Type 0} where
  -- the same of a flusher that writes to the backends itself
  abbrev pub CanFlush : (E → Object) → Pool → SharedDesk → Flushing B E → Type 0
  CanFlush seen pool desk f = CanFlushOver (λ backs. ⊤) pool desk f.post.now f.backs.now (seen f.beat.now)

  -- It works with the same as before.
  pub record HasFlushed (back_seen : B → Object) (seen : E → Object) (pool : Pool) (desk : SharedDesk) (run_flushes : ℕ) (old new : Flushing B E) : Type 0 where
    pub post_stays : new.post.ghost_name ≡ old.post.ghost_name
    pub backs_stay : new.backs.ghost_name ≡ old.backs.ghost_name
    pub beat_stays : new.beat.ghost_name ≡ old.beat.ghost_name
    pub did : FlushedOver (λ backs. ⊤) (GivesBackends back_seen) (λ backs backs_now. backs_now ≡ backs) (form_of pool old.form.now.plan.now old.form.now.names.now) pool desk run_flushes old.post.now new.post.now old.backs.now new.backs.now (seen old.beat.now) (seen new.beat.now) new.flushed

module _ {E : Type 0} where
  -- the same of a flusher over outlets
  abbrev pub CanFeed : (E → Object) → Pool → SharedDesk → Feeding E → Type 0
  CanFeed seen pool desk f = CanFlushOver AreReadyLeads pool desk f.post.now f.leads.now (seen f.beat.now)

  -- It works with the same as before.
  pub record HasFed (seen : E → Object) (pool : Pool) (desk : SharedDesk) (run_flushes : ℕ) (old new : Feeding E) : Type 0 where
    pub post_stays : new.post.ghost_name ≡ old.post.ghost_name
    pub leads_stay : new.leads.ghost_name ≡ old.leads.ghost_name
    pub beat_stays : new.beat.ghost_name ≡ old.beat.ghost_name
    pub post_is : IsFlusherPost pool desk new.post.now
    pub number : number_of_seat new.post.now.own ≡ number_of_seat old.post.now.own
    pub leads_are : AreReadyLeads new.leads.now
    pub flushes : Flushes (form_of pool old.form.now.plan.now old.form.now.names.now) GivesOutlets StopsLeads run_flushes (own_at old.post.now.seat) (own_at new.post.now.seat) (part_of old.post.now.own) (part_of new.post.now.own) old.leads.now new.leads.now (seen old.beat.now) (seen new.beat.now) new.flushed

  -- the keeper of a door has its post, and a door of which no session is out
  pub record CanKeep (seen : E → Object) (pool : Pool) (desk : SharedDesk) (k : AdminWork E) : Type 0 where
    pub post_is : IsAdminPost pool desk k.post.now
    pub door_is : IsIdleDoor (seen k.door.now)

  -- It served the sessions of its door, and works with the same as before.
  pub record HasKept (seen : E → Object) (says : ℕ → Type 0) (pool : Pool) (desk : SharedDesk) (run_flushes : ℕ) (old new : AdminWork E) : Type 0 where
    pub post_stays : new.post.ghost_name ≡ old.post.ghost_name
    pub door_stays : new.door.ghost_name ≡ old.door.ghost_name
    pub post_is : IsAdminPost pool desk new.post.now
    pub number : number_of_seat new.post.now.own ≡ number_of_seat old.post.now.own
    pub serves : ServesSessions (shards_of pool) old.settings.now says (own_at old.post.now.seat) (own_at new.post.now.seat) (seen old.door.now) (seen new.door.now) (part_of old.post.now.own) (part_of new.post.now.own)
    pub ends : EndsDoorKeeper run_flushes new.ended (seen old.door.now) (seen new.door.now) (part_of new.post.now.own)

  -- the post of a reader of lines can be run, if it is there, over a door of which no session is out
  pub record CanLine (seen : E → Object) (pool : Pool) (desk : SharedDesk) (l : LineWork E) : Type 0 where
    pub post_is : IfSome l.post.now (IsLineReady pool desk)
    pub not_run : l.ended ≡ None
    pub door_is : IsIdleDoor (seen l.door.now)

  -- Its post was run, if it is there, and it works with the same as before.
  pub record HasReadLines (seen : E → Object) (says : ℕ → Type 0) (pool : Pool) (desk : SharedDesk) (run_flushes : ℕ) (old new : LineWork E) : Type 0 where
    pub post_stays : new.post.ghost_name ≡ old.post.ghost_name
    pub door_stays : new.door.ghost_name ≡ old.door.ghost_name
    pub lines_read : AreLinesReadBy says pool desk run_flushes old.post.now new.post.now new.ended (seen old.door.now) (seen new.door.now)

  -- the drain of an outlet's worker is of its outlet, and it has got nothing yet
  pub record CanDrain (w : Draining E) : Type 0 where
    pub drain_is : IsDrainOf w.outlet.now w.drain.now
    pub none : got w.drain.now ≡ []

  -- It has taken what was sent until the feed was stopped, each text as a round of the backend. It works with the same as before.
  pub record HasDrained (seen : E → Object) (old new : Draining E) : Type 0 where
    pub drain_stays : new.drain.ghost_name ≡ old.drain.ghost_name
    pub back_stays : new.back.ghost_name ≡ old.back.ghost_name
    pub drain_is : IsDrainOf old.outlet.now new.drain.now
    pub wrote : HasWorked (got new.drain.now) new.worked (seen old.back.now) (seen new.back.now)

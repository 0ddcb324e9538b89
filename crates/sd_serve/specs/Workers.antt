-- What a server's workers need to begin, and what they did, once all have ended.
use Rattle.std.specs.Prelude.{◌≡◌, ℕ, ◌<◌, ◌^◌, List, All, IfSome, length, slice_index_or}
use Rattle.sd_model_outside.specs.Outside.{Object}
use Rattle.sd_model_settings.specs.Settings.{Settings}
use Rattle.sd_model_outside.specs.Backend.{Backend}
use Rattle.sd_pool.specs.Pool.{own_at, shards_of}
use Rattle.sd_shared.specs.declared.shared.Shared.{Shared}
use Rattle.sd_shared_desk.specs.Shared.{number_of_seat, part_of}
use Rattle.sd_receive.specs.Posts.{HasRun, IsReady}
use Rattle.sd_receive.specs.declared.post.Post.{Post}
use Rattle.sd_shared.specs.DoorKeeper.{EndsDoorKeeper}
use Rattle.sd_session.specs.Doors.{ServesSessions}
use Rattle.sd_serve.specs.LinePost.{AreLinesReadBy, IsLineReady}
use Rattle.sd_outside.specs.Backends.{uses}
use Rattle.sd_flush.specs.Tables.{IsFlusherPost}
use Rattle.sd_serve.specs.Services.{IsAdminPost, IsIdleDoor}
use Rattle.sd_serve.specs.declared.objects.ServerObjects.{ServerObjects}
use Rattle.sd_serve.specs.declared.services.ServicePosts.{ServicePosts}
use Rattle.sd_serve.specs.declared.workers.Ends.{Ends}

-- the same objects are lent
pub record StayObjects {P B E S : Type 0} (old new : ServerObjects P B E S) : Type 0 where
  pub beat : new.beat.ghost_name ≡ old.beat.ghost_name
  pub backs : new.backs.ghost_name ≡ old.backs.ghost_name
  pub door : new.door.ghost_name ≡ old.door.ghost_name
  pub streams : new.streams.ghost_name ≡ old.streams.ghost_name

-- what is seen of each kind of object
pub record Sights (D L P B E S : Type 0) : Type 0 where
  pub source : D → Object
  pub wire : L → Object
  pub beat : P → Object
  pub back : B → Object
  pub door : E → Object
  pub streams : S → Object

-- what workers hold, and what is lent to them
pub record Held (D L P B E S : Type 0) : Type 0 where
  pub services : ServicePosts
  pub posts : List (Post D L)
  pub objects : ServerObjects P B E S

module _ {D L P B E S : Type 0} where
  abbrev pub sights : (D → Object) → (L → Object) → (P → Object) → (B → Object) → (E → Object) → (S → Object) → Sights D L P B E S
  sights source wire beat back door streams = record { source = source; wire = wire; beat = beat; back = back; door = door; streams = streams }

  abbrev pub held : ServicePosts → List (Post D L) → ServerObjects P B E S → Held D L P B E S
  held services posts objects = record { services = services; posts = posts; objects = objects }

  module _ {G C : Type 0} (see : Sights D L P B E S) (shared : Shared G C) where
    -- Each worker has its post over the pool and the desk that are shared. No session of a door is out, and turns are left.
    pub record AreReady (h : Held D L P B E S) : Type 0 where
      pub flusher : IsFlusherPost shared.pool.now shared.desk.now h.services.flusher
      pub admin : IsAdminPost shared.pool.now shared.desk.now h.services.admin
      pub lines : IfSome h.services.lines (IsLineReady shared.pool.now shared.desk.now)
      pub posts : All (IsReady shared.pool.now shared.desk.now) h.posts
      pub beat : (see.beat h.objects.beat.now).turns < 2 ^ 62
      pub door : IsIdleDoor (see.door h.objects.door.now)
      pub streams : IsIdleDoor (see.streams h.objects.streams.now)

    -- Both doors' keepers and each receiver did their work and ended so. All workers have their posts, and the same objects are lent to
    -- them. What the flusher did depends on where its texts went.
    pub record HaveRun (says : ℕ → Type 0) (settings : Settings) (old new : Held D L P B E S) (ends : Ends) : Type 0 where
      pub flusher : IsFlusherPost shared.pool.now shared.desk.now new.services.flusher
      pub number : number_of_seat new.services.flusher.own ≡ number_of_seat old.services.flusher.own
      pub admin : IsAdminPost shared.pool.now shared.desk.now new.services.admin
      pub admin_number : number_of_seat new.services.admin.own ≡ number_of_seat old.services.admin.own
      pub serves : ServesSessions (shards_of shared.pool.now) settings says (own_at old.services.admin.seat) (own_at new.services.admin.seat) (see.door old.objects.door.now) (see.door new.objects.door.now) (part_of old.services.admin.own) (part_of new.services.admin.own)
      pub keeper : EndsDoorKeeper shared.run_flushes ends.keeper (see.door old.objects.door.now) (see.door new.objects.door.now) (part_of new.services.admin.own)
      pub lines : AreLinesReadBy says shared.pool.now shared.desk.now shared.run_flushes old.services.lines new.services.lines ends.line_reader (see.streams old.objects.streams.now) (see.streams new.objects.streams.now)
      pub objects : StayObjects old.objects new.objects
      pub same_use : (b : Backend) → uses new.objects.backs.now b ≡ uses old.objects.backs.now b
      pub len : length new.posts ≡ length old.posts
      pub each : (i : ℕ) (d : Post D L) → i < length old.posts → HasRun see.source see.wire says shared.pool.now shared.desk.now shared.run_flushes (slice_index_or old.posts i d) (slice_index_or new.posts i d)

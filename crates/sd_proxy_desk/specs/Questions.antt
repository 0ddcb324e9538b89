-- The questions of one check, and what they found.
use Rattle.std.specs.Prelude.{◌≡◌, ℕ, ◌+◌, ◌^◌, cond, List, length, map, count_by, Option, slice_get, false}
use Rattle.std.specs.Option.{is_none, option_map_or}
use Rattle.sd_model_settings.specs.Entries.{Node}
use Rattle.sd_model_outside.specs.Outside.{Object, Host}
use Rattle.sd_model_outside.specs.Uses.{AreAsked}
use Rattle.sd_model_live.specs.Proxy.{tells_up}
use Rattle.sd_proxy_desk.specs.declared.questions.Found.{Found}
use Rattle.sd_model_ring.specs.Ring.{is_up}

-- What came of the question of the node in a place was added to what was found.
pub record AddsAnswer (place : ℕ) (answer : Option (List ℕ)) (old new : Found) : Type 0 where
  pub up : new.up ≡ cond (tells_up answer) (old.up + 2 ^ place) old.up
  pub failed : new.failed ≡ old.failed + cond (is_none answer) 1 0

-- All nodes were asked, in order: the set of those that say that they are up, and how many of the questions failed.
pub record HasAskedAll (nodes : List Node) (old new : Object) (up failed : ℕ) : Type 0 where
  pub answers : List (Option (List ℕ))
  pub each : length answers ≡ length nodes
  pub asked : AreAsked (map (λ node. Host node.host node.adminport) nodes) answers old new
  pub set : (node : ℕ) → is_up up node ≡ option_map_or tells_up (slice_get answers node) false
  pub failures : failed ≡ count_by is_none answers

-- What contracts read of an outlet's drain.
use Rattle.std.specs.Prelude.{◌≡◌, ℕ, ◌+◌, ◌≤◌, true, List, length, Option, IsSomeAnd}
use Rattle.crossbeam_queue.specs.Passes.{view, IsPassOf}
use Rattle.sd_outlet.specs.declared.drain.Drain.{Drain}
use Rattle.sd_outlet.specs.declared.outlet.Outlet.{Outlet}
use Rattle.sd_outlet.specs.Feed.{buffers, bytes_of}
use Rattle.sd_outlet.specs.StopFlag.{IsSeatOf}

-- the texts that were taken, in order
abbrev pub got : Drain → List (List ℕ)
got d = (view d.full).taken

-- how many texts were sent when the feed was stopped, if the drain last found it stopped
abbrev pub stop_found : Drain → Option ℕ
stop_found d = d.stop.me.0.found

-- it found the feed stopped, and has taken as many texts as were sent by then
abbrev pub HasFinished : Drain → Type 0
HasFinished d = IsSomeAnd (stop_found d) (λ sends. sends ≤ length (got d))

-- The drain is this outlet's: it takes out of the queue of full buffers, puts into that of empty ones, and reads the flag. All
-- buffers were put among the empty ones at first, and one for each text taken.
pub record IsDrainOf (o : Outlet) (d : Drain) : Type 0 where
  pub full : IsPassOf o.full d.full
  pub empty : IsPassOf o.empty d.empty
  pub stop : IsSeatOf o.stop d.stop
  pub takes : (view d.full).takes ≡ true
  pub full_size : (view d.full).size ≡ bytes_of o
  pub puts : (view d.empty).puts ≡ true
  pub empty_size : (view d.empty).size ≡ bytes_of o
  pub counted : d.taken ≤ length (got d)
  pub balance : length (view d.empty).put ≡ buffers o + length (got d)

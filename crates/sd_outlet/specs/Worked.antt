-- What a count of rounds says of the texts that were written.
use Rattle.std.specs.Prelude.{◌≡◌, ◌≢◌, ℕ, List, [], ◌∷◌, map, length, min}
use Rattle.sd_model_outside.specs.Outside.{Object, BackendText, Content, last_count}
use Rattle.sd_model_outside.specs.Uses.{NotUsed, Delivery, AfterDeliveries, missed}
use Rattle.sd_outlet.specs.Lists.{HasLists, texts_written}
use Rattle.sd_outlet.specs.declared.worked.Worked.{Worked}

-- each is of a backend that is used
abbrev pub EachUsed : List Delivery → Type 0
EachUsed [] = Unit {0}
EachUsed (d ∷ deliveries) = (d.mark ≢ NotUsed) × EachUsed deliveries

-- Each of these texts was one round of the backend, in order, written whole or missed, and the count is of these rounds.
pub record HasWorked (texts : List (List ℕ)) (w : Worked) (old new : Object) : Type 0 where
  pub deliveries : List Delivery
  pub of_texts : map (λ d. d.text) deliveries ≡ texts
  pub used : EachUsed deliveries
  pub after : AfterDeliveries deliveries old new
  pub written : w.written ≡ min (length (texts_written deliveries)) last_count
  pub faults : w.faults ≡ min (missed deliveries) last_count

-- A backend has these lists, and behind them those of a round for each of these texts.
pub record HasListsOf (texts : List (List ℕ)) (before : List BackendText) (now : Content) : Type 0 where
  pub deliveries : List Delivery
  pub of_texts : map (λ d. d.text) deliveries ≡ texts
  pub used : EachUsed deliveries
  pub lists : HasLists deliveries before now

-- The lines that wait to go to one node, and what sending them does.
use Rattle.std.specs.Prelude.{◌≡◌, ◌-◌, ℕ, List, [], ◌∷◌, ◌++◌, flat_map, length, take}
use Rattle.sd_model_outside.specs.Outside.{Object}
use Rattle.sd_model_record.specs.Totals.{Total}
use Rattle.sd_model_proxy.specs.Routes.{batches, batches_from}
use Rattle.sd_proxy.specs.Sending.{Sends}
use Rattle.sd_proxy.specs.declared.waiting.Waiting.{Waiting}

-- lines, each with a newline behind it
abbrev pub closed : List (List ℕ) → List ℕ
closed lines = flat_map (λ line. line ++ 10 ∷ []) lines

-- These lines wait, in room for a packet of at most so many bytes.
pub record Holds (most : ℕ) (begun : List (List ℕ)) (w : Waiting) : Type 0 where
  pub room : length w.room.items - 1 ≡ most
  pub text : take w.len w.room.items ≡ closed begun
  pub count : w.lines ≡ length begun

-- the packet of lines that wait, where there are any
abbrev pub under_way : List (List ℕ) → List (List (List ℕ))
under_way [] = []
under_way (line ∷ begun) = (line ∷ begun) ∷ []

-- the packets of lines that wait, and of the lines behind them
abbrev pub batches_behind : ℕ → (begun lines : List (List ℕ)) → List (List (List ℕ))
batches_behind most [] lines = batches most lines
batches_behind most (line ∷ begun) lines = batches_from most (line ∷ begun) lines

-- A line was taken behind lines that waited: some packets were sent, and some lines wait now, and whatever lines come then, these are
-- the first packets of all, and what waits goes on with those lines.
pub record TakesLine (most : ℕ) (begun : List (List ℕ)) (line : List ℕ) (wire wire_now : Object) (totals totals_now : List Total) (w : Waiting) : Type 0 where
  pub packets : List (List (List ℕ))
  pub left : List (List ℕ)
  pub sends : Sends packets wire wire_now totals totals_now
  pub holds : Holds most left w
  pub cut : (lines : List (List ℕ)) → batches_behind most begun (line ∷ lines) ≡ packets ++ batches_behind most left lines

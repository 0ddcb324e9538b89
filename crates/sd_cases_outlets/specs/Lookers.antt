-- What receivers that look were answered.
use Rattle.std.specs.Prelude.{◌≡◌, [], ◌∷◌}
use Rattle.sd_model_live.specs.Proxy.{all_of}
use Rattle.sd_live.specs.Looks.{HaveAnswered}
use Rattle.sd_live.specs.declared.up_cell.UpCell.{UpCell}
use Rattle.sd_live.specs.Live.{nodes_of, seen, IsPassOf}
use Rattle.sd_cases_outlets.specs.declared.looker.Looker.{Looker}

-- it has seen the first set, and was answered nothing yet
abbrev pub IsNew : UpCell → Looker → Type 0
IsNew cell l = IsPassOf cell l.pass × (seen l.pass ≡ all_of (nodes_of cell) ∷ []) × (l.answers.items ≡ [])

-- What it was answered since it had seen this much.
pub record HasLooked (cell : UpCell) (old new : Looker) : Type 0 where
  pub pass : IsPassOf cell new.pass
  pub answers : HaveAnswered (seen old.pass) (seen new.pass) new.answers.items

-- What it was answered since it had seen the first set.
pub record HasSeen (cell : UpCell) (l : Looker) : Type 0 where
  pub pass : IsPassOf cell l.pass
  pub answers : HaveAnswered (all_of (nodes_of cell) ∷ []) (seen l.pass) l.answers.items

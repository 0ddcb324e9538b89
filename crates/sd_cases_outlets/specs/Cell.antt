-- What the steps of a case need of a cell and its passes.
use Rattle.std.specs.Prelude.{◌≡◌, ◌+◌, length, All}
use Rattle.sd_live.specs.declared.up_cell.UpCell.{UpCell}
use Rattle.sd_live.specs.Live.{seen, IsPassOf, IsCheckerOf}
use Rattle.sd_cases_outlets.specs.declared.cell.Watch.{Watch}

-- The passes are this cell's, and so many sets were published.
pub record AreReady (cell : UpCell) (w : Watch) : Type 0 where
  pub checker : IsCheckerOf cell w.passes.checker
  pub receivers : All (IsPassOf cell) w.passes.receivers.items
  pub count : length (seen w.passes.checker) ≡ w.published + 1

-- What clauses read of the cell of the nodes that are up, and of its passes.
use Rattle.std.specs.Prelude.{◌≡◌, ℕ, ◌≤◌, Bool, true, false, List, ◌∷◌}
use Rattle.crossbeam_utils.specs.Seq.{cell_view}
use Rattle.sd_model_live.specs.Proxy.{all_of}
use Rattle.sd_live.specs.declared.pass.UpPass.{UpPass}
use Rattle.sd_live.specs.declared.up_cell.UpCell.{UpCell}

-- for how many nodes a cell was opened
abbrev pub nodes_of : UpCell → ℕ
nodes_of c = c.nodes

-- the sets published, as a pass has last seen them
abbrev pub published_in : UpPass → List ℕ
published_in p = (cell_view p.pass).published

-- the history of the sets, as a pass has last seen it: the first set, and then those that were published
abbrev pub seen : UpPass → List ℕ
seen p = p.all ∷ published_in p

-- the places in the history of the sets that a pass was told by its looks, in order
abbrev pub looks_of : UpPass → List ℕ
looks_of p = (cell_view p.pass).looks

-- whether a pass publishes
abbrev pub publishes : UpPass → Bool
publishes p = (cell_view p.pass).publishes

-- a pass is one of a cell, whose first set is that of all its nodes, of which there are at most 64
abbrev pub IsPassOf : UpCell → UpPass → Type 0
IsPassOf c p = (p.pass.table_id ≡ c.sets.table.shared.table_id) × (p.all ≡ all_of c.nodes) × (c.nodes ≤ 64)

-- the pass of a cell that publishes
abbrev pub IsCheckerOf : UpCell → UpPass → Type 0
IsCheckerOf c p = IsPassOf c p × (publishes p ≡ true)

-- a pass of a cell that doesn't publish
abbrev pub IsReceiverOf : UpCell → UpPass → Type 0
IsReceiverOf c p = IsPassOf c p × (publishes p ≡ false)

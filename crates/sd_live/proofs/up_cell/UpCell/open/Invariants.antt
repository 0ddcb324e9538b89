use Rattle.std.proofs.Common.{◌≡◌, length, All, [], ◌∷◌}
use Rattle.sd_model_live.specs.Proxy.{all_of}
use Rattle.sd_live.specs.Live.{seen, IsCheckerOf, IsReceiverOf}
use Rattle.sd_live.proofs.up_cell.UpCell.open.Given as goal

abbrev pub invariant-loop : goal.invariant-loop
invariant-loop l =
    IsCheckerOf l.cell l.checker × (seen l.checker ≡ all_of l.nodes ∷ [])
    × All (λ p. IsReceiverOf l.cell p × (seen p ≡ all_of l.nodes ∷ [])) l.made.items
    × (length l.made.items ≡ l.counter)

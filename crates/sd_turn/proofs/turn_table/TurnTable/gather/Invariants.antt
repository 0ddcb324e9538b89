use Rattle.std.proofs.Common.{◌≡◌, map, ◌++◌, All, false, vec_len}
use Rattle.sd_turn.specs.Views.{first_account}
use Rattle.sd_turn.proofs.turn_table.TurnTable.gather.Given as goal

abbrev pub invariant-loop-next : goal.invariant-loop-next
invariant-loop-next g l =
    let inner = g.T.PlainSeat.inner in
    let accounts = map (λ s. first_account (inner s).me.0.accounts) in
    (l.keeper.table_id ≡ l.self.table.shared.table_id)
    × (l.keeper.me.0.turn ≡ false)
    × (accounts l.fn.seats.items ≡ accounts l.seats.items ++ l.keeper.me.0.accounts)
    × All (λ s. (inner s).table_id ≡ l.self.table.shared.table_id) l.seats.items

abbrev pub decreases-loop-next : goal.decreases-loop-next
decreases-loop-next g l = vec_len l.seats

use Rattle.sd_shard.proofs.swap.swap_shard.Given as goal

-- the steps are counted in a ledger of their own
abbrev pub ghosts-swap_counted : goal.ghosts-swap_counted
ghosts-swap_counted a = record { name = a.blank.name; parts = a.blank.parts }

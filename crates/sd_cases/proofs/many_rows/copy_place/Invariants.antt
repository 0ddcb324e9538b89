use Rattle.sd_cases.proofs.many_rows.copy_place.Given as goal

-- the steps are counted in a ledger of their own
abbrev pub ghosts-copy_counted : goal.ghosts-copy_counted
ghosts-copy_counted a = record { name = a.blank.name; parts = a.blank.parts }

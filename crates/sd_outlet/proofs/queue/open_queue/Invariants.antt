use Rattle.sd_outlet.proofs.queue.open_queue.Given as goal

abbrev pub ghosts-set_size : goal.ghosts-set_size
ghosts-set_size a = record { bytes = a.size }

use Rattle.unit_threads.proofs.running.run.Given as goal

-- the garage that it was handed
abbrev pub ghosts-run_from : goal.ghosts-run_from
ghosts-run_from g a = record { start = a.garage }

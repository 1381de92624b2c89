use Rattle.page_runner.proofs.in_place.page_in_place.Given as goal

abbrev pub ghosts-run_begun : goal.ghosts-run_begun
ghosts-run_begun g a = record { entities = a.job.now.table.now }

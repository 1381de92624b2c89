use Rattle.page_tests.proofs.traced.run_by_table.Given as goal

abbrev pub ghosts-run_begun : goal.ghosts-run_begun
ghosts-run_begun g a = record { entities = a.job.now.table.now }

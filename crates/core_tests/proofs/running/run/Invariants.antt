use Rattle.core_tests.proofs.running.run.Given as goal

abbrev pub ghosts-run_in_force : goal.ghosts-run_in_force
ghosts-run_in_force a = record { entities = a.table.now }

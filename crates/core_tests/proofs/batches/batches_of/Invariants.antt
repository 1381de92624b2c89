use Rattle.core_tests.proofs.batches.batches_of.Given as goal

abbrev pub ghosts-batches_in_force : goal.ghosts-batches_in_force
ghosts-batches_in_force a = record { entities = a.table.now }

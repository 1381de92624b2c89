use Rattle.page_runner.proofs.batch.run_paths.Given as goal

-- the entities in force are those of the table
abbrev pub ghosts-paths_in_force : goal.ghosts-paths_in_force
ghosts-paths_in_force g a = record { entities = a.table.now }

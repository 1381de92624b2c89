use Rattle.thread_tests.proofs.lanes.here_by_table.Given as goal

-- the entities in force are those of the table
abbrev pub ghosts-here : goal.ghosts-here
ghosts-here g a = record { entities = a.table.now }

use Rattle.thread_tests.proofs.lanes.there_by_table.Given as goal

-- the entities in force are those of the table
abbrev pub ghosts-there : goal.ghosts-there
ghosts-there g a = record { entities = a.table.now }

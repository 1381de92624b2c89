use Rattle.page_runner.proofs.command.run_page.Given as goal

-- the entities in force are those of the table
abbrev pub ghosts-by_table : goal.ghosts-by_table
ghosts-by_table g a = record { entities = a.job.now.table.now }

use Rattle.page_runner.proofs.making.make_and_parse.Given as goal

-- the entities in force are those of the table
abbrev pub ghosts-parse_made : goal.ghosts-parse_made
ghosts-parse_made g a = record { entities = a.table.now }

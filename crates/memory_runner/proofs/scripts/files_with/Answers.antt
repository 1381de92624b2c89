use Rattle.std.specs.Prelude.{codes}
use Rattle.memory_runner.specs.Runs.{path_in}
use Rattle.memory_runner.proofs.scripts.files_with.Goals as goal

pub returns-clause-page : goal.returns-clause-page
returns-clause-page c = c.in_ok-add.ensures.ok (codes "p")

pub returns-clause-scripts : goal.returns-clause-scripts
returns-clause-scripts c name = c.in_ok-add.ensures.ok (path_in name)

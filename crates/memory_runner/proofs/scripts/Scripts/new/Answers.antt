use Rattle.std.proofs.Common.{ap}
use Rattle.page_turns.specs.Scripts.{fetched_of}
use Rattle.memory_runner.specs.Runs.{path_in}
use Rattle.memory_runner.proofs.scripts.Scripts.new.Goals as goal

pub returns : goal.returns
returns c name = ap fetched_of (c.new.ensures.files (path_in name))

use Rattle.std.proofs.Common.{◌≡◌, ℕ, List, take}
use Rattle.memory_runner.specs.Runs.{scripts_in}
use Rattle.specparse_c.specs.Runs.{scripts_given}
use Rattle.specparse_c.proofs.running.scripts_of.Given as goal

-- those so far
abbrev pub invariant-loop-row : goal.invariant-loop-row
invariant-loop-row l = (name : List ℕ) → scripts_in l.all name ≡ scripts_given l.bytes (take l.row-index l.rows) name

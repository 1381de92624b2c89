use Rattle.std.proofs.Common.{◌≡◌, ◌≤◌, length}
use Rattle.standard.specs.Instructions.{config, on, run}
use Rattle.builder_state.proofs.machine.run_row.Given as goal

abbrev pub invariant-loop-instr : goal.invariant-loop-instr
invariant-loop-instr l =
    (run l.token (config l.state l.ops l.flow) l.left ≡ run l.token (on l.initial.state l.initial.ops) l.program)
    × (length l.state.stack ≤ 512)

abbrev pub decreases-loop-instr : goal.decreases-loop-instr
decreases-loop-instr l = length l.left

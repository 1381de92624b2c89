use Rattle.std.proofs.Common.{◌≡◌, ◌≤◌, length, if◌then◌else◌}
use Rattle.html_types.specs.declared.instruction.Flow.TheVariants.{On, Skip}
use Rattle.standard.specs.Instructions.{config, on, run}
use Rattle.standard.specs.Rules.{answer_of}
use Rattle.builder_state.proofs.at_once.answer_row.Given as goal

abbrev pub invariant-loop-instr : goal.invariant-loop-instr
invariant-loop-instr l =
    (answer_of (run l.token (config l.state l.ops (if l.skips then Skip else On)) l.left) ≡ answer_of (run l.token (on l.initial.state l.initial.ops) l.program))
    × (length l.state.stack ≤ 512)

abbrev pub decreases-loop-instr : goal.decreases-loop-instr
decreases-loop-instr l = length l.left

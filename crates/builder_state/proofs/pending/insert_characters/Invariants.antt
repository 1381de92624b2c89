use Rattle.std.proofs.Common.{◌≡◌, ◌++◌}
use Rattle.standard.specs.Instructions.{texts}
use Rattle.builder_state.proofs.pending.insert_characters.Given as goal

abbrev pub invariant-loop-c : goal.invariant-loop-c
invariant-loop-c l = l.ops ≡ l.initial.ops ++ texts l.place l.yielded

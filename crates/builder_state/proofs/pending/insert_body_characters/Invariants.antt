use Rattle.std.proofs.Common.{◌≡◌, ◌≤◌, length}
use Rattle.standard.specs.Instructions.{on, body_characters}
use Rattle.builder_state.proofs.pending.insert_body_characters.Given as goal

abbrev pub invariant-loop-c : goal.invariant-loop-c
invariant-loop-c l =
    (body_characters l.yielded (on l.initial.state l.initial.ops) ≡ on l.state l.ops)
    × (length l.state.stack ≤ 512)

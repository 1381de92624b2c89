use Rattle.std.proofs.Common.{◌≡◌, ◌≤◌, length, reverse}
use Rattle.standard.specs.Instructions.{on, reopen_all}
use Rattle.builder_state.proofs.insert.reopen_lost.Given as goal

abbrev pub invariant-loop-tag : goal.invariant-loop-tag
invariant-loop-tag l =
    (reopen_all (reverse l.tags.items) (on l.state l.ops) ≡ reopen_all (reverse l.initial.tags.items) (on l.initial.state l.initial.ops))
    × (length l.state.stack ≤ 512)

abbrev pub decreases-loop-tag : goal.decreases-loop-tag
decreases-loop-tag l = length l.tags.items

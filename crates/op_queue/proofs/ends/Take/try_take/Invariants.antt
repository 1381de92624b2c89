use Rattle.std.proofs.Common.{◌≡◌, ◌≤◌, length}
use mathlib.Core.List.{IsPrefix}
use Rattle.std.specs.Arc.{arc_value}
use Rattle.crossbeam_queue.specs.Passes.{view, IsPassOf}
use Rattle.op_queue.specs.Count.{IsTellerOf}
use Rattle.op_queue.specs.Rule.{MayTake}
use Rattle.op_queue.proofs.ends.Take.try_take.Given as goal

abbrev pub invariant-loop : goal.invariant-loop
invariant-loop g l = (l.self-inside.pass.table_id ≡ l.initial.self-inside.pass.table_id) × (view l.self-inside.pass ≡ view l.initial.self-inside.pass)
    × IsPassOf (arc_value l.self-inside.line) l.self-inside.pass × MayTake l.self-inside.pass
    × (l.self-inside.teller.table_id ≡ l.initial.self-inside.teller.table_id) × IsPrefix l.initial.self-inside.teller.me.0.looks l.self-inside.teller.me.0.looks
    × IsTellerOf (arc_value l.self-inside.count) l.self-inside.teller
    × (l.self-inside.counted ≤ length (view l.self-inside.pass).taken) × (l.self-inside.line ≡ l.initial.self-inside.line)

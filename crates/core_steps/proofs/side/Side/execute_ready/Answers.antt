use Rattle.std.proofs.Common.{◌∙◌, List, [], ◌∷◌, ap, length, refl, sym}
use Rattle.html_types.specs.declared.operation.Op.{Op}
use Rattle.core_definitions.specs.Batches.{Batch}
use Rattle.doc_changes.specs.declared.change.Change.TheVariants.{Did}
use Rattle.doc_changes.specs.Logs.{with_more}
use Rattle.core_steps.specs.Changing.{of_first}
use Rattle.core_steps.proofs.Executes.{ready-front, ready-executed}
use Rattle.core_steps.proofs.Ready.{ops-bound, machine-served, executed-behind}
use Rattle.core_steps.proofs.side.Side.execute_ready.Goals as goal

pub execute-requires-clause-bound : goal.execute-requires-clause-bound
execute-requires-clause-bound c =
    ops-bound c.args.self.now c.args.batch c.args.self.now.ready c.requires.first c.requires.free c.into_parts-ops.result.0 c.in-Some.machine c.into_parts-ops.ensures.ops

pub execute-requires-clause-served : goal.execute-requires-clause-served
execute-requires-clause-served c =
    machine-served c.args.self.now c.args.batch c.args.self.now.ready c.requires.first c.requires.free c.into_parts-ops.result.0 c.in-Some.machine c.into_parts-ops.ensures.ops
    (c.in-Some.ensures ∙ c.into_parts-ops.ensures.after)

pub use_up-requires-clause-front : goal.use_up-requires-clause-front
use_up-requires-clause-front c =
    ready-front c.args.self.now c.args.batch c.args.self.now.ready (length c.as_str-used.result.now) c.as_str-used.result.now c.requires.first c.as_str-used.utf8 refl (c.as_str-used.ensures ∙ c.text.ensures)

pub returns-in_ok-execute-in-Some-clause-executed : goal.returns-in_ok-execute-in-Some-clause-executed
returns-in_ok-execute-in-Some-clause-executed c =
    ready-executed c.args.self.now (record c.args.self.now { writer = c.execute.new.self }) c.use_up.new.self c.halt-halt.result c.args.batch (length c.as_str-used.result.now) c.as_str-used.result.now
    c.requires.first c.halt-halt.ensures c.requires.free c.as_str-used.utf8 refl (c.as_str-used.ensures ∙ c.text.ensures)
    (executed-behind c.args.self.now c.args.batch c.args.self.now.ready c.requires.first c.requires.free c.into_parts-ops.result.0 c.in-Some.machine c.into_parts-ops.ensures.ops
    (c.in-Some.ensures ∙ c.into_parts-ops.ensures.after) c.execute.new.self c.in_ok-execute-in-Some.ensures.executed)
    c.use_up.ensures

pub returns-in_ok-execute-in-Some-clause-logged : goal.returns-in_ok-execute-in-Some-clause-logged
returns-in_ok-execute-in-Some-clause-logged c =
    c.in_ok-execute-in-Some.ensures.logged ∙ (ap (λ (ops : List Op). with_more (Did ops ∷ []) c.args.log.now) c.into_parts-ops.ensures.ops
    ∙ ap (λ (bs : List Batch). with_more (of_first bs) c.args.log.now) (sym c.requires.first))

use Rattle.std.proofs.Common.{◌++◌, List, refl, ap, ◌∙◌}
use Rattle.html_types.specs.declared.operation.Op.{Op}
use Rattle.html_types.specs.declared.operation.Op.TheVariants as op
use Rattle.html_types.specs.Operations.{spelled_one}
use Rattle.text_store.specs.declared.ops.Record.TheVariants as record_of
use Rattle.text_store.proofs.ListLemmas.{all_not}
use Rattle.text_store.proofs.RecordLemmas.{put_means, still_held, still_spelled, pushed_held, pushed_spelled, on_err_held}
use Rattle.text_store.proofs.ops.Ops.push_put.Goals as goal

pub invariant_of-self : goal.invariant_of-self
invariant_of-self c =
    let s = c.self.inside.store in
    still_held s s (all_not s) c.self.inside.records.items c.push.new.self.items c.self.invariant c.in_err-push.ensures.items

pub returns-in_err-push-clause-err : goal.returns-in_err-push-clause-err
returns-in_err-push-clause-err c =
    let s = c.self.inside.store in
    on_err_held c.from_residual.result (still_spelled s s (all_not s) c.self.inside.records.items c.push.new.self.items c.self.invariant c.in_err-push.ensures.items ∙ c.self.view_is)

pub invariant_of-self-2 : goal.invariant_of-self-2
invariant_of-self-2 c =
    let s = c.self.inside.store in
    pushed_held s s (all_not s) c.self.inside.records.items c.push.new.self.items c.self.invariant (record_of.Put c.args.node c.args.place) (op.Put c.args.node c.args.place) (put_means s c.args.node c.args.place) c.in_ok-push.ensures.items

pub returns-clause-ok : goal.returns-clause-ok
returns-clause-ok c =
    let s = c.self.inside.store in
    pushed_spelled s s (all_not s) c.self.inside.records.items c.push.new.self.items c.self.invariant (record_of.Put c.args.node c.args.place) (op.Put c.args.node c.args.place) (put_means s c.args.node c.args.place) c.in_ok-push.ensures.items
    ∙ ap (λ (l : List Op). l ++ spelled_one (op.Put c.args.node c.args.place)) c.self.view_is

use Rattle.std.proofs.Common.{◌++◌, List, refl, ap, ◌∙◌}
use Rattle.html_types.specs.declared.operation.Op.{Op}
use Rattle.html_types.specs.declared.operation.Op.TheVariants as op
use Rattle.html_types.specs.Operations.{spelled_one}
use Rattle.text_store.specs.declared.ops.Record.TheVariants as record_of
use Rattle.text_store.proofs.RecordLemmas.{make_means, still_held, still_spelled, pushed_held, pushed_spelled, on_err_held}
use Rattle.text_store.proofs.ops.Ops.push_make.Goals as goal

pub invariant_of-self : goal.invariant_of-self
invariant_of-self c = still_held c.self.inside.store c.push_element.new.self c.push_element.ensures.kept c.self.inside.records.items c.self.inside.records.items c.self.invariant refl

pub returns-in_err-kept-clause-err : goal.returns-in_err-kept-clause-err
returns-in_err-kept-clause-err c =
    on_err_held c.from_residual.result (still_spelled c.self.inside.store c.push_element.new.self c.push_element.ensures.kept c.self.inside.records.items c.self.inside.records.items c.self.invariant refl ∙ c.self.view_is)

pub invariant_of-self-in_err-push : goal.invariant_of-self-in_err-push
invariant_of-self-in_err-push c =
    still_held c.self.inside.store c.push_element.new.self c.push_element.ensures.kept c.self.inside.records.items c.push.new.self.items c.self.invariant c.in_err-push.ensures.items

pub returns-in_err-push-clause-err : goal.returns-in_err-push-clause-err
returns-in_err-push-clause-err c =
    on_err_held c.from_residual-in_err-push.result (still_spelled c.self.inside.store c.push_element.new.self c.push_element.ensures.kept c.self.inside.records.items c.push.new.self.items c.self.invariant c.in_err-push.ensures.items ∙ c.self.view_is)

pub invariant_of-self-2 : goal.invariant_of-self-2
invariant_of-self-2 c =
    pushed_held c.self.inside.store c.push_element.new.self c.push_element.ensures.kept c.self.inside.records.items c.push.new.self.items c.self.invariant (record_of.Make c.args.id c.in_ok-kept.kept) (op.Make c.args.id c.args.name.now c.args.attributes.now)
    (make_means c.push_element.new.self c.args.id c.in_ok-kept.kept c.args.name.now c.args.attributes.now c.in_ok-kept.ensures.ok) c.in_ok-push.ensures.items

pub returns-clause-ok : goal.returns-clause-ok
returns-clause-ok c =
    pushed_spelled c.self.inside.store c.push_element.new.self c.push_element.ensures.kept c.self.inside.records.items c.push.new.self.items c.self.invariant (record_of.Make c.args.id c.in_ok-kept.kept) (op.Make c.args.id c.args.name.now c.args.attributes.now)
    (make_means c.push_element.new.self c.args.id c.in_ok-kept.kept c.args.name.now c.args.attributes.now c.in_ok-kept.ensures.ok) c.in_ok-push.ensures.items
    ∙ ap (λ (l : List Op). l ++ spelled_one (op.Make c.args.id c.args.name.now c.args.attributes.now)) c.self.view_is

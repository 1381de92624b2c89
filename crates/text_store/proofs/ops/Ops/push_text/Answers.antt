use Rattle.std.proofs.Common.{◌++◌, List, refl, ap, ◌∙◌}
use Rattle.std.specs.Str.{chars}
use Rattle.html_types.specs.declared.operation.Op.{Op}
use Rattle.html_types.specs.declared.operation.Op.TheVariants as op
use Rattle.html_types.specs.Operations.{spelled_one}
use Rattle.text_store.specs.declared.ops.Record.TheVariants as record_of
use Rattle.text_store.proofs.RecordLemmas.{text_means, still_held, still_spelled, pushed_held, pushed_spelled, on_err_held}
use Rattle.text_store.proofs.ops.Ops.push_text.Goals as goal

pub returns-in_err-join_last-clause-err : goal.returns-in_err-join_last-clause-err
returns-in_err-join_last-clause-err c = on_err_held c.from_residual.result (c.in_err-join_last.ensures.err ∙ c.self.view_is)

pub returns-then-branch-clause-ok : goal.returns-then-branch-clause-ok
returns-then-branch-clause-ok c =
    c.in_ok-join_last.ensures.joined c.if-branch.true ∙ ap (λ (l : List Op). l ++ spelled_one (op.Text c.args.place (chars c.args.added.now))) c.self.view_is

pub invariant_of-self-in_err-piece : goal.invariant_of-self-in_err-piece
invariant_of-self-in_err-piece c =
    still_held c.join_last.new.store c.push_text.new.self c.push_text.ensures.kept c.join_last.new.records.items c.join_last.new.records.items c.join_last.ensures.held refl

pub returns-in_err-piece-clause-err : goal.returns-in_err-piece-clause-err
returns-in_err-piece-clause-err c =
    on_err_held c.from_residual-in_err-piece.result (still_spelled c.join_last.new.store c.push_text.new.self c.push_text.ensures.kept c.join_last.new.records.items c.join_last.new.records.items c.join_last.ensures.held refl
    ∙ (c.in_ok-join_last.ensures.other c.if-branch.false ∙ c.self.view_is))

pub invariant_of-self-in_err-push : goal.invariant_of-self-in_err-push
invariant_of-self-in_err-push c =
    still_held c.join_last.new.store c.push_text.new.self c.push_text.ensures.kept c.join_last.new.records.items c.push.new.self.items c.join_last.ensures.held c.in_err-push.ensures.items

pub returns-in_err-push-clause-err : goal.returns-in_err-push-clause-err
returns-in_err-push-clause-err c =
    on_err_held c.from_residual-in_err-push.result (still_spelled c.join_last.new.store c.push_text.new.self c.push_text.ensures.kept c.join_last.new.records.items c.push.new.self.items c.join_last.ensures.held c.in_err-push.ensures.items
    ∙ (c.in_ok-join_last.ensures.other c.if-branch.false ∙ c.self.view_is))

pub invariant_of-self-2 : goal.invariant_of-self-2
invariant_of-self-2 c =
    pushed_held c.join_last.new.store c.push_text.new.self c.push_text.ensures.kept c.join_last.new.records.items c.push.new.self.items c.join_last.ensures.held (record_of.Text c.args.place c.in_ok-piece.piece)
    (op.Text c.args.place (chars c.args.added.now)) (text_means c.push_text.new.self c.args.place c.in_ok-piece.piece (chars c.args.added.now) c.in_ok-piece.ensures.ok) c.in_ok-push.ensures.items

pub returns-clause-ok : goal.returns-clause-ok
returns-clause-ok c =
    let o = op.Text c.args.place (chars c.args.added.now) in
    pushed_spelled c.join_last.new.store c.push_text.new.self c.push_text.ensures.kept c.join_last.new.records.items c.push.new.self.items c.join_last.ensures.held (record_of.Text c.args.place c.in_ok-piece.piece)
    o (text_means c.push_text.new.self c.args.place c.in_ok-piece.piece (chars c.args.added.now) c.in_ok-piece.ensures.ok) c.in_ok-push.ensures.items
    ∙ ap (λ (l : List Op). l ++ spelled_one o) (c.in_ok-join_last.ensures.other c.if-branch.false ∙ c.self.view_is)

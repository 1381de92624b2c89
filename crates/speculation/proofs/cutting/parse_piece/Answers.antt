use Rattle.std.proofs.Common.{◌∙◌, sym}
use Rattle.speculation.proofs.Cuts.{piece-refused, piece-open, piece-ended}
use Rattle.speculation.proofs.cutting.parse_piece.Goals as goal

pub returns-then-not-branch-clause-batches : goal.returns-then-not-branch-clause-batches
returns-then-not-branch-clause-batches c =
    (piece-refused c.args.table.now c.args.machine.now c.args.piece.now c.in_ok-text.text c.in_ok-cut_text.field-0 c.cut_text.new.machine c.args.batches.now c.cut_text.new.batches
    (c.in_ok-text.ensures ∙ c.text.ensures) c.in_ok-cut_text.ensures.machine c.in_ok-cut_text.ensures.batches c.if-not-branch.true).0

pub returns-then-not-branch-clause-machine : goal.returns-then-not-branch-clause-machine
returns-then-not-branch-clause-machine c =
    sym (piece-refused c.args.table.now c.args.machine.now c.args.piece.now c.in_ok-text.text c.in_ok-cut_text.field-0 c.cut_text.new.machine c.args.batches.now c.cut_text.new.batches
    (c.in_ok-text.ensures ∙ c.text.ensures) c.in_ok-cut_text.ensures.machine c.in_ok-cut_text.ensures.batches c.if-not-branch.true).1

pub returns-in-None-clause-batches : goal.returns-in-None-clause-batches
returns-in-None-clause-batches c =
    (piece-open c.args.table.now c.args.machine.now c.args.piece.now c.in_ok-text.text c.in_ok-cut_text.field-0 c.cut_text.new.machine c.args.batches.now c.cut_text.new.batches
    (c.in_ok-text.ensures ∙ c.text.ensures) c.in_ok-cut_text.ensures.machine c.in_ok-cut_text.ensures.batches c.if-not-branch.false c.in-None.ensures).0

pub returns-in-None-clause-machine : goal.returns-in-None-clause-machine
returns-in-None-clause-machine c =
    sym (piece-open c.args.table.now c.args.machine.now c.args.piece.now c.in_ok-text.text c.in_ok-cut_text.field-0 c.cut_text.new.machine c.args.batches.now c.cut_text.new.batches
    (c.in_ok-text.ensures ∙ c.text.ensures) c.in_ok-cut_text.ensures.machine c.in_ok-cut_text.ensures.batches c.if-not-branch.false c.in-None.ensures).1

pub returns-in_ok-push-in-Some-clause-batches : goal.returns-in_ok-push-in-Some-clause-batches
returns-in_ok-push-in-Some-clause-batches c =
    (piece-ended c.args.table.now c.args.machine.now c.args.piece.now c.in_ok-text.text c.in_ok-cut_text.field-0 c.cut_text.new.machine c.args.batches.now c.cut_text.new.batches
    (c.in_ok-text.ensures ∙ c.text.ensures) c.in_ok-cut_text.ensures.machine c.in_ok-cut_text.ensures.batches c.if-not-branch.false c.in-Some.ending c.in_ok-batch-in-Some.batch c.push.new.self
    c.in-Some.ensures c.in_ok-batch-in-Some.ensures c.in_ok-push-in-Some.ensures.ok).0

pub returns-in_ok-push-in-Some-clause-machine : goal.returns-in_ok-push-in-Some-clause-machine
returns-in_ok-push-in-Some-clause-machine c =
    sym (piece-ended c.args.table.now c.args.machine.now c.args.piece.now c.in_ok-text.text c.in_ok-cut_text.field-0 c.cut_text.new.machine c.args.batches.now c.cut_text.new.batches
    (c.in_ok-text.ensures ∙ c.text.ensures) c.in_ok-cut_text.ensures.machine c.in_ok-cut_text.ensures.batches c.if-not-branch.false c.in-Some.ending c.in_ok-batch-in-Some.batch c.push.new.self
    c.in-Some.ensures c.in_ok-batch-in-Some.ensures c.in_ok-push-in-Some.ensures.ok).1

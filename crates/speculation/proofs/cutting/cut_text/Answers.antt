use Rattle.std.proofs.Common.{◌∙◌, sym, true≢false}
use Rattle.speculation.proofs.Cuts.{none-left, less-left, refused-there, fewer}
use Rattle.speculation.proofs.cutting.cut_text.Goals as goal

pub returns-then-deep-clause-batches : goal.returns-then-deep-clause-batches
returns-then-deep-clause-batches c =
    (refused-there c.args.table.now c.cuts.batches c.cuts.machine c.cuts.rest c.args.batches.now c.args.machine.now c.args.text c.cuts.invariant c.in_ok-batch.batch c.next_batch.new.machine c.next_batch.new.text
    (record {
      some = λ none. true≢false (sym (c.is_empty.ensures.1 none) ∙ c.cuts-test.true);
      batch = c.in_ok-batch.ensures.batch;
      parser = c.in_ok-batch.ensures.machine;
      rest = c.in_ok-batch.ensures.rest;
    }) (c.is_deep-deep.ensures.0 c.if-deep.true) c.push.new.self c.in_ok-push.ensures.ok).0

pub returns-then-deep-clause-machine : goal.returns-then-deep-clause-machine
returns-then-deep-clause-machine c =
    (refused-there c.args.table.now c.cuts.batches c.cuts.machine c.cuts.rest c.args.batches.now c.args.machine.now c.args.text c.cuts.invariant c.in_ok-batch.batch c.next_batch.new.machine c.next_batch.new.text
    (record {
      some = λ none. true≢false (sym (c.is_empty.ensures.1 none) ∙ c.cuts-test.true);
      batch = c.in_ok-batch.ensures.batch;
      parser = c.in_ok-batch.ensures.machine;
      rest = c.in_ok-batch.ensures.rest;
    }) (c.is_deep-deep.ensures.0 c.if-deep.true) c.push.new.self c.in_ok-push.ensures.ok).1

pub cuts-smaller : goal.cuts-smaller
cuts-smaller c =
    fewer c.args.table.now c.cuts.machine c.cuts.rest c.next_batch.new.text (λ none. true≢false (sym (c.is_empty.ensures.1 none) ∙ c.cuts-test.true)) c.in_ok-batch.ensures.rest

pub cuts-preserved : goal.cuts-preserved
cuts-preserved c =
    less-left c.args.table.now c.cuts.batches c.cuts.machine c.cuts.rest c.args.batches.now c.args.machine.now c.args.text c.cuts.invariant c.in_ok-batch.batch c.next_batch.new.machine c.next_batch.new.text
    (record {
      some = λ none. true≢false (sym (c.is_empty.ensures.1 none) ∙ c.cuts-test.true);
      batch = c.in_ok-batch.ensures.batch;
      parser = c.in_ok-batch.ensures.machine;
      rest = c.in_ok-batch.ensures.rest;
    }) (λ h. true≢false (sym (c.is_deep-deep.ensures.1 h) ∙ c.if-deep.false)) c.push.new.self c.in_ok-push.ensures.ok

pub returns-clause-batches : goal.returns-clause-batches
returns-clause-batches c =
    (none-left c.args.table.now c.cuts.batches c.cuts.machine c.cuts.rest c.args.batches.now c.args.machine.now c.args.text c.cuts.invariant (c.is_empty.ensures.0 c.cuts-test.false)).0

pub returns-clause-machine : goal.returns-clause-machine
returns-clause-machine c =
    (none-left c.args.table.now c.cuts.batches c.cuts.machine c.cuts.rest c.args.batches.now c.args.machine.now c.args.text c.cuts.invariant (c.is_empty.ensures.0 c.cuts-test.false)).1

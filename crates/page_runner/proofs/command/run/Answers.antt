use Rattle.std.proofs.Common.{map}
use Rattle.std.specs.String.{string_bytes}
use Rattle.command_words.specs.Words.{asked}
use Rattle.page_runner.proofs.Complete.{completes}
use Rattle.page_runner.proofs.Causes.{usage, absent, read_fault, write_fault}
use Rattle.page_runner.proofs.command.run.Goals as goal

pub returns-clause-complete : goal.returns-clause-complete
returns-clause-complete g c =
    let at = g.F.Outside.seen in
    completes (asked (map string_bytes c.args.words.now)) (map g.F.Outside.seen c.args.helpers.now.items) (map g.F.Outside.seen c.run_words.new.helpers.items) (at c.args.files.now) (at c.run_words.new.files) _ _ _ _ c.run_words.result c.run_words.ensures.answer

pub returns-clause-usage : goal.returns-clause-usage
returns-clause-usage g c =
    let at = g.F.Outside.seen in
    usage (asked (map string_bytes c.args.words.now)) (map g.F.Outside.seen c.args.helpers.now.items) (map g.F.Outside.seen c.run_words.new.helpers.items) (at c.args.files.now) (at c.run_words.new.files) _ _ _ _ c.run_words.result c.run_words.ensures.answer c.run_words.ensures.makes c.run_words.ensures.batches

pub returns-clause-absent : goal.returns-clause-absent
returns-clause-absent g c e =
    let at = g.F.Outside.seen in
    absent (asked (map string_bytes c.args.words.now)) (map g.F.Outside.seen c.args.helpers.now.items) (map g.F.Outside.seen c.run_words.new.helpers.items) (at c.args.files.now) (at c.run_words.new.files) _ _ _ _ c.run_words.result c.run_words.ensures.answer c.run_words.ensures.makes c.run_words.ensures.batches e

pub returns-clause-read_fault : goal.returns-clause-read_fault
returns-clause-read_fault g c e =
    let at = g.F.Outside.seen in
    read_fault (asked (map string_bytes c.args.words.now)) (map g.F.Outside.seen c.args.helpers.now.items) (map g.F.Outside.seen c.run_words.new.helpers.items) (at c.args.files.now) (at c.run_words.new.files) _ _ _ _ c.run_words.result c.run_words.ensures.answer c.run_words.ensures.makes c.run_words.ensures.batches e

pub returns-clause-write_fault : goal.returns-clause-write_fault
returns-clause-write_fault g c e =
    let at = g.F.Outside.seen in
    write_fault (asked (map string_bytes c.args.words.now)) (map g.F.Outside.seen c.args.helpers.now.items) (map g.F.Outside.seen c.run_words.new.helpers.items) (at c.args.files.now) (at c.run_words.new.files) _ _ _ _ c.run_words.result c.run_words.ensures.answer c.run_words.ensures.makes c.run_words.ensures.batches e

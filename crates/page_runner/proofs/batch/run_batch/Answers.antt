use Rattle.std.specs.String.{string_bytes}
use Rattle.outside.specs.declared.traits.Port.TheVariants.{Entities}
use Rattle.command_words.specs.Words.{batch_shown}
use Rattle.page_runner.specs.declared.command.TheConstants.{ENTITIES_LIMIT}
use Rattle.page_turns.proofs.KeepsLemmas.{begun_is}
use Rattle.page_runner.proofs.RunLemmas.{none_is, table_is, read_to_is}
use Rattle.page_runner.proofs.BatchRuns.{batch-without, batch-with, stops-without, stops-with, begins-without, begins-with}
use Rattle.page_runner.proofs.batch.run_batch.Goals as goal

pub returns-in-Err-clause-answer : goal.returns-in-Err-clause-answer
returns-in-Err-clause-answer g c =
    let at = g.F.Outside.seen in
    batch-without (batch_shown c.args.words.now) (at c.args.files.now) (at c.read_entities.new.files) _ _ _ _ c.end_without.result c.in-Err.unread
    (none_is _ (string_bytes c.args.words.now.entities) (at c.args.files.now) (at c.read_entities.new.files) c.in-Err.unread c.as_str.ensures.value c.in-Err.ensures.none) c.end_without.ensures.gives

pub returns-in-Err-clause-no_further : goal.returns-in-Err-clause-no_further
returns-in-Err-clause-no_further g c =
    let at = g.F.Outside.seen in
    stops-without (batch_shown c.args.words.now) (at c.args.files.now) (at c.read_entities.new.files)
    (read_to_is ENTITIES_LIMIT Entities _ (string_bytes c.args.words.now.entities) _ _ c.as_str.ensures.value c.read_entities.ensures.no_further) c.read_entities.ensures.within c.read_entities.ensures.others

pub returns-in-Err-clause-begins : goal.returns-in-Err-clause-begins
returns-in-Err-clause-begins g c =
    let at = g.F.Outside.seen in
    begins-without (batch_shown c.args.words.now) (at c.args.files.now) (at c.read_entities.new.files)
    (begun_is _ _ _ (string_bytes c.args.words.now.entities) c.as_str.ensures.value c.read_entities.ensures.begun) c.read_entities.ensures.others

pub returns-in-Ok-clause-answer : goal.returns-in-Ok-clause-answer
returns-in-Ok-clause-answer g c =
    let at = g.F.Outside.seen in
    batch-with (batch_shown c.args.words.now) (at c.args.files.now) (at c.run_listed.new.files) _ _ _ _ c.run_listed.result c.in-Ok.table (at c.read_entities.new.files)
    (table_is _ (string_bytes c.args.words.now.entities) (at c.args.files.now) (at c.read_entities.new.files) c.in-Ok.table c.as_str.ensures.value c.in-Ok.ensures.table)
    c.read_entities.ensures.others c.run_listed.ensures.answer c.run_listed.ensures.reads

pub returns-in-Ok-clause-no_further : goal.returns-in-Ok-clause-no_further
returns-in-Ok-clause-no_further g c =
    let at = g.F.Outside.seen in
    stops-with (batch_shown c.args.words.now) (at c.args.files.now) (at c.run_listed.new.files) (at c.read_entities.new.files) c.read_entities.ensures.others c.run_listed.ensures.reads
    (read_to_is ENTITIES_LIMIT Entities _ (string_bytes c.args.words.now.entities) _ _ c.as_str.ensures.value c.read_entities.ensures.no_further) c.read_entities.ensures.within

pub returns-in-Ok-clause-begins : goal.returns-in-Ok-clause-begins
returns-in-Ok-clause-begins g c =
    let at = g.F.Outside.seen in
    begins-with (batch_shown c.args.words.now) (at c.args.files.now) (at c.run_listed.new.files) (at c.read_entities.new.files) c.read_entities.ensures.others c.run_listed.ensures.reads
    (begun_is _ _ _ (string_bytes c.args.words.now.entities) c.as_str.ensures.value c.read_entities.ensures.begun)

use Rattle.std.proofs.Common.{map}
use Rattle.std.specs.String.{string_bytes}
use Rattle.command_words.specs.Words.{asked, shown, batch_shown, for_page, for_batch}
use Rattle.page_runner.proofs.HelpLemmas.{helpers_stay_of, helpers_asked}
use Rattle.page_runner.proofs.RunLemmas.{runs_usage, runs_no_memory, runs_asked, runs_made, runs_listed, stops_at_once, stops_asked, begins_nothing, begins_asked, makes_none, makes_page, makes_made, makes_listed}
use Rattle.page_runner.proofs.MakingLemmas.{makes-no_memory}
use Rattle.page_runner.proofs.BatchLemmas.{batches-none, batches-page, batches-made, batches-no_memory, batches-listed}
use Rattle.page_runner.proofs.command.run_words.Goals as goal

pub returns-in-Err-Usage-clause-answer : goal.returns-in-Err-Usage-clause-answer
returns-in-Err-Usage-clause-answer g c = runs_usage (asked (map string_bytes c.args.words.now)) _ _ _ _ _ (c.in-Err-Usage.ensures.usage c.in-Err-Usage.field-0-is)

pub returns-in-Err-Usage-clause-no_further : goal.returns-in-Err-Usage-clause-no_further
returns-in-Err-Usage-clause-no_further g c = stops_at_once (asked (map string_bytes c.args.words.now)) _

pub returns-in-Err-Usage-clause-begins : goal.returns-in-Err-Usage-clause-begins
returns-in-Err-Usage-clause-begins g c = begins_nothing (asked (map string_bytes c.args.words.now)) _

pub returns-in-Err-Usage-clause-makes : goal.returns-in-Err-Usage-clause-makes
returns-in-Err-Usage-clause-makes g c = makes_none (asked (map string_bytes c.args.words.now)) _ _ _ _ _ _ _ (c.in-Err-Usage.ensures.usage c.in-Err-Usage.field-0-is)

pub returns-in-Err-NoMemory-clause-answer : goal.returns-in-Err-NoMemory-clause-answer
returns-in-Err-NoMemory-clause-answer g c = runs_no_memory (asked (map string_bytes c.args.words.now)) _ _ _ _ _

pub returns-in-Err-NoMemory-clause-no_further : goal.returns-in-Err-NoMemory-clause-no_further
returns-in-Err-NoMemory-clause-no_further g c = stops_at_once (asked (map string_bytes c.args.words.now)) _

pub returns-in-Err-NoMemory-clause-begins : goal.returns-in-Err-NoMemory-clause-begins
returns-in-Err-NoMemory-clause-begins g c = begins_nothing (asked (map string_bytes c.args.words.now)) _

pub returns-in-Err-NoMemory-clause-makes : goal.returns-in-Err-NoMemory-clause-makes
returns-in-Err-NoMemory-clause-makes g c = makes-no_memory (asked (map string_bytes c.args.words.now)) _ _ _

pub returns-in-Ok-Page-clause-answer : goal.returns-in-Ok-Page-clause-answer
returns-in-Ok-Page-clause-answer g c = runs_asked (asked (map string_bytes c.args.words.now)) (shown c.in-Ok-Page.words) _ _ _ _ _ _ _ _ _ (rw c.in-Ok-Page.field-0-is at c.in-Ok-Page.ensures.ok) c.run_files.ensures.answer

pub returns-in-Ok-Page-clause-no_further : goal.returns-in-Ok-Page-clause-no_further
returns-in-Ok-Page-clause-no_further g c = stops_asked (asked (map string_bytes c.args.words.now)) (for_page (shown c.in-Ok-Page.words)) _ _ (rw c.in-Ok-Page.field-0-is at c.in-Ok-Page.ensures.ok) c.run_files.ensures.no_further

pub returns-in-Ok-Page-clause-begins : goal.returns-in-Ok-Page-clause-begins
returns-in-Ok-Page-clause-begins g c = begins_asked (asked (map string_bytes c.args.words.now)) (for_page (shown c.in-Ok-Page.words)) _ _ (rw c.in-Ok-Page.field-0-is at c.in-Ok-Page.ensures.ok) c.run_files.ensures.begins

pub returns-in-Ok-Page-clause-makes : goal.returns-in-Ok-Page-clause-makes
returns-in-Ok-Page-clause-makes g c = makes_page (asked (map string_bytes c.args.words.now)) (shown c.in-Ok-Page.words) _ _ _ _ _ _ _ (rw c.in-Ok-Page.field-0-is at c.in-Ok-Page.ensures.ok)

pub returns-in-Ok-Make-clause-answer : goal.returns-in-Ok-Make-clause-answer
returns-in-Ok-Make-clause-answer g c = runs_made (asked (map string_bytes c.args.words.now)) c.in-Ok-Make.words _ _ _ _ _ _ _ _ _ (rw c.in-Ok-Make.field-0-is at c.in-Ok-Make.ensures.ok)

pub returns-in-Ok-Make-clause-no_further : goal.returns-in-Ok-Make-clause-no_further
returns-in-Ok-Make-clause-no_further g c = stops_at_once (asked (map string_bytes c.args.words.now)) _

pub returns-in-Ok-Make-clause-begins : goal.returns-in-Ok-Make-clause-begins
returns-in-Ok-Make-clause-begins g c = begins_nothing (asked (map string_bytes c.args.words.now)) _

pub returns-in-Ok-Make-clause-makes : goal.returns-in-Ok-Make-clause-makes
returns-in-Ok-Make-clause-makes g c = makes_made (asked (map string_bytes c.args.words.now)) c.in-Ok-Make.words _ _ _ _ _ _ (rw c.in-Ok-Make.field-0-is at c.in-Ok-Make.ensures.ok) c.run_make.ensures.makes

pub returns-in-Err-Usage-clause-helpers : goal.returns-in-Err-Usage-clause-helpers
returns-in-Err-Usage-clause-helpers g c = helpers_stay_of (asked (map string_bytes c.args.words.now)) _

pub returns-in-Err-NoMemory-clause-helpers : goal.returns-in-Err-NoMemory-clause-helpers
returns-in-Err-NoMemory-clause-helpers g c = helpers_stay_of (asked (map string_bytes c.args.words.now)) _

pub returns-in-Ok-Make-clause-helpers : goal.returns-in-Ok-Make-clause-helpers
returns-in-Ok-Make-clause-helpers g c = helpers_stay_of (asked (map string_bytes c.args.words.now)) _

pub returns-in-Ok-Page-clause-helpers : goal.returns-in-Ok-Page-clause-helpers
returns-in-Ok-Page-clause-helpers g c = helpers_asked (asked (map string_bytes c.args.words.now)) (shown c.in-Ok-Page.words) _ _ (rw c.in-Ok-Page.field-0-is at c.in-Ok-Page.ensures.ok) c.run_files.ensures.helpers

pub returns-in-Ok-Batch-clause-helpers : goal.returns-in-Ok-Batch-clause-helpers
returns-in-Ok-Batch-clause-helpers g c = helpers_stay_of (asked (map string_bytes c.args.words.now)) _

-- ---- a list

pub returns-in-Err-Usage-clause-batches : goal.returns-in-Err-Usage-clause-batches
returns-in-Err-Usage-clause-batches g c = batches-none (asked (map string_bytes c.args.words.now)) _ _ _ _ _ _ _ (c.in-Err-Usage.ensures.usage c.in-Err-Usage.field-0-is)

pub returns-in-Err-NoMemory-clause-batches : goal.returns-in-Err-NoMemory-clause-batches
returns-in-Err-NoMemory-clause-batches g c = batches-no_memory (asked (map string_bytes c.args.words.now)) _ _ _

pub returns-in-Ok-Page-clause-batches : goal.returns-in-Ok-Page-clause-batches
returns-in-Ok-Page-clause-batches g c = batches-page (asked (map string_bytes c.args.words.now)) (shown c.in-Ok-Page.words) _ _ _ _ _ _ _ (rw c.in-Ok-Page.field-0-is at c.in-Ok-Page.ensures.ok)

pub returns-in-Ok-Make-clause-batches : goal.returns-in-Ok-Make-clause-batches
returns-in-Ok-Make-clause-batches g c = batches-made (asked (map string_bytes c.args.words.now)) c.in-Ok-Make.words _ _ _ _ _ _ _ (rw c.in-Ok-Make.field-0-is at c.in-Ok-Make.ensures.ok)

pub returns-in-Ok-Batch-clause-answer : goal.returns-in-Ok-Batch-clause-answer
returns-in-Ok-Batch-clause-answer g c = runs_listed (asked (map string_bytes c.args.words.now)) (batch_shown c.in-Ok-Batch.words) _ _ _ _ _ _ _ _ _ (rw c.in-Ok-Batch.field-0-is at c.in-Ok-Batch.ensures.ok)

pub returns-in-Ok-Batch-clause-no_further : goal.returns-in-Ok-Batch-clause-no_further
returns-in-Ok-Batch-clause-no_further g c = stops_asked (asked (map string_bytes c.args.words.now)) (for_batch (batch_shown c.in-Ok-Batch.words)) _ _ (rw c.in-Ok-Batch.field-0-is at c.in-Ok-Batch.ensures.ok) c.run_batch.ensures.no_further

pub returns-in-Ok-Batch-clause-begins : goal.returns-in-Ok-Batch-clause-begins
returns-in-Ok-Batch-clause-begins g c = begins_asked (asked (map string_bytes c.args.words.now)) (for_batch (batch_shown c.in-Ok-Batch.words)) _ _ (rw c.in-Ok-Batch.field-0-is at c.in-Ok-Batch.ensures.ok) c.run_batch.ensures.begins

pub returns-in-Ok-Batch-clause-makes : goal.returns-in-Ok-Batch-clause-makes
returns-in-Ok-Batch-clause-makes g c = makes_listed (asked (map string_bytes c.args.words.now)) (batch_shown c.in-Ok-Batch.words) _ _ _ _ _ _ _ (rw c.in-Ok-Batch.field-0-is at c.in-Ok-Batch.ensures.ok)

pub returns-in-Ok-Batch-clause-batches : goal.returns-in-Ok-Batch-clause-batches
returns-in-Ok-Batch-clause-batches g c = batches-listed (asked (map string_bytes c.args.words.now)) (batch_shown c.in-Ok-Batch.words) _ _ _ _ _ _ _ (rw c.in-Ok-Batch.field-0-is at c.in-Ok-Batch.ensures.ok) c.run_batch.ensures.answer

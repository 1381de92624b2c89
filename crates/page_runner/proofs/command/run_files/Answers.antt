use Rattle.std.specs.String.{string_bytes}
use Rattle.outside.specs.declared.traits.Port.TheVariants.{Entities}
use Rattle.page_runner.specs.declared.command.TheConstants.{ENTITIES_LIMIT}
use Rattle.command_words.specs.Words.{shown}
use Rattle.page_runner.proofs.HelpLemmas.{helpers_stay}
use Rattle.page_runner.proofs.RunLemmas.{answers_without, answers_on, none_is, table_is, read_to_is, stops_early, stops_may, begins_early, begins_may, may_others}
use Rattle.page_runner.proofs.command.run_files.Goals as goal

pub returns-in-Err-clause-answer : goal.returns-in-Err-clause-answer
returns-in-Err-clause-answer g c =
    let at = g.F.Outside.seen in
    answers_without (shown c.args.words) _ _ (at c.args.files.now) (at c.read_entities.new.files) c.read_entities.ensures.others _ _ _ _ c.end_without.result c.in-Err.unread
    (none_is _ (string_bytes c.args.words.entities) (at c.args.files.now) (at c.read_entities.new.files) c.in-Err.unread c.as_str.ensures.value c.in-Err.ensures.none) c.end_without.ensures.gives

pub returns-in-Err-clause-no_further : goal.returns-in-Err-clause-no_further
returns-in-Err-clause-no_further g c =
    let at = g.F.Outside.seen in
    stops_early (shown c.args.words) (at c.args.files.now) (at c.read_entities.new.files)
    (read_to_is ENTITIES_LIMIT Entities _ (string_bytes c.args.words.entities) _ _ c.as_str.ensures.value c.read_entities.ensures.no_further) c.read_entities.ensures.within c.read_entities.ensures.others

pub returns-in-Err-clause-begins : goal.returns-in-Err-clause-begins
returns-in-Err-clause-begins g c =
    let at = g.F.Outside.seen in
    begins_early (shown c.args.words) _ (at c.args.files.now) (at c.read_entities.new.files) c.as_str.ensures.value c.read_entities.ensures.begun c.read_entities.ensures.others

pub returns-in-Ok-clause-answer : goal.returns-in-Ok-clause-answer
returns-in-Ok-clause-answer g c =
    let at = g.F.Outside.seen in
    answers_on (shown c.args.words) _ _ (at c.args.files.now) (at c.read_entities.new.files) (at c.run_page.new.files) _ _ _ _ _ c.in-Ok.table
    (table_is _ (string_bytes c.args.words.entities) (at c.args.files.now) (at c.read_entities.new.files) c.in-Ok.table c.as_str.ensures.value c.in-Ok.ensures.table)
    c.read_entities.ensures.others c.run_page.ensures.runs.answer (may_others (string_bytes c.args.words.page) (string_bytes c.args.words.dir) (at c.read_entities.new.files) (at c.run_page.new.files) c.run_page.ensures.runs.reads)

pub returns-in-Ok-clause-no_further : goal.returns-in-Ok-clause-no_further
returns-in-Ok-clause-no_further g c =
    let at = g.F.Outside.seen in
    stops_may (shown c.args.words) (at c.args.files.now) (at c.read_entities.new.files) (at c.run_page.new.files)
    (read_to_is ENTITIES_LIMIT Entities _ (string_bytes c.args.words.entities) _ _ c.as_str.ensures.value c.read_entities.ensures.no_further) c.read_entities.ensures.within c.read_entities.ensures.others c.run_page.ensures.runs.reads

pub returns-in-Ok-clause-begins : goal.returns-in-Ok-clause-begins
returns-in-Ok-clause-begins g c =
    let at = g.F.Outside.seen in
    begins_may (shown c.args.words) _ (at c.args.files.now) (at c.read_entities.new.files) (at c.run_page.new.files) c.as_str.ensures.value c.read_entities.ensures.begun c.read_entities.ensures.others c.run_page.ensures.runs.reads

pub returns-in-Err-clause-helpers : goal.returns-in-Err-clause-helpers
returns-in-Err-clause-helpers g c = helpers_stay c.args.words.preload _

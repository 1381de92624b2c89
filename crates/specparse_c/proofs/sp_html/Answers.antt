use Rattle.std.proofs.Common.{encode_utf8_all}
use Rattle.specparse_c.specs.declared.failure.Failure.TheVariants as failure
use Rattle.specparse_c.specs.Calls.{FailsAtPage}
use Rattle.specparse_c.proofs.Laying.{failed-made, none-needed-made, keeps-made}
use Rattle.specparse_c.proofs.Calls.{text-done, text-lacks, text-statuses}
use Rattle.specparse_c.proofs.sp_html.Goals as goal

pub returns-clause-done : goal.returns-clause-done
returns-clause-done c = text-done c.args.entities.now c.args.page.now _ _ _ _ _ c.html-written.ensures.text c.give_text.ensures

pub returns-clause-no_room : goal.returns-clause-no_room
returns-clause-no_room c = text-lacks c.args.entities.now c.args.page.now _ _ _ _ _ c.html-written.ensures.text c.give_text.ensures

pub returns-clause-no_entities : goal.returns-clause-no_entities
returns-clause-no_entities c = failed-made encode_utf8_all (FailsAtPage c.args.entities.now c.args.page.now) failure.Entities _ _ _ _ _ c.html-written.ensures.failure c.give_text.ensures

pub returns-clause-bad_utf8 : goal.returns-clause-bad_utf8
returns-clause-bad_utf8 c = failed-made encode_utf8_all (FailsAtPage c.args.entities.now c.args.page.now) failure.BadUtf8 _ _ _ _ _ c.html-written.ensures.failure c.give_text.ensures

pub returns-clause-limit : goal.returns-clause-limit
returns-clause-limit c = failed-made encode_utf8_all (FailsAtPage c.args.entities.now c.args.page.now) failure.Limit _ _ _ _ _ c.html-written.ensures.failure c.give_text.ensures

pub returns-clause-statuses : goal.returns-clause-statuses
returns-clause-statuses c = text-statuses c.args.entities.now c.args.page.now _ _ _ _ _ c.html-written.ensures.failure c.give_text.ensures

pub returns-clause-no_text : goal.returns-clause-no_text
returns-clause-no_text c = none-needed-made encode_utf8_all _ _ _ _ _ c.give_text.ensures

pub returns-clause-kept : goal.returns-clause-kept
returns-clause-kept c = keeps-made encode_utf8_all _ _ _ _ _ c.give_text.ensures

use Rattle.specparse_c.specs.declared.failure.Failure.TheVariants as failure
use Rattle.specparse_c.specs.Calls.{FailsAtPage}
use Rattle.specparse_c.proofs.Laying.{failed, none-needed, keeps}
use Rattle.specparse_c.proofs.Calls.{page-done, page-lacks, page-statuses}
use Rattle.specparse_c.proofs.sp_parse.Goals as goal

pub returns-clause-done : goal.returns-clause-done
returns-clause-done c = page-done c.args.entities.now c.args.page.now _ _ _ _ _ _ _ _ _ c.page-tree.ensures.page c.give.ensures

pub returns-clause-no_room : goal.returns-clause-no_room
returns-clause-no_room c = page-lacks c.args.entities.now c.args.page.now _ _ _ _ _ _ _ _ _ c.page-tree.ensures.page c.give.ensures

pub returns-clause-no_entities : goal.returns-clause-no_entities
returns-clause-no_entities c = failed (FailsAtPage c.args.entities.now c.args.page.now) failure.Entities _ _ _ _ _ _ _ _ _ c.page-tree.ensures.failure c.give.ensures

pub returns-clause-bad_utf8 : goal.returns-clause-bad_utf8
returns-clause-bad_utf8 c = failed (FailsAtPage c.args.entities.now c.args.page.now) failure.BadUtf8 _ _ _ _ _ _ _ _ _ c.page-tree.ensures.failure c.give.ensures

pub returns-clause-limit : goal.returns-clause-limit
returns-clause-limit c = failed (FailsAtPage c.args.entities.now c.args.page.now) failure.Limit _ _ _ _ _ _ _ _ _ c.page-tree.ensures.failure c.give.ensures

pub returns-clause-statuses : goal.returns-clause-statuses
returns-clause-statuses c = page-statuses c.args.entities.now c.args.page.now _ _ _ _ _ _ _ _ _ c.page-tree.ensures.failure c.give.ensures

pub returns-clause-no_tree : goal.returns-clause-no_tree
returns-clause-no_tree c = none-needed _ _ _ _ _ _ _ _ _ c.give.ensures

pub returns-clause-kept : goal.returns-clause-kept
returns-clause-kept c = keeps _ _ _ _ _ _ _ _ _ c.give.ensures

use Rattle.specparse_c.specs.declared.failure.Failure.TheVariants as failure
use Rattle.specparse_c.specs.Calls.{FailsAtFragment}
use Rattle.specparse_c.proofs.Laying.{failed, none-needed, keeps}
use Rattle.specparse_c.proofs.Calls.{fragment-done, fragment-lacks, fragment-statuses}
use Rattle.specparse_c.proofs.sp_fragment.Goals as goal

pub returns-clause-done : goal.returns-clause-done
returns-clause-done c =
    fragment-done c.args.entities.now c.args.name.now c.args.space c.args.flags c.args.source.now _ _ _ _ _ _ _ _ _ c.fragment-tree.ensures.fragment c.give.ensures

pub returns-clause-no_room : goal.returns-clause-no_room
returns-clause-no_room c =
    fragment-lacks c.args.entities.now c.args.name.now c.args.space c.args.flags c.args.source.now _ _ _ _ _ _ _ _ _ c.fragment-tree.ensures.fragment c.give.ensures

pub returns-clause-no_context : goal.returns-clause-no_context
returns-clause-no_context c =
    failed (FailsAtFragment c.args.entities.now c.args.name.now c.args.space c.args.flags c.args.source.now) failure.Context _ _ _ _ _ _ _ _ _ c.fragment-tree.ensures.failure c.give.ensures

pub returns-clause-no_entities : goal.returns-clause-no_entities
returns-clause-no_entities c =
    failed (FailsAtFragment c.args.entities.now c.args.name.now c.args.space c.args.flags c.args.source.now) failure.Entities _ _ _ _ _ _ _ _ _ c.fragment-tree.ensures.failure c.give.ensures

pub returns-clause-bad_utf8 : goal.returns-clause-bad_utf8
returns-clause-bad_utf8 c =
    failed (FailsAtFragment c.args.entities.now c.args.name.now c.args.space c.args.flags c.args.source.now) failure.BadUtf8 _ _ _ _ _ _ _ _ _ c.fragment-tree.ensures.failure c.give.ensures

pub returns-clause-limit : goal.returns-clause-limit
returns-clause-limit c =
    failed (FailsAtFragment c.args.entities.now c.args.name.now c.args.space c.args.flags c.args.source.now) failure.Limit _ _ _ _ _ _ _ _ _ c.fragment-tree.ensures.failure c.give.ensures

pub returns-clause-statuses : goal.returns-clause-statuses
returns-clause-statuses c =
    fragment-statuses (FailsAtFragment c.args.entities.now c.args.name.now c.args.space c.args.flags c.args.source.now) _ _ _ _ _ _ _ _ _ c.fragment-tree.ensures.failure c.give.ensures

pub returns-clause-no_tree : goal.returns-clause-no_tree
returns-clause-no_tree c = none-needed _ _ _ _ _ _ _ _ _ c.give.ensures

pub returns-clause-kept : goal.returns-clause-kept
returns-clause-kept c = keeps _ _ _ _ _ _ _ _ _ c.give.ensures

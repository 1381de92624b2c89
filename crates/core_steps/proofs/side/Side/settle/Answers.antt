use Rattle.write_parser.specs.declared.left.Left.TheVariants as left
use Rattle.std.proofs.Common.{ap}
use Rattle.write_parser.specs.Made.{at_view, Made}
use Rattle.core_steps.specs.declared.side.Side.{Side}
use Rattle.core_steps.proofs.Logged.{side-leaves, judged-leaves, reaches}
use Rattle.core_steps.proofs.Scripts.{settled, holding-empty}
use Rattle.core_steps.proofs.side.Side.settle.Goals as goal

pub judge-requires : goal.judge-requires
judge-requires c =
    holding-empty c.args.held c.args.self.now c.feed_left.new.self c.in_ok-feed_left.field-0 c.requires c.in_ok-feed_left.ensures.feeds c.in-Empty.is

pub returns-in_ok-judge-in-Empty-clause-settled : goal.returns-in_ok-judge-in-Empty-clause-settled
returns-in_ok-judge-in-Empty-clause-settled c =
    settled c.args.held c.args.self.now c.feed_left.new.self c.in_ok-feed_left.field-0 c.requires c.in_ok-feed_left.ensures.feeds left.Empty c.judge.new.self c.in-Empty.is
    c.in_ok-feed_left.ensures.kept c.in_ok-feed_left.ensures.no_more c.in_ok-judge-in-Empty.ensures.judged

pub returns-in-Awaits-clause-settled : goal.returns-in-Awaits-clause-settled
returns-in-Awaits-clause-settled c =
    settled c.args.held c.args.self.now c.feed_left.new.self c.in_ok-feed_left.field-0 c.requires c.in_ok-feed_left.ensures.feeds (left.Awaits c.in-Awaits.name) _ c.in-Awaits.is
    c.in_ok-feed_left.ensures.kept c.in_ok-feed_left.ensures.no_more c.set_stage.ensures

pub returns-in_ok-judge-in-Empty-clause-logged : goal.returns-in_ok-judge-in-Empty-clause-logged
returns-in_ok-judge-in-Empty-clause-logged c =
    reaches (Made c.args.self.now.table (at_view c.args.self.now.writer)) c.feed_left.new.self c.judge.new.self.writer c.args.log.now c.feed_left.new.log
    (judged-leaves c.args.held (record c.args.self.now { writer = c.feed_left.new.self }) c.judge.new.self c.in_ok-judge-in-Empty.ensures.judged) c.in_ok-feed_left.ensures.logged

pub returns-in-Awaits-clause-logged : goal.returns-in-Awaits-clause-logged
returns-in-Awaits-clause-logged c =
    reaches (Made c.args.self.now.table (at_view c.args.self.now.writer)) c.feed_left.new.self c.set_stage.new.self.writer c.args.log.now c.feed_left.new.log
    (side-leaves (record c.args.self.now { writer = c.feed_left.new.self }) c.set_stage.new.self (ap (λ (s : Side). s.writer) c.set_stage.ensures)) c.in_ok-feed_left.ensures.logged

pub returns-in-Refused-clause-logged : goal.returns-in-Refused-clause-logged
returns-in-Refused-clause-logged c =
    reaches (Made c.args.self.now.table (at_view c.args.self.now.writer)) c.feed_left.new.self c.end_parse.new.self.writer c.args.log.now c.feed_left.new.log
    (side-leaves (record c.args.self.now { writer = c.feed_left.new.self }) c.end_parse.new.self (ap (λ (s : Side). s.writer) c.end_parse.ensures)) c.in_ok-feed_left.ensures.logged

use Rattle.std.proofs.Common.{subst}
use Rattle.std.proofs.Common.{false}
use Rattle.write_parser.specs.Steps.{view_of}
use Rattle.write_parser.specs.Made.{at_view, Made, LogsBy}
use Rattle.write_parser.specs.Writing.{View}
use Rattle.write_parser.proofs.writer.Writer.feed_left.Goals as goal

pub returns-clause-logged : goal.returns-clause-logged
returns-clause-logged c = subst (λ (v : View). LogsBy (λ more. Made c.args.table.now (at_view v) more (at_view (view_of c.feed.new.self false))) c.args.log.now c.feed.new.log) c.self.view_is c.in_ok-feed.ensures.logged

use Rattle.std.proofs.Common.{subst}
use Rattle.std.proofs.Common.{◌≡◌}
use Rattle.doc_changes.specs.Logs.{with_more}
use Rattle.write_parser.specs.Made.{of_ending}
use Rattle.write_parser.specs.Writing.{View}
use Rattle.write_parser.proofs.writer.Writer.finish.Goals as goal

pub returns-clause-logged : goal.returns-clause-logged
returns-clause-logged c = subst (λ (v : View). c.finish.new.log ≡ with_more (of_ending c.args.table.now c.args.ending v.parser) c.args.log.now) c.self.view_is c.in_ok-end.ensures.logged

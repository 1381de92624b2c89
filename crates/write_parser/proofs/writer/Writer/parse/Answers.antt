use Rattle.std.proofs.Common.{subst}
use Rattle.std.proofs.Common.{◌≡◌}
use Rattle.std.specs.Str.{chars}
use Rattle.doc_changes.specs.Logs.{with_more}
use Rattle.write_parser.specs.Made.{of_text}
use Rattle.write_parser.specs.Writing.{View}
use Rattle.write_parser.proofs.writer.Writer.parse.Goals as goal

pub returns-clause-logged : goal.returns-clause-logged
returns-clause-logged c = subst (λ (v : View). c.parse.new.log ≡ with_more (of_text c.args.table.now v.parser (chars c.args.text.now)) c.args.log.now) c.self.view_is c.in_ok-ran.ensures.logged

use Rattle.std.proofs.Common.{false, subst, ap, ◌∙◌}
use Rattle.write_parser.specs.Made.{at_view, MadeAtTag, LogsBy}
use Rattle.write_parser.specs.Writing.{View, AtTag, LeadsTo}
use Rattle.write_parser.specs.Steps.{view_of}
use Rattle.write_parser.proofs.LevelLemmas.{tag-leads-to}
use Rattle.write_parser.proofs.writer.Writer.end_tag.Goals as goal

pub returns-clause-leads : goal.returns-clause-leads
returns-clause-leads c =
    subst (λ v. LeadsTo c.args.table.now (AtTag c.args.id v) (view_of c.end_tag.new.self false)) c.self.view_is
    (tag-leads-to c.args.table.now c.args.id c.self.inside.live c.end_tag.new.self (ap (λ (v : View). v.pending) c.self.view_is ∙ c.requires.none_awaited) c.in_ok-end_tag.ensures.does)

pub returns-clause-logged : goal.returns-clause-logged
returns-clause-logged c = subst (λ (v : View). LogsBy (λ more. MadeAtTag c.args.table.now c.args.id (at_view v) more (at_view (view_of c.end_tag.new.self false))) c.args.log.now c.end_tag.new.log) c.self.view_is c.in_ok-end_tag.ensures.logged

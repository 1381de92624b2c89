use Rattle.write_parser.specs.Made.{at_view}
use Rattle.core_steps.proofs.Logged.{behind-tag}
use Rattle.core_steps.proofs.Scripts.{tagged-holding}
use Rattle.core_steps.proofs.side.Side.run_tagged.Goals as goal

pub settle-requires : goal.settle-requires
settle-requires c = tagged-holding c.args.id c.args.held c.args.self.now c.end_tag.new.self c.requires c.in_ok-end_tag.ensures.leads

pub returns-clause-logged : goal.returns-clause-logged
returns-clause-logged c =
    behind-tag c.settle.result c.args.self.now.table (at_view c.end_tag.new.self) c.settle.new.self.writer c.args.log.now c.end_tag.new.log c.settle.new.log c.args.id
    (at_view c.args.self.now.writer) c.in_ok-end_tag.ensures.logged c.settle.ensures.logged

use Rattle.std.proofs.Common.{sym, subst}
use Rattle.standard.specs.Act.{is_bound}
use Rattle.standard.specs.Parser.{Parser}
use Rattle.moment_laws.specs.Served.{AreBelow}
use Rattle.moment_laws.proofs.Served.{renewed-serves}
use Rattle.write_parser.specs.Parsing.{IsServed}
use Rattle.write_parser.specs.Writing.{View}
use Rattle.write_parser.proofs.writer.Writer.renew.Goals as goal

pub invariant_of-self : goal.invariant_of-self
invariant_of-self c = λ kept.
    subst (λ (p : Parser). IsServed p c.self.inside.live.doc) (sym c.renew.ensures)
    (renewed-serves c.args.realm c.self.inside.live.machine c.self.inside.live.doc
    (subst (λ (v : View). AreBelow c.args.realm (is_bound v.doc.bound)) (sym c.self.view_is) c.requires.below) (c.self.invariant kept))

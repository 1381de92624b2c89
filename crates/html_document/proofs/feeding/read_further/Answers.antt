use Rattle.std.specs.Str.{chars}
use Rattle.standard.specs.Through.{read_through}
use Rattle.html_document.proofs.Pieces.{furthers-deep, furthers-on, came-served}
use Rattle.html_document.proofs.feeding.read_further.Goals as goal

pub returns-then-not-went_on-clause-further : goal.returns-then-not-went_on-clause-further
returns-then-not-went_on-clause-further c = furthers-deep c.args.table.now c.args.machine.now c.args.doc.now (chars c.args.text.now) c.args.went_on c.if-not-went_on.true

pub read_on-requires : goal.read_on-requires
read_on-requires c = c.requires c.if-not-went_on.false

pub returns-clause-further : goal.returns-clause-further
returns-clause-further c =
    furthers-on c.args.table.now c.args.machine.now c.read_on.new.machine c.args.doc.now c.read_on.new.doc (chars c.args.text.now) c.args.went_on c.in_ok-goes_on.goes_on c.if-not-went_on.false
    c.in_ok-goes_on.ensures

pub returns-clause-served : goal.returns-clause-served
returns-clause-served c =
    came-served (read_through c.args.table.now c.args.machine.now (chars c.args.text.now)) c.args.doc.now c.read_on.new.machine c.read_on.new.doc c.in_ok-goes_on.goes_on c.in_ok-goes_on.ensures

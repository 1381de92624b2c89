use Rattle.std.specs.Str.{chars}
use Rattle.html_document.proofs.Pieces.{read-bound, came-through, came-deep}
use Rattle.html_document.proofs.feeding.read_on.Goals as goal

pub returns-then-not-goes_on : goal.returns-then-not-goes_on
returns-then-not-goes_on c =
    came-deep c.args.table.now c.args.machine.now c.read_through.new.self (chars c.args.text.now) c.new-ops.result c.read_through.new.ops c.in_ok-goes_on.goes_on c.new-ops.ensures
    c.in_ok-goes_on.ensures c.if-not-goes_on.true

pub apply_all-requires : goal.apply_all-requires
apply_all-requires c =
    read-bound c.args.table.now c.args.machine.now c.read_through.new.self c.args.doc.now (chars c.args.text.now) c.new-ops.result c.read_through.new.ops c.in_ok-goes_on.goes_on c.requires
    c.new-ops.ensures c.in_ok-goes_on.ensures c.if-not-goes_on.false

pub returns : goal.returns
returns c =
    came-through c.args.table.now c.args.machine.now c.read_through.new.self c.args.doc.now c.apply_all.new.self (chars c.args.text.now) c.new-ops.result c.read_through.new.ops
    c.in_ok-goes_on.goes_on c.requires c.new-ops.ensures c.in_ok-goes_on.ensures c.if-not-goes_on.false c.in_ok-apply_all.ensures.ok

use Rattle.std.specs.Str.{chars}
use Rattle.op_exec.proofs.Finds.{element-found}
use Rattle.op_exec.proofs.doc.Doc.find_id.Goals as goal

pub returns-clause-element : goal.returns-clause-element
returns-clause-element c =
    element-found c.args.self.now c.self.inside.tree c.self.inside.bound (chars c.args.id.now) c.find_id.result c.self.view_is c.find_id.ensures.found

use Rattle.std.proofs.Common.{refl}
use Rattle.html_types.specs.declared.tree.Kind.TheVariants as kind
use Rattle.standard.specs.Act.{Spot, new_at}
use Rattle.act_laws.proofs.Elements.{Alike-new_at}
use Rattle.op_exec.proofs.Docs.{IsDoc-done}
use Rattle.op_exec.proofs.doc.Doc.own_doctype.Goals as goal

pub invariant_of-self : goal.invariant_of-self
invariant_of-self c =
    let spot : Spot = record { parent = c.end_of-spot.result.parent; before = c.end_of-spot.result.before } in
    IsDoc-done c.add.result c.self.inside.tree c.add.new.self (new_at c.self.inside.tree (kind.Doctype c.args.name) spot) c.self.inside.bound c.self.invariant
    c.add.ensures.keeps c.add.ensures.ok c.add.ensures.err (Alike-new_at c.self.inside.tree (kind.Doctype c.args.name) spot refl)

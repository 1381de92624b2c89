use Rattle.std.proofs.Common.{ℕ, ap, sym, subst, ◌∙◌}
use Rattle.standard.specs.Tree.{Nodes, is_element_at, children_moved}
use Rattle.standard.specs.Act.{Doc}
use Rattle.act_laws.specs.Staying.{Stays}
use Rattle.act_laws.proofs.Elements.{Alike-children_moved}
use Rattle.act_laws.proofs.Staying.{chain, Stays-children_moved}
use Rattle.op_exec.proofs.Docs.{IsDoc-kept, IsDoc-done}
use Rattle.op_exec.proofs.Filling.{Alike-emptied, Stays-emptied, Stays-done}
use Rattle.op_exec.proofs.doc.Doc.exchange.Goals as goal

pub invariant_of-self : goal.invariant_of-self
invariant_of-self c =
    let t : Nodes = c.self.inside.tree in
    let mid : Nodes = c.take_children.new.self in
    let p : ℕ = c.end_of-to.result.parent in
    IsDoc-done c.move_children.result mid c.move_children.new.self (children_moved mid c.node-from.result p) c.self.inside.bound
    (IsDoc-kept t mid c.self.inside.bound c.self.invariant c.take_children.ensures.keeps (λ n. ap (λ (u : Nodes). is_element_at u n) c.take_children.ensures.taken ∙ Alike-emptied t p n))
    c.move_children.ensures.keeps c.move_children.ensures.ok c.move_children.ensures.err (Alike-children_moved mid c.node-from.result p)

pub returns-clause-stays : goal.returns-clause-stays
returns-clause-stays c =
    let t : Nodes = c.self.inside.tree in
    let mid : Nodes = c.take_children.new.self in
    let p : ℕ = c.end_of-to.result.parent in
    let last : Nodes = c.move_children.new.self in
    subst (λ (d : Doc). Stays d.tree last) c.self.view_is
    (chain t mid last (subst (Stays t) (sym c.take_children.ensures.taken) (Stays-emptied t p))
    (Stays-done c.move_children.result mid last (children_moved mid c.node-from.result p) c.move_children.ensures.ok c.move_children.ensures.err (Stays-children_moved mid c.node-from.result p)))

use Rattle.std.proofs.Common.{◌≡◌, ◌∙◌, OnOk, sym, ap, subst}
use Rattle.standard.specs.Tree.{Nodes}
use Rattle.standard.specs.Act.{Doc}
use Rattle.standard.specs.Fragment.{filled}
use Rattle.act_laws.specs.Staying.{Stays}
use Rattle.op_exec.specs.Docs.{IsDoc}
use Rattle.op_exec.proofs.Filling.{IsDoc-none, IsDoc-again, filled-again}
use Rattle.op_exec.proofs.doc.Doc.fill.Goals as goal

pub invariant_of-self : goal.invariant_of-self
invariant_of-self c =
    IsDoc-none c.self.inside.tree c.self.inside.bound c.replace-bound.new.dest (c.replace-bound.ensures.after ∙ c.new.ensures) c.self.invariant

pub invariant_of-self-2 : goal.invariant_of-self-2
invariant_of-self-2 c =
    let t : Nodes = c.self.inside.tree in
    let s : Nodes = c.self-2.inside.tree in
    let now : s ≡ c.fill_with-filled.new.self.tree = ap (λ (d : Doc). d.tree) c.self-2.view_is in
    subst (IsDoc s) (sym c.replace-bound.ensures.value)
    (IsDoc-again t s c.self.inside.bound c.self-2.inside.bound c.self.invariant c.self-2.invariant (subst (Stays t) (sym now) c.fill_with-filled.ensures.stays))

pub returns-clause-ok : goal.returns-clause-ok
returns-clause-ok c =
    let old : Doc = c.args.self.now in
    let mid : Doc = c.fill_with-filled.new.self in
    let r = c.fill_with-filled.result in
    let made : Nodes = filled old.tree c.args.target c.args.form c.args.ops.now in
    let is : filled c.self.inside.tree c.args.target c.args.form c.args.ops.now ≡ made = ap (λ (d : Doc). filled d.tree c.args.target c.args.form c.args.ops.now) c.self.view_is in
    filled-again r old mid c.self-2.inside.tree made c.replace-bound.result (c.replace-bound.ensures.value ∙ ap (λ (d : Doc). d.bound) c.self.view_is) (ap (λ (d : Doc). d.tree) c.self-2.view_is)
    (subst (λ (u : Nodes). OnOk r (mid.tree ≡ u)) is c.fill_with-filled.ensures.ok)

pub returns-clause-bound : goal.returns-clause-bound
returns-clause-bound c = c.replace-bound.ensures.value ∙ ap (λ (d : Doc). d.bound) c.self.view_is

pub returns-clause-stays : goal.returns-clause-stays
returns-clause-stays c =
    let t : Nodes = c.self.inside.tree in
    let s : Nodes = c.self-2.inside.tree in
    let now : s ≡ c.fill_with-filled.new.self.tree = ap (λ (d : Doc). d.tree) c.self-2.view_is in
    subst (λ (d : Doc). Stays d.tree s) c.self.view_is (subst (Stays t) (sym now) c.fill_with-filled.ensures.stays)

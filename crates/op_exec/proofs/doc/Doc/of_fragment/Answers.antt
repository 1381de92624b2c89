use Rattle.std.proofs.Common.{◌∙◌, [], sym, ap, subst}
use Rattle.standard.specs.Act.{Doc, is_bound, AreOpsBound}
use Rattle.standard.specs.Fragment.{with_fragment}
use Rattle.op_exec.proofs.doc.Doc.of_fragment.Goals as goal

pub make_fragment-requires-clause-none : goal.make_fragment-requires-clause-none
make_fragment-requires-clause-none c = ap (λ (d : Doc). d.bound) c.in_ok-doc.ensures

pub make_fragment-requires-clause-bound : goal.make_fragment-requires-clause-bound
make_fragment-requires-clause-bound c =
    subst (λ (d : Doc). AreOpsBound (is_bound (with_fragment d.tree c.args.form []).bound) c.args.ops) (sym c.in_ok-doc.ensures) c.requires

pub returns-clause-made : goal.returns-clause-made
returns-clause-made c = c.in_ok-make_fragment.ensures.ok ∙ ap (λ (d : Doc). with_fragment d.tree c.args.form c.args.ops) c.in_ok-doc.ensures

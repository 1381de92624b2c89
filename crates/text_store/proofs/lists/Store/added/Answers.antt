use Rattle.std.proofs.Common.{ap}
use Rattle.html_types.specs.declared.operation.Op.TheVariants as op
use Rattle.html_types.specs.declared.tree.Kind.{Kind}
use Rattle.standard.specs.Tree.{attributes_of}
use Rattle.text_store.specs.Kinds.{kind_at}
use Rattle.text_store.proofs.RecordLemmas.{not_element}
use Rattle.text_store.proofs.lists.Store.added.Goals as goal

pub returns-in-Element : goal.returns-in-Element
returns-in-Element c = ap (λ (x : Kind). op.AddAttributes c.args.node (attributes_of x)) c.in-Element.ensures

pub returns-in_default : goal.returns-in_default
returns-in_default c = absurd (not_element c.kind.result (kind_at c.args.self.now c.args.kept) c.kind.ensures c.requires.1 c.in_default.not-Element)

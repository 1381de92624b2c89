use Rattle.std.proofs.Common.{◌≡◌, subst}
use Rattle.std.specs.Prelude.{IfOk}
use Rattle.html_types.specs.declared.tree.Kind.{Kind}
use Rattle.html_types.specs.declared.tree.Kind.TheVariants as kind
use Rattle.standard.specs.Tree.{with_lacking}
use Rattle.text_store.specs.Kinds.{kind_at, MeansKind}
use Rattle.text_store.proofs.KindLemmas.{lacking_by}
use Rattle.text_store.proofs.lists.Store.set_apart.Goals as goal

pub returns-clause-ok : goal.returns-clause-ok
returns-clause-ok c =
    let k = kind_at c.args.self.now c.args.kept in
    let same : kind.Element c.in_ok-name.name c.add_missing.new.self ≡ with_lacking k c.args.more.now =
    lacking_by k c.in_ok-name.name c.in_ok-list.list c.add_missing.new.self c.args.more.now c.requires.element c.in_ok-name.ensures c.in_ok-list.ensures c.in_ok-add_missing.ensures.ok in
    subst (λ (x : Kind). IfOk c.push_apart.result (λ r. MeansKind c.push_apart.new.self r x)) same c.push_apart.ensures.ok

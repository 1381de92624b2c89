use Rattle.std.proofs.Common.{take, refl, ap, ◌∙◌}
use Rattle.text_store.specs.declared.lists.ElementApart.{ElementApart}
use Rattle.text_store.proofs.lists.Store.apart.Goals as goal

pub listed_apart-list-requires : goal.listed_apart-list-requires
listed_apart-list-requires c = rw c.element-apart.ensures c.requires.1

pub returns : goal.returns
returns c =
    let name = c.seen_of-name.ensures ∙ ap (λ (x : ElementApart). x.name) c.element-apart.ensures in
    let list = c.listed_apart-list.ensures ∙ ap (λ (x : ElementApart). take c.args.run.size x.list) c.element-apart.ensures in
    rw (name, list) refl

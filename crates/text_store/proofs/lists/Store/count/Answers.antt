use Rattle.std.proofs.Common.{length, ap, ◌∙◌}
use Rattle.text_store.specs.declared.lists.ElementApart.{ElementApart}
use Rattle.text_store.proofs.lists.Store.count.Goals as goal

pub returns : goal.returns
returns c = ap length c.as_slice.ensures ∙ ap (λ (x : ElementApart). length x.list) c.element.ensures

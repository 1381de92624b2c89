use Rattle.std.proofs.Common.{sym, ◌∙◌}
use Rattle.text_store.specs.Kinds.{kind_at}
use Rattle.text_store.proofs.KindLemmas.{lacking_not}
use Rattle.text_store.proofs.lists.Store.longer.Goals as goal

pub set_apart-requires-clause-element : goal.set_apart-requires-clause-element
set_apart-requires-clause-element c = sym (c.is_element.ensures c.args.self.now) ∙ c.if-is_element.true

pub returns-else-is_element-clause-ok : goal.returns-else-is_element-clause-ok
returns-else-is_element-clause-ok c = record {
  held = c.requires;
  is = sym (lacking_not (kind_at c.args.self.now c.args.kept) c.args.more.now (sym (c.is_element.ensures c.args.self.now) ∙ c.if-is_element.false));
}

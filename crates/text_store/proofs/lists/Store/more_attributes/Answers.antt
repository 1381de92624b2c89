use Rattle.std.proofs.Common.{sym}
use Rattle.text_store.specs.Kinds.{kind_at}
use Rattle.text_store.proofs.KindLemmas.{lacking_none}
use Rattle.text_store.proofs.lists.Store.more_attributes.Goals as goal

pub returns-then-are_none-clause-ok : goal.returns-then-are_none-clause-ok
returns-then-are_none-clause-ok c = record { held = c.requires; is = sym (lacking_none (kind_at c.args.self.now c.args.kept) c.args.more.now (c.are_none.ensures c.if-are_none.true)) }

use Rattle.std.proofs.Common.{sym, ap, ◌∙◌}
use Rattle.text_store.specs.Kinds.{kind_at}
use Rattle.text_store.specs.Records.{made_op}
use Rattle.text_store.proofs.RecordLemmas.{not_element}
use Rattle.text_store.proofs.lists.Store.made_other.Goals as goal

pub returns-in-Element : goal.returns-in-Element
returns-in-Element c = ap (made_op c.args.id) c.in-Element.ensures

pub returns-in_default : goal.returns-in_default
returns-in_default c = absurd (not_element c.kind.result (kind_at c.args.self.now c.args.kept) c.kind.ensures c.requires.1 c.in_default.not-Element)

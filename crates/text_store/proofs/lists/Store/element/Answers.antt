use Rattle.std.proofs.Common.{sym}
use Rattle.text_store.proofs.KindLemmas.{element_read}
use Rattle.text_store.proofs.lists.Store.element.Goals as goal

pub returns : goal.returns
returns c = sym (element_read c.args.self.now.apart.items c.args.run.from c.index.result.now c.requires c.index.ensures)

use Rattle.text_store.proofs.lists.Store.attributes_in.Goals as goal

pub returns : goal.returns
returns c = rw (← c.kind.ensures) c.seen_attributes_in.ensures

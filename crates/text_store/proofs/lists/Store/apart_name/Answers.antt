use Rattle.text_store.proofs.lists.Store.apart_name.Goals as goal

pub returns : goal.returns
returns c = rw (← c.element.ensures) c.copy.ensures

use Rattle.text_store.proofs.lists.Store.copied_name.Goals as goal

pub returns : goal.returns
returns c = rw (← c.kind.ensures) c.seen_name_in.ensures

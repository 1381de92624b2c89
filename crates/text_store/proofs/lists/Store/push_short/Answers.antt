use Rattle.text_store.proofs.lists.Store.push_short.Goals as goal

pub returns-in-Other-clause-ok : goal.returns-in-Other-clause-ok
returns-in-Other-clause-ok c = rw (c.in-Other.is, ← c.as_str.ensures) c.push_other.ensures.ok

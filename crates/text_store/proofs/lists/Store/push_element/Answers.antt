use Rattle.text_store.proofs.lists.Store.push_element.Goals as goal

pub returns-else-are_long-clause-ok : goal.returns-else-are_long-clause-ok
returns-else-are_long-clause-ok c = rw (← c.as_slice-list.ensures) c.push_short.ensures.ok

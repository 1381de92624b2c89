use Rattle.text_store.proofs.lists.Store.push_shared.Goals as goal

pub returns-clause-ok : goal.returns-clause-ok
returns-clause-ok c = rw (← c.in_ok-own.ensures) c.push_apart.ensures.ok

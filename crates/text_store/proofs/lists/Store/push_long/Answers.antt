use Rattle.text_store.proofs.lists.Store.push_long.Goals as goal

pub returns-clause-ok : goal.returns-clause-ok
returns-clause-ok c = rw (← c.in_ok-own_name.ensures, ← c.in_ok-shared.ensures) c.push_apart.ensures.ok

use Rattle.text_store.proofs.seen.listed_apart.Goals as goal

pub returns : goal.returns
returns c = c.first_of.ensures

use Rattle.outside.proofs.never_fails.NeverFailsOutside.read.Goals as goal

pub returns-clause-others : goal.returns-clause-others
returns-clause-others c = c.read_at_most.ensures.others (λ _. 0)

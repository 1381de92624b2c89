use Rattle.specparse_c.proofs.running.add_script.Goals as goal

pub returns-in-None-clause-failure : goal.returns-in-None-clause-failure
returns-in-None-clause-failure c = λ h. c.in-None.ensures h.0

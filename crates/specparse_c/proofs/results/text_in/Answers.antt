use Rattle.specparse_c.proofs.results.text_in.Goals as goal

pub returns-in-Err : goal.returns-in-Err
returns-in-Err c = c.in-Err.ensures.cases.0

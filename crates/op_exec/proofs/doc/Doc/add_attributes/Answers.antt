use Rattle.op_exec.proofs.doc.Doc.add_attributes.Goals as goal

pub returns-clause-ok : goal.returns-clause-ok
returns-clause-ok c = rw (← c.in_ok-own.ensures) c.add_own.ensures.ok

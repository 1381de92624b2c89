use Rattle.op_exec.proofs.doc.Doc.doctype.Goals as goal

pub returns-clause-ok : goal.returns-clause-ok
returns-clause-ok c = rw (← c.in_ok-own.ensures) c.own_doctype.ensures.ok

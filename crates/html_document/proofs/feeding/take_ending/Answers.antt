use Rattle.std.proofs.Common.{◌≡◌, ap}
use Rattle.html_types.specs.declared.ending.Why.{Why}
use Rattle.html_types.specs.declared.ending.Why.TheVariants as why
use Rattle.serial.specs.Quiet.{refused}
use Rattle.html_document.proofs.feeding.take_ending.Goals as goal

pub returns-in-End-clause-tree : goal.returns-in-End-clause-tree
returns-in-End-clause-tree c = rw c.in-End.is c.take_end.ensures.tree

pub returns-in-End-clause-refused : goal.returns-in-End-clause-refused
returns-in-End-clause-refused c = rw c.in-End.is c.take_end.ensures.refused

pub returns-in-Bad-clause-refused : goal.returns-in-Bad-clause-refused
returns-in-Bad-clause-refused c = λ w is. let same : why.BadUtf8 ≡ w = cc is in rw c.in-Bad.is (ap (λ (v : Why). refused v) same)

pub returns-in-Long-clause-refused : goal.returns-in-Long-clause-refused
returns-in-Long-clause-refused c = λ w is. let same : why.Page ≡ w = cc is in rw c.in-Long.is (ap (λ (v : Why). refused v) same)

pub returns-in-Fault-clause-refused : goal.returns-in-Fault-clause-refused
returns-in-Fault-clause-refused c = λ w is. let same : why.Fault ≡ w = cc is in rw c.in-Fault.is (ap (λ (v : Why). refused v) same)

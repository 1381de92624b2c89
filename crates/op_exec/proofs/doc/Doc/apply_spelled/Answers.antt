use Rattle.std.proofs.Common.{sym, ◌∙◌}
use Rattle.text_store.specs.Records.{seen_op}
use Rattle.op_exec.proofs.Lists.{acts-nothing, IsOpBound-from_spelled}
use Rattle.op_exec.proofs.doc.Doc.apply_spelled.Goals as goal

pub returns-then-inserts_nothing-clause-ok : goal.returns-then-inserts_nothing-clause-ok
returns-then-inserts_nothing-clause-ok c = sym (acts-nothing _ (seen_op c.args.op) (sym c.inserts_nothing.ensures ∙ c.if-inserts_nothing.true))

pub apply-requires : goal.apply-requires
apply-requires c = IsOpBound-from_spelled _ (seen_op c.args.op) (sym c.inserts_nothing.ensures ∙ c.if-inserts_nothing.false) c.requires

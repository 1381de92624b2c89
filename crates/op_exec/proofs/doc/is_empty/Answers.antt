use Rattle.html_types.proofs.TextLemmas.{nil-from_bytes}
use Rattle.op_exec.proofs.doc.is_empty.Goals as goal

pub returns : goal.returns
returns c = rw c.is_empty.ensures (nil-from_bytes _ c.utf8.text)

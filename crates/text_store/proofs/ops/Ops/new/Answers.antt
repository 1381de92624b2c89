use Rattle.std.proofs.Common.{refl}
use Rattle.html_types.specs.Operations.{spelled}
use Rattle.text_store.proofs.ops.Ops.new.Goals as goal

pub returns : goal.returns
unfolding spelled
returns c = rw c.new.ensures.items refl

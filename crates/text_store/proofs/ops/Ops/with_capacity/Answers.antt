use Rattle.std.proofs.Common.{List, map, ap}
use Rattle.html_types.specs.Operations.{spelled}
use Rattle.text_store.specs.declared.ops.Record.{Record}
use Rattle.text_store.specs.Records.{op_at}
use Rattle.text_store.proofs.ops.Ops.with_capacity.Goals as goal

pub returns : goal.returns
unfolding spelled
returns c = ap (λ (l : List Record). spelled (map (op_at c.new.result) l)) c.in_ok-with_capacity.ensures.items

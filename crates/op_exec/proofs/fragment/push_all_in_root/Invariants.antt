use Rattle.std.proofs.Common.{◌≡◌, ◌++◌, take}
use Rattle.op_exec.proofs.Lists.{rooted}
use Rattle.op_exec.proofs.fragment.push_all_in_root.Given as goal

abbrev pub invariant-loop-index : goal.invariant-loop-index
invariant-loop-index l = record { added : l.all ≡ l.fn.all ++ rooted (take l.index l.list) }

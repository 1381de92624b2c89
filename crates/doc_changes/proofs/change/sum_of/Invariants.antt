use Rattle.std.proofs.Common.{◌≡◌, length, take}
use Rattle.html_types.specs.Operations.{spelled}
use Rattle.doc_changes.proofs.change.sum_of.Given as goal

-- those that are passed are counted
abbrev pub invariant-loop-index : goal.invariant-loop-index
invariant-loop-index l = record { counted : l.sum ≡ length (spelled (take l.index l.list)) }

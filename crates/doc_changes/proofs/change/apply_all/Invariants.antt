use Rattle.std.proofs.Common.{◌≡◌, take}
use Rattle.html_types.specs.Operations.{spelled}
use Rattle.standard.specs.Act.{acts}
use Rattle.doc_changes.proofs.change.apply_all.Given as goal

-- those that are passed are done
abbrev pub invariant-loop-index : goal.invariant-loop-index
invariant-loop-index l = record { done : l.doc ≡ acts l.initial.doc (spelled (take l.index l.list)) }

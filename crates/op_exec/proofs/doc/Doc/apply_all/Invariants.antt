use Rattle.std.proofs.Common.{◌≡◌, take, drop}
use Rattle.html_types.specs.Operations.{spelled}
use Rattle.standard.specs.Act.{acts, is_bound, AreOpsBound}
use Rattle.op_exec.proofs.doc.Doc.apply_all.Given as goal

-- those that are passed are done, and those that are left have their ids bound
abbrev pub invariant-loop-index : goal.invariant-loop-index
invariant-loop-index l = record {
  done : l.self ≡ acts l.initial.self (spelled (take l.index l.list));
  bound : AreOpsBound (is_bound l.self.bound) (spelled (drop l.index l.list));
}

use Rattle.std.proofs.Common.{take}
use Rattle.text_store.specs.Lists.{KeepsAll, GetsMarks}
use Rattle.text_store.proofs.lists.Store.push_seen_marks.Given as goal

abbrev pub invariant-loop-index : goal.invariant-loop-index
invariant-loop-index l = record {
  kept : KeepsAll l.initial.self l.self;
  gets : GetsMarks l.initial.self l.self (take l.index l.fn.list);
}

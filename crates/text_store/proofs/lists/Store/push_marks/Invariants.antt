use Rattle.std.proofs.Common.{take}
use Rattle.text_store.specs.Lists.{KeepsAll, GetsMarks}
use Rattle.text_store.proofs.lists.Store.push_marks.Given as goal

abbrev pub invariant-loop-attribute : goal.invariant-loop-attribute
invariant-loop-attribute l = record {
  kept : KeepsAll l.initial.self l.self;
  gets : GetsMarks l.initial.self l.self (take l.attribute-index l.attributes);
}

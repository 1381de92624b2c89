use Rattle.std.proofs.Common.{◌≡◌, map, drop}
use Rattle.std.specs.Str.{chars}
use Rattle.standard.specs.Tree.{attribute}
use Rattle.text_store.specs.Lists.{mark_at, HoldsMarks}
use Rattle.text_store.proofs.listed.value_among.Given as goal

-- no mark that is passed has the name, and those that are left lie there
abbrev pub invariant-loop-mark : goal.invariant-loop-mark
invariant-loop-mark l = record {
  held : HoldsMarks l.texts (drop l.mark-index l.marks);
  left : attribute (chars l.name) (map (mark_at l.texts) l.fn.marks) ≡ attribute (chars l.name) (map (mark_at l.texts) (drop l.mark-index l.marks));
}

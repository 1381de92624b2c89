use Rattle.std.proofs.Common.{◌≡◌, take}
use Rattle.html_types.proofs.attributes.same_lists.Given as goal

abbrev pub invariant-loop-i : goal.invariant-loop-i
invariant-loop-i l = take l.i l.list ≡ take l.i l.other

use Rattle.std.proofs.Common.{◌≡◌, ◌≤◌, ◌+◌, ◌++◌, length, vec_len}
use Rattle.std.specs.Vec.{vec_capacity}
use Rattle.std.specs.Vec.Iter.{into_iter_items}
use Rattle.preload.proofs.team.put_back.Given as goal

abbrev pub invariant-loop-unused : goal.invariant-loop-unused
invariant-loop-unused g l = record {
  items : l.yielded ++ into_iter_items l.unused-iterator ≡ into_iter_items l.initial.unused-iterator;
  back : l.back.items ≡ l.fn.back.items ++ l.yielded;
  room : vec_len l.back + length (into_iter_items l.unused-iterator) ≤ vec_capacity l.back;
}

use Rattle.std.proofs.Common.{◌≡◌, ◌≤◌, ◌+◌, ◌++◌, map, length, vec_len}
use Rattle.std.specs.Vec.{vec_capacity}
use Rattle.std.specs.Vec.Iter.{into_iter_items}
use Rattle.preload.specs.Teams.{AreMembers, AreIn, CameBackEach}
use Rattle.preload.proofs.team.end_members.Given as goal

abbrev pub invariant-loop-member : goal.invariant-loop-member
invariant-loop-member g l = record {
  items : l.yielded ++ into_iter_items l.member-iterator ≡ into_iter_items l.initial.member-iterator;
  done : CameBackEach g.F.Outside l.dir l.yielded l.helped.items (map g.F.Outside.seen l.back.items);
  members : AreMembers g.F.Outside (into_iter_items l.member-iterator);
  folder : AreIn l.dir (into_iter_items l.member-iterator);
  room : vec_len l.back + length (into_iter_items l.member-iterator) ≤ vec_capacity l.back;
  room_helped : vec_len l.helped + length (into_iter_items l.member-iterator) ≤ vec_capacity l.helped;
  count : vec_len l.back + length (into_iter_items l.member-iterator) ≡ vec_len l.fn.back + length (into_iter_items l.initial.member-iterator);
  capacity : vec_capacity l.back ≡ vec_capacity l.fn.back;
}

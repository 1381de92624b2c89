use Rattle.std.proofs.Common.{◌≡◌, ◌≤◌, ◌+◌, ◌++◌, length, vec_len}
use Rattle.std.specs.Vec.{vec_capacity}
use Rattle.std.specs.Vec.Iter.{into_iter_items}
use Rattle.preload.proofs.Teams.{AreShared}
use Rattle.preload.proofs.team.share_out.Given as goal

abbrev pub invariant-loop-helper : goal.invariant-loop-helper
invariant-loop-helper g l = record {
  items : l.yielded ++ into_iter_items l.helper-iterator ≡ into_iter_items l.initial.helper-iterator;
  shared : AreShared g.F.Outside l.dir l.most l.members.items l.rest.items l.yielded;
  room : vec_len l.members + length (into_iter_items l.helper-iterator) ≤ vec_capacity l.members;
  room_rest : vec_len l.rest + length (into_iter_items l.helper-iterator) ≤ vec_capacity l.rest;
}

use Rattle.std.proofs.Common.{◌≡◌, ◌≤◌, vec_len}
use Rattle.page_turns.specs.Scripts.{AreDistinct}
use Rattle.preload.specs.Teams.{AreMembers, SameMembers, names_in, given_in, to_come_in}
use Rattle.preload.proofs.team.ask_all.Given as goal

abbrev pub invariant-loop-name : goal.invariant-loop-name
invariant-loop-name g l = record {
  members : AreMembers g.F.Outside l.members.items;
  same : SameMembers l.fn.members.items l.members.items;
  apart : AreDistinct (names_in l.members.items);
  given : given_in l.members.items ≡ given_in l.fn.members.items;
  to_come : to_come_in l.members.items ≤ to_come_in l.fn.members.items;
  count : vec_len l.members ≡ vec_len l.fn.members;
}

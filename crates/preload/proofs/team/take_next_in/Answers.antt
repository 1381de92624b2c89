use Rattle.std.proofs.Common.{arith}
use Rattle.page_turns.proofs.LineLemmas.{if_ok, err_weaker}
use Rattle.preload.specs.Teams.{IsPlace}
use Rattle.preload.proofs.Teams.{below, as_read, member_read, members_after, same_after, names_after, given_after, next_after}
use Rattle.preload.proofs.team.take_next_in.Goals as goal

pub index_mut-member-requires : goal.index_mut-member-requires
index_mut-member-requires g c = let there = below c.args.members.now.items c.args.at.0 c.requires.place.1.0 c.requires.place.1.1 in omega (arith, there, c.args.members.now.ok.0)

pub take_next-requires-clause-member : goal.take_next-requires-clause-member
take_next-requires-clause-member g c = member_read g.F.Outside c.args.members.now.items c.args.at.0 c.index_mut-member.result.now c.index_mut-member.result.now (omega (arith, below c.args.members.now.items c.args.at.0 c.requires.place.1.0 c.requires.place.1.1)) c.index_mut-member.ensures.value c.requires.members

pub take_next-requires-clause-place : goal.take_next-requires-clause-place
take_next-requires-clause-place g c = (c.requires.place.0, as_read g.F.Outside c.args.members.now.items c.args.at.0 c.index_mut-member.result.now c.index_mut-member.result.now (omega (arith, below c.args.members.now.items c.args.at.0 c.requires.place.1.0 c.requires.place.1.1)) c.index_mut-member.ensures.value (IsPlace c.requires.place.0 c.args.at.1) c.requires.place.1)

pub returns-clause-members : goal.returns-clause-members
returns-clause-members g c = members_after g.F.Outside c.args.members.now.items c.args.at.0 c.index_mut-member.result.now c.take_next.new.self (omega (arith, below c.args.members.now.items c.args.at.0 c.requires.place.1.0 c.requires.place.1.1)) c.index_mut-member.ensures.value c.requires.members c.take_next.ensures.member

pub returns-clause-same : goal.returns-clause-same
returns-clause-same g c = same_after g.F.Outside c.args.members.now.items c.args.at.0 c.index_mut-member.result.now c.take_next.new.self (omega (arith, below c.args.members.now.items c.args.at.0 c.requires.place.1.0 c.requires.place.1.1)) c.index_mut-member.ensures.value c.take_next.ensures.same

pub returns-clause-names : goal.returns-clause-names
returns-clause-names g c = names_after g.F.Outside c.args.members.now.items c.args.at.0 c.index_mut-member.result.now c.take_next.new.self (omega (arith, below c.args.members.now.items c.args.at.0 c.requires.place.1.0 c.requires.place.1.1)) c.index_mut-member.ensures.value c.take_next.ensures.names

pub returns-clause-next : goal.returns-clause-next
returns-clause-next g c = if_ok c.take_next.result (λ early next. next_after g.F.Outside c.args.members.now.items c.args.at.0 c.index_mut-member.result.now c.take_next.new.self (omega (arith, below c.args.members.now.items c.args.at.0 c.requires.place.1.0 c.requires.place.1.1)) c.index_mut-member.ensures.value early c.args.journal.now.fetches next) c.take_next.ensures.next

pub returns-clause-err : goal.returns-clause-err
returns-clause-err g c = err_weaker c.take_next.result _ _ (λ same. given_after g.F.Outside c.args.members.now.items c.args.at.0 c.index_mut-member.result.now c.take_next.new.self (omega (arith, below c.args.members.now.items c.args.at.0 c.requires.place.1.0 c.requires.place.1.1)) c.index_mut-member.ensures.value same) c.take_next.ensures.err

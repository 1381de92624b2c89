use Rattle.std.proofs.Common.{◌≡◌, Some, slice_get, subst, arith}
use Rattle.preload.specs.Teams.{HasRoom}
use Rattle.preload.proofs.Teams.{below, at_read, as_read, member_read, members_after, same_after, apart_after, given_after, to_come_after, same_members}
use Rattle.preload.proofs.team.ask_next.Goals as goal

pub index_mut-member-requires : goal.index_mut-member-requires
index_mut-member-requires g c =
    let there = subst (λ ms. slice_get ms c.in-Some.who ≡ Some c.in-Some.ensures.0) c.as_slice.ensures.value c.in-Some.ensures.1 in
    let less = below c.args.members.now.items c.in-Some.who c.in-Some.ensures.0 there in
    omega (arith, less, c.args.members.now.ok.0)

pub ask-requires-clause-member : goal.ask-requires-clause-member
ask-requires-clause-member g c =
    let there = subst (λ ms. slice_get ms c.in-Some.who ≡ Some c.in-Some.ensures.0) c.as_slice.ensures.value c.in-Some.ensures.1 in
    let less = below c.args.members.now.items c.in-Some.who c.in-Some.ensures.0 there in
    let m = c.index_mut-member.result.now in
    member_read g.F.Outside c.args.members.now.items c.in-Some.who m m less c.index_mut-member.ensures.value c.requires.members

pub ask-requires-clause-room : goal.ask-requires-clause-room
ask-requires-clause-room g c =
    let there = subst (λ ms. slice_get ms c.in-Some.who ≡ Some c.in-Some.ensures.0) c.as_slice.ensures.value c.in-Some.ensures.1 in
    let less = below c.args.members.now.items c.in-Some.who c.in-Some.ensures.0 there in
    let m = c.index_mut-member.result.now in
    as_read g.F.Outside c.args.members.now.items c.in-Some.who m m less c.index_mut-member.ensures.value HasRoom (c.in-Some.ensures.0, there, c.in-Some.ensures.2)

pub ask-requires-clause-once : goal.ask-requires-clause-once
ask-requires-clause-once g c =
    let there = subst (λ ms. slice_get ms c.in-Some.who ≡ Some c.in-Some.ensures.0) c.as_slice.ensures.value c.in-Some.ensures.1 in
    let less = below c.args.members.now.items c.in-Some.who c.in-Some.ensures.0 there in
    let m = c.index_mut-member.result.now in
    c.requires.once c.in-Some.who m (at_read c.args.members.now.items c.in-Some.who m less c.index_mut-member.ensures.value)

pub returns-in-Some-clause-members : goal.returns-in-Some-clause-members
returns-in-Some-clause-members g c =
    let there = subst (λ ms. slice_get ms c.in-Some.who ≡ Some c.in-Some.ensures.0) c.as_slice.ensures.value c.in-Some.ensures.1 in
    let less = below c.args.members.now.items c.in-Some.who c.in-Some.ensures.0 there in
    members_after g.F.Outside c.args.members.now.items c.in-Some.who c.index_mut-member.result.now c.ask.new.self less c.index_mut-member.ensures.value c.requires.members c.ask.ensures.member

pub returns-in-Some-clause-same : goal.returns-in-Some-clause-same
returns-in-Some-clause-same g c =
    let there = subst (λ ms. slice_get ms c.in-Some.who ≡ Some c.in-Some.ensures.0) c.as_slice.ensures.value c.in-Some.ensures.1 in
    let less = below c.args.members.now.items c.in-Some.who c.in-Some.ensures.0 there in
    same_after g.F.Outside c.args.members.now.items c.in-Some.who c.index_mut-member.result.now c.ask.new.self less c.index_mut-member.ensures.value c.ask.ensures.same

pub returns-in-Some-clause-apart : goal.returns-in-Some-clause-apart
returns-in-Some-clause-apart g c =
    let there = subst (λ ms. slice_get ms c.in-Some.who ≡ Some c.in-Some.ensures.0) c.as_slice.ensures.value c.in-Some.ensures.1 in
    let less = below c.args.members.now.items c.in-Some.who c.in-Some.ensures.0 there in
    apart_after g.F.Outside c.args.members.now.items c.in-Some.who c.index_mut-member.result.now c.ask.new.self less c.index_mut-member.ensures.value c.args.name.now c.ask.ensures.names c.requires.once c.requires.apart

pub returns-in-Some-clause-given : goal.returns-in-Some-clause-given
returns-in-Some-clause-given g c =
    let there = subst (λ ms. slice_get ms c.in-Some.who ≡ Some c.in-Some.ensures.0) c.as_slice.ensures.value c.in-Some.ensures.1 in
    let less = below c.args.members.now.items c.in-Some.who c.in-Some.ensures.0 there in
    given_after g.F.Outside c.args.members.now.items c.in-Some.who c.index_mut-member.result.now c.ask.new.self less c.index_mut-member.ensures.value c.ask.ensures.given

pub returns-in-Some-clause-to_come : goal.returns-in-Some-clause-to_come
returns-in-Some-clause-to_come g c =
    let there = subst (λ ms. slice_get ms c.in-Some.who ≡ Some c.in-Some.ensures.0) c.as_slice.ensures.value c.in-Some.ensures.1 in
    let less = below c.args.members.now.items c.in-Some.who c.in-Some.ensures.0 there in
    to_come_after g.F.Outside c.args.members.now.items c.in-Some.who c.index_mut-member.result.now c.ask.new.self less c.index_mut-member.ensures.value c.ask.ensures.to_come

pub returns-in-None-clause-same : goal.returns-in-None-clause-same
returns-in-None-clause-same g c = same_members c.args.members.now.items

use Rattle.std.proofs.Common.{refl, ◌∙◌, arith}
use Rattle.preload.proofs.Teams.{same_members, same-then}
use Rattle.preload.proofs.team.ask_all.Goals as goal

pub loop-name-init : goal.loop-name-init
loop-name-init g c = record { members = c.requires.members; same = same_members c.args.members.now.items; apart = c.requires.apart; given = refl; to_come = omega arith; count = refl }

pub loop-name-preserved-in-Some : goal.loop-name-preserved-in-Some
loop-name-preserved-in-Some g c =
    let i = c.loop-name.invariant in
    let e = c.ask_if_new-next.ensures in
    record {
      members = e.members;
      same = same-then c.args.members.now.items c.loop-name.members.items c.ask_if_new-next.new.members.items i.same e.same;
      apart = e.apart;
      given = e.given ∙ i.given;
      to_come = omega (arith, e.to_come, i.to_come);
      count = e.count ∙ i.count;
    }

pub loop-name-preserved : goal.loop-name-preserved
loop-name-preserved g c =
    let i = c.loop-name.invariant in
    let e = c.ask_if_new-next.ensures in
    record {
      members = e.members;
      same = same-then c.args.members.now.items c.loop-name.members.items c.ask_if_new-next.new.members.items i.same e.same;
      apart = e.apart;
      given = e.given ∙ i.given;
      to_come = omega (arith, e.to_come, i.to_come);
      count = e.count ∙ i.count;
    }

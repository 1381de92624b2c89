use Rattle.std.proofs.Common.{ap}
use Rattle.core_pair.specs.Pairs.{Paired}
use Rattle.core_pair.proofs.Holding.{first-kept}
use Rattle.core_pair.proofs.Running.{first-made}
use Rattle.core_pair.proofs.pair.Pair.new.Goals as goal

pub could-could-requires : goal.could-could-requires
could-could-requires g c =
    let s = c.args.setup in
    record { run = first-made g.E.InForce.entities s.table.now s.scripts s.pieces.items s.ending s.ahead c.in_ok-both.both c.requires.entities c.requires.some c.in_ok-both.ensures }

pub invariant_of-result : goal.invariant_of-result
invariant_of-result g c =
    let s = c.args.setup in
    first-kept g.E.InForce.entities c.in_ok-both.both c.of-before.result.value (ap (λ (p : Paired). p.spent) c.in_ok-both.ensures)
    (first-made g.E.InForce.entities s.table.now s.scripts s.pieces.items s.ending s.ahead c.in_ok-both.both c.requires.entities c.requires.some c.in_ok-both.ensures)

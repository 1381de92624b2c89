use Rattle.page_batch.proofs.GoingLemmas.{goes-refl, goes-then}
use Rattle.page_batch.proofs.going.run_on.Goals as goal

pub turns-init : goal.turns-init
turns-init g c = goes-refl c.args.table.now c.args.pair.now c.args.text.now.items

pub turns-preserved : goal.turns-preserved
turns-preserved g c = goes-then _ _ _ _ _ _ _ c.turns.invariant c.in_ok-take_turn.ensures.goes

pub turns-smaller : goal.turns-smaller
turns-smaller g c = rw c.in-Went.is at c.in_ok-take_turn.ensures.ends

pub returns-in-Stopped-clause-goes : goal.returns-in-Stopped-clause-goes
returns-in-Stopped-clause-goes g c = goes-then _ _ _ _ _ _ _ c.turns.invariant c.in_ok-take_turn.ensures.goes

pub returns-in-Stopped-clause-ends : goal.returns-in-Stopped-clause-ends
returns-in-Stopped-clause-ends g c = rw c.in-Stopped.is at c.in_ok-take_turn.ensures.ends

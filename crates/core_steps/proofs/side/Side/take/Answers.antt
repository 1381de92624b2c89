use Rattle.std.proofs.Common.{Some, sym, subst, ap}
use Rattle.std.proofs.lemmas.Result.{on_ok_weaker}
use Rattle.core_definitions.specs.Batches.{answer}
use Rattle.core_definitions.specs.Journal.{Journal}
use Rattle.core_steps.specs.Sides.{AreAhead}
use Rattle.core_steps.proofs.Stays.{sound-took}
use Rattle.core_steps.proofs.side.Side.take.Goals as goal

pub returns-clause-sound : goal.returns-clause-sound
returns-clause-sound g c =
    let x = c.took-current.new.self.left in
    let now = Some c.args.self.now.writer.parser in
    on_ok_weaker c.add_event.result
    (λ more. sound-took c.args.self.now c.took-current.new.self c.put.new.place c.add_event.new.self c.requires.sound c.requires.wanted c.took-current.ensures.took
    (subst (λ bs. AreAhead bs (answer c.args.self.now.table now x).batches) (sym c.put.ensures)
    (subst (λ es. AreAhead c.batches_of-batches.result (answer es now x).batches) (sym c.requires.entities) c.batches_of-batches.ensures)) (ap (λ (j : Journal). j.pieces) more))
    c.add_event.ensures.ok

use Rattle.std.proofs.Common.{ap, Some}
use Rattle.core_definitions.specs.Journal.{Journal}
use Rattle.core_steps.proofs.Stays.{ending-sound}
use Rattle.core_steps.proofs.side.Side.end.Goals as goal

pub returns-clause-sound : goal.returns-clause-sound
returns-clause-sound c =
    ending-sound c.args.self.now c.add.new.self c.set_ending.new.self c.new.result (Some c.args.ending) c.in_ok-text.text c.requires.sound c.in_ok-add.ensures.ok c.new.ensures c.in_ok-text.ensures
    (ap (λ (j : Journal). j.pieces) c.set_ending.ensures)

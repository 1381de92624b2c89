use Rattle.std.proofs.Common.{◌∙◌, sym, ap, Option}
use Rattle.standard.specs.Parser.{Parser}
use Rattle.core_definitions.specs.Batches.{Answered, answer}
use Rattle.speculation.proofs.Cuts.{answer-none}
use Rattle.speculation.proofs.worker.parse_from.Goals as goal

pub returns-in-None-clause-batches : goal.returns-in-None-clause-batches
returns-in-None-clause-batches c =
    c.with_room-batches.ensures
    ∙ sym (ap (λ (m : Option Parser). (answer c.args.table.now m c.args.piece.now).batches) c.in-None.is ∙ ap (λ (a : Answered). a.batches) (answer-none c.args.table.now c.args.piece.now))

pub returns-in-None-clause-machine : goal.returns-in-None-clause-machine
returns-in-None-clause-machine c =
    sym (ap (λ (m : Option Parser). (answer c.args.table.now m c.args.piece.now).parser) c.in-None.is ∙ ap (λ (a : Answered). a.parser) (answer-none c.args.table.now c.args.piece.now))

use Rattle.std.proofs.Common.{ap, sym, ◌∙◌}
use Rattle.core_definitions.specs.Core.{Reply}
use Rattle.parser_thread.proofs.Serves.{serves}
use Rattle.parser_thread.proofs.side.ParserSide.serve.Goals as goal

pub tell-requires : goal.tell-requires
tell-requires g c = (_, _, c.put.ensures.put, ap (λ (r : Reply). r.number) c.in-Ok.ensures.reply ∙ sym c.number-number.ensures)

pub returns-in-Ok-clause-goes_on : goal.returns-in-Ok-clause-goes_on
returns-in-Ok-clause-goes_on g c _ =
    serves g.E.InForce _ _ _ _ _ _ _ _ c.in-Ask.ensures.taken c.in-Ok.ensures.reply c.in-Ok.ensures.start c.in-Ok.ensures.piece c.in-Ok.ensures.from c.in-Ok.ensures.machine c.put.ensures.put c.requires.serving

use Rattle.std.proofs.Common.{◌∙◌, ap}
use Rattle.core_definitions.specs.Desk.{wants_reply}
use Rattle.core_pair.specs.Pairs.{Paired}
use Rattle.core_pair.proofs.Running.{take-unwanted}
use Rattle.core_pair.proofs.both.Both.can_take.Goals as goal

pub returns-else-wants_reply : goal.returns-else-wants_reply
returns-else-wants_reply g c =
    take-unwanted _ c.args.self.now c.wants_reply.result c.requires.run
    (c.wants_reply.ensures ∙ ap (λ (p : Paired). wants_reply p.core.desk) c.self.view_is) c.if-wants_reply.false

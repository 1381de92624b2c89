use Rattle.std.proofs.Common.{ap, ◌∙◌}
use Rattle.std.specs.Prelude.{◌&&◌, is_none}
use Rattle.core_definitions.specs.Batches.{Piece}
use Rattle.core_definitions.specs.Settling.{is_empty}
use Rattle.core_steps.proofs.Events.{does-free}
use Rattle.core_steps.proofs.side.Side.can_do.Goals as goal

pub returns-in-Free : goal.returns-in-Free
returns-in-Free c =
    does-free c.args.self.now c.is_blank.result c.in-Free.is (c.is_blank.ensures ∙ ap (λ (x : Piece). is_empty x.text && is_none x.ending) c.left.ensures)

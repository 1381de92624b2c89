use Rattle.std.proofs.Common.{◌∙◌, ap}
use Rattle.core_steps.specs.Sides.{Shown, with_ending}
use Rattle.core_pair.specs.Pairs.{with_pieces}
use Rattle.core_pair.proofs.both.first_side.Goals as goal

pub returns-in-Ok : goal.returns-in-Ok
returns-in-Ok c = c.in-Ok.ensures ∙ ap (λ (s : Shown). with_ending c.args.ending (with_pieces c.args.pieces.now s)) c.in_ok-doc.ensures

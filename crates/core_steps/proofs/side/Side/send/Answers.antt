use Rattle.std.proofs.Common.{refl, ◌∙◌, ap, length, None}
use Rattle.core_definitions.specs.Batches.{Piece}
use Rattle.core_definitions.specs.Journal.{Journal}
use Rattle.core_steps.proofs.Stays.{sound-sent}
use Rattle.core_steps.proofs.side.Side.send.Goals as goal

pub returns-clause-sound : goal.returns-clause-sound
returns-clause-sound c =
    sound-sent c.args.self.now c.keep.new.self _ c.count.result _ c.in_ok-piece.piece c.keep.new.self.to_send c.add_event.new.self c.requires.sound c.in_ok-piece.ensures.piece c.in_ok-piece.ensures.kept refl
    (c.count.ensures ∙ ap length c.text.ensures) (ap (λ (j : Journal). j.pieces) c.in_ok-add_event.ensures.ok)

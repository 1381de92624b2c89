use Rattle.std.proofs.Common.{None}
use Rattle.std.specs.Prelude.{string_bytes}
use Rattle.std.specs.Str.{chars}
use Rattle.std.proofs.lemmas.Result.{on_ok_weaker}
use Rattle.core_steps.proofs.Stays.{piece-sound}
use Rattle.core_steps.proofs.side.Side.piece.Goals as goal

pub returns-clause-sound : goal.returns-clause-sound
returns-clause-sound c =
    on_ok_weaker c.add_piece.result
    (λ more. piece-sound c.args.self.now c.add.new.self c.add_piece.new.self c.new.result None c.in_ok-text.text c.of-read.result.value (chars (string_bytes c.args.text)) c.requires.sound c.in_ok-add.ensures.ok c.new.ensures c.of-read.ensures
    c.in_ok-text.ensures more c.requires.within)
    c.add_piece.ensures.ok

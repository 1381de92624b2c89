use Rattle.std.proofs.Common.{sym, ◌∙◌}
use Rattle.utf8_pieces.proofs.DecoderLemmas.{front_is}
use Rattle.utf8_pieces.proofs.bytes.longest_text.Goals as goal

pub returns-in-Ok : goal.returns-in-Ok
returns-in-Ok c = c.in-Ok.ensures.cases.0 ∙ sym (front_is c.args.bytes.now c.in-Ok.ensures.cases.1)

use Rattle.std.proofs.Common.{sym}
use Rattle.utf8_pieces.proofs.DecoderLemmas.{text_is_so_far}
use Rattle.utf8_pieces.proofs.bytes.is_text_so_far.Goals as goal

pub returns-in-Ok : goal.returns-in-Ok
returns-in-Ok c = sym (text_is_so_far c.args.bytes.now c.in-Ok.ensures.cases.1)

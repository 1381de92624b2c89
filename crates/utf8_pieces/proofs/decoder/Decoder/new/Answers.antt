use Rattle.std.proofs.Common.{rules, refl}
use Rattle.utf8_pieces.proofs.DecoderLemmas.{opens}
use Rattle.utf8_pieces.proofs.decoder.Decoder.new.Goals as goal

pub returns : goal.returns
returns c = opens _ _ refl (search rules) refl refl

use Rattle.std.proofs.Common.{eqb-true, sym, ◌∙◌, ap, length}
use Rattle.utf8_pieces.proofs.DecoderLemmas.{closes}
use Rattle.utf8_pieces.proofs.decoder.Decoder.close.Goals as goal

pub returns-in-None-2 : goal.returns-in-None-2
returns-in-None-2 c limit read has = closes c.args.self.now limit read c.args.fault has c.in-None.is c.if-fault.false (ap length (sym c.as_slice.ensures.value) ∙ eqb-true _ 0 (sym c.is_empty.ensures ∙ c.if-is_empty.true))

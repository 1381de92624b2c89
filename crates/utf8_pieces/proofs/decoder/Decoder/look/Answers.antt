use Rattle.std.proofs.Common.{◌≡◌, ◌++◌, ◌-◌, ap, ◌∙◌, length, arith}
use Rattle.std.proofs.lemmas.Result.{IfOk-weaker}
use Rattle.utf8_pieces.proofs.DecoderLemmas.{looked_joined}
use Rattle.utf8_pieces.proofs.decoder.Decoder.look.Goals as goal

pub returns-clause-ok : goal.returns-clause-ok
returns-clause-ok c = IfOk-weaker c.read-2.result _ _ (λ fed h. looked_joined c.args.self.now _ c.args.looked.now _ _ _ c.args.counted _ (c.deref-2.ensures.value ∙ c.in_ok-seen.ensures ∙ ap (λ h. h ++ c.args.looked.now) c.deref.ensures.value) (let e : c.len.result - (length c.args.looked.now - c.args.counted) ≡ length c.deref-2.result.now - (length c.args.looked.now - c.args.counted) = omega (arith, c.len.ensures, c.deref-2.ensures.len) in e) c.requires h) c.read-2.ensures.ok

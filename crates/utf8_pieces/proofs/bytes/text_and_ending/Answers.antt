use Rattle.std.proofs.Common.{◌≡◌, sym, ap, ◌∙◌, take, length, false, refl, arith}
use Rattle.std.specs.Prelude.{nat_lt}
use Rattle.std.proofs.lemmas.List.{take_all}
use Rattle.serial.specs.Page.{front}
use Rattle.utf8_pieces.proofs.DecoderLemmas.{front_is, text_is_so_far, not_lt}
use Rattle.utf8_pieces.proofs.bytes.text_and_ending.Goals as goal

pub returns-in-Ok-clause-text : goal.returns-in-Ok-clause-text
returns-in-Ok-clause-text c =
    let all : take c.args.counted c.args.seen.now ≡ c.args.seen.now = take_all _ _ (omega arith) in
    c.in-Ok.ensures.cases.0 ∙ sym (ap front all ∙ front_is c.args.seen.now c.in-Ok.ensures.cases.1)

pub returns-in-Ok-clause-ending : goal.returns-in-Ok-clause-ending
returns-in-Ok-clause-ending c =
    let whole : nat_lt c.args.counted (length c.args.seen.now) ≡ false = not_lt _ _ (omega arith) in
    rw (text_is_so_far c.args.seen.now c.in-Ok.ensures.cases.1, whole) refl

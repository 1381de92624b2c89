use Rattle.std.proofs.Common.{◌≡◌, length, sym, ◌∙◌, arith}
use Rattle.std.proofs.lemmas.List.Sums.{position_or_len_is}
use Rattle.serialiser.specs.Plain.{is_stop}
use Rattle.serialiser.proofs.plain.plain_len.Goals as goal

pub returns-then-is_stop : goal.returns-then-is_stop
returns-then-is_stop c =
    sym (position_or_len_is is_stop c.args.bytes.now c.loop-i.i 0 (omega arith) c.loop-i.invariant (λ h. sym c.is_stop.ensures ∙ c.if-is_stop.true))

pub returns : goal.returns
returns c =
    let all : c.loop-i.i ≡ length c.args.bytes.now = omega arith in
    sym (position_or_len_is is_stop c.args.bytes.now (length c.args.bytes.now) 0 (omega arith) (rw all at c.loop-i.invariant) (λ h. absurd (omega (arith, h))))

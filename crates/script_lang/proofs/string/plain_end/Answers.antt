use Rattle.std.proofs.Common.{arith}
use Rattle.std.proofs.lemmas.Str.{IsCharBoundary-after_ascii}
use Rattle.script_lang.proofs.PlainStrings.{plain_to}
use Rattle.script_lang.proofs.string.plain_end.Goals as goal

pub returns-then-byte-eq34-clause-found : goal.returns-then-byte-eq34-clause-found
returns-then-byte-eq34-clause-found c =
    rw (← c.as_bytes-byte-items.ensures.value) (plain_to _ c.loop-place.place c.loop-place-test.true c.loop-place.invariant c.if-byte-eq34.true)

pub returns-then-byte-eq34-clause-behind : goal.returns-then-byte-eq34-clause-behind
returns-then-byte-eq34-clause-behind c =
    rw (← c.as_bytes-byte-items.ensures.value)
    (IsCharBoundary-after_ascii _ c.loop-place.place c.as_bytes-byte-items.ensures.utf8 c.loop-place-test.true (omega (arith, c.if-byte-eq34.true)))

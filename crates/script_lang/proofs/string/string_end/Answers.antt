use Rattle.std.proofs.Common.{arith}
use Rattle.std.proofs.lemmas.Bool.{ne_eqb}
use Rattle.std.proofs.lemmas.Str.{IsCharBoundary-after_ascii}
use Rattle.script_lang.proofs.Ends.{after_escaped, after_other, at_quote}
use Rattle.script_lang.proofs.string.string_end.Goals as goal
use Rattle.script_lang.proofs.string.string_end.Goals.{then-escaped, else-escaped+else-byte-eq34}

pub loop-place-preserved : goal.loop-place-preserved
loop-place-preserved c =
    elim c.if-escaped.branch [
      | then-escaped w ↦ after_escaped _ _ _ _ _ c.loop-place-test.true w.if-escaped.true w.escaped-is c.loop-place.invariant
      | else-escaped+else-byte-eq34 w ↦ after_other _ _ _ _ _ c.loop-place-test.true w.if-escaped.false (ne_eqb _ 34 w.if-byte-eq34.false) w.escaped-is c.loop-place.invariant
    ]

pub returns-then-byte-eq34-clause-value : goal.returns-then-byte-eq34-clause-value
returns-then-byte-eq34-clause-value c =
    rw (← c.as_bytes-byte-items.ensures.value)
    (at_quote _ _ _ _ c.loop-place-test.true c.if-escaped.false c.if-byte-eq34.true c.loop-place.invariant)

pub returns-then-byte-eq34-clause-boundary : goal.returns-then-byte-eq34-clause-boundary
returns-then-byte-eq34-clause-boundary c =
    rw (← c.as_bytes-byte-items.ensures.value)
    (IsCharBoundary-after_ascii _ c.loop-place.place c.as_bytes-byte-items.ensures.utf8 c.loop-place-test.true (omega (arith, c.if-byte-eq34.true)))

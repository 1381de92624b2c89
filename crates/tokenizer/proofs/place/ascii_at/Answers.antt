use Rattle.std.proofs.Common.{arith}
use Rattle.std.proofs.lemmas.Str.{IsCharBoundary-after_ascii}
use Rattle.tokenizer.proofs.WholeLemmas.{piece-byte}
use Rattle.tokenizer.proofs.place.ascii_at.Goals as goal

pub returns-then-bytes-place-lt128-clause-boundary : goal.returns-then-bytes-place-lt128-clause-boundary
returns-then-bytes-place-lt128-clause-boundary c =
    rw (← c.as_bytes-bytes.ensures.value) (IsCharBoundary-after_ascii c.as_bytes-bytes.result.now c.args.place c.as_bytes-bytes.ensures.utf8 (omega (arith, c.if-place-bytes.true, c.as_bytes-bytes.ensures.len)) c.if-bytes-place-lt128.true)

pub returns-then-bytes-place-lt128-clause-read : goal.returns-then-bytes-place-lt128-clause-read
returns-then-bytes-place-lt128-clause-read c =
    rw (← c.as_bytes-bytes.ensures.value) (piece-byte c.as_bytes-bytes.result.now c.args.place (omega (arith, c.if-place-bytes.true, c.as_bytes-bytes.ensures.len)) c.if-bytes-place-lt128.true)

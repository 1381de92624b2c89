use Rattle.std.proofs.Common.{◌≡◌, ℕ, ◌<◌, get_or, false}
use Rattle.serialiser.specs.Plain.{is_stop}
use Rattle.serialiser.proofs.plain.plain_len.Given as goal

abbrev pub invariant-loop-i : goal.invariant-loop-i
invariant-loop-i l = (k : ℕ) → k < l.i → is_stop (get_or l.bytes k 0) ≡ false

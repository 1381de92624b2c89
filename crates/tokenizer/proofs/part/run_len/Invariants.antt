use Rattle.std.proofs.Common.{◌≡◌, ℕ, ◌<◌, get_or, false}
use Rattle.tokenizer.specs.Whole.{ends}
use Rattle.tokenizer.proofs.part.run_len.Given as goal

-- no run ends so far
abbrev pub invariant-loop-i : goal.invariant-loop-i
invariant-loop-i l = (k : ℕ) → k < l.i → ends l.part (get_or l.bytes k 0) ≡ false

use Rattle.std.proofs.Common.{◌≡◌, ◌≤◌}
use Rattle.std.specs.Str.{IsCharBoundary}
use Rattle.tokenizer.specs.Whole.{piece}
use Rattle.tokenizer.proofs.raw.past_all.Given as goal

-- the characters so far stand there
abbrev pub invariant-loop-c : goal.invariant-loop-c
invariant-loop-c l = IsCharBoundary l.text l.to × (l.from ≤ l.to) × (piece l.text l.from l.to ≡ l.yielded)

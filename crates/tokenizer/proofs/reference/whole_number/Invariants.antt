use Rattle.std.proofs.Common.{◌-◌, ◌<◌, length}
use Rattle.std.specs.Str.{IsCharBoundary}
use Rattle.tokenizer.specs.Reference.{Counts}
use Rattle.tokenizer.specs.Whole.{piece}
use Rattle.tokenizer.proofs.reference.whole_number.Given as goal

-- what was read is the number so far
abbrev pub invariant-loop-c : goal.invariant-loop-c
invariant-loop-c l = record {
  boundary : IsCharBoundary l.text l.at;
  onward : l.from < l.at;
  counts : Counts l.hexadecimal (piece l.text l.from l.at) l.code;
}

abbrev pub decreases-loop-c : goal.decreases-loop-c
decreases-loop-c l = length l.text - l.at

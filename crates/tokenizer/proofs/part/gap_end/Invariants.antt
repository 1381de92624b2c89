use Rattle.std.proofs.Common.{◌≡◌, ◌-◌, ◌≤◌, true, length}
use Rattle.std.specs.Str.{IsCharBoundary}
use Rattle.tokenizer.specs.declared.part.Part.TheVariants as part
use Rattle.tokenizer.specs.Whole.{all_of, piece}
use Rattle.tokenizer.proofs.part.gap_end.Given as goal

-- so far all is white space
abbrev pub invariant-loop-c : goal.invariant-loop-c
invariant-loop-c l = record {
  boundary : IsCharBoundary l.text l.at;
  onward : l.from ≤ l.at;
  all : all_of part.Gap (piece l.text l.from l.at) ≡ true;
}

abbrev pub decreases-loop-c : goal.decreases-loop-c
decreases-loop-c l = length l.text - l.at

use Rattle.std.proofs.Common.{◌-◌, ◌≤◌, length}
use Rattle.std.specs.Str.{IsCharBoundary}
use Rattle.tokenizer.specs.Whole.{piece, Reads}
use Rattle.tokenizer.proofs.whole.value_from.Given as goal

-- what was read is the value so far
abbrev pub invariant-loop-value : goal.invariant-loop-value
invariant-loop-value l = record {
  boundary : IsCharBoundary l.text l.end;
  onward : l.from ≤ l.end;
  reads : Reads l.table l.quoting (piece l.text l.from l.end) l.value;
}

abbrev pub decreases-loop-value : goal.decreases-loop-value
decreases-loop-value l = length l.text - l.end

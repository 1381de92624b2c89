use Rattle.std.proofs.Common.{◌-◌, ◌≤◌, length}
use Rattle.std.specs.Str.{IsCharBoundary}
use Rattle.tokenizer.specs.Comments.{Continues}
use Rattle.tokenizer.specs.Whole.{piece}
use Rattle.tokenizer.proofs.comment.inside_end.Given as goal

-- the comment gets what was read so far
abbrev pub invariant-loop-next : goal.invariant-loop-next
invariant-loop-next l = record {
  boundary : IsCharBoundary l.text l.at;
  onward : l.from ≤ l.at;
  inside : Continues (piece l.text l.from l.at);
}

abbrev pub decreases-loop-next : goal.decreases-loop-next
decreases-loop-next l = length l.text - l.at

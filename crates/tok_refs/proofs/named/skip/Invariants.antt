use Rattle.std.specs.Str.Iter.{chars_rest}
use Rattle.tok_refs.proofs.Skipping.{IsBehind}
use Rattle.tok_refs.proofs.named.skip.Given as goal

abbrev pub invariant-loop-skipped : goal.invariant-loop-skipped
invariant-loop-skipped l = IsBehind l.text (chars_rest l.rest) l._skipped

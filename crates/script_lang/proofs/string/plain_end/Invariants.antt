use Rattle.script_lang.proofs.PlainStrings.{NoneBefore}
use Rattle.script_lang.proofs.string.plain_end.Given as goal

abbrev pub invariant-loop-place : goal.invariant-loop-place
invariant-loop-place l = NoneBefore l.byte-items l.place

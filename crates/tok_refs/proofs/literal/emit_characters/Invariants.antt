use Rattle.std.proofs.Common.{◌≡◌, ◌++◌, map}
use Rattle.html_types.specs.declared.token.Token.TheVariants.{Character}
use Rattle.tok_refs.proofs.literal.emit_characters.Given as goal

abbrev pub invariant-loop-c : goal.invariant-loop-c
invariant-loop-c l = l.out ≡ l.initial.out ++ map Character l.yielded

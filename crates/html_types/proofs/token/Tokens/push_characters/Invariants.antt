use Rattle.std.proofs.Common.{◌≡◌, ◌++◌, map}
use Rattle.html_types.specs.declared.token.Token.TheVariants.{Character}
use Rattle.html_types.proofs.token.Tokens.push_characters.Given as goal

abbrev pub invariant-loop-c : goal.invariant-loop-c
invariant-loop-c l = l.self ≡ l.initial.self ++ map Character l.yielded

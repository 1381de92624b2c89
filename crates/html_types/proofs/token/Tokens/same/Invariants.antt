use Rattle.std.proofs.Common.{◌≡◌, take}
use Rattle.html_types.proofs.token.Tokens.same.Given as goal

abbrev pub invariant-loop-i : goal.invariant-loop-i
invariant-loop-i l = take l.i l.self ≡ take l.i l.other

use Rattle.std.proofs.Common.{◌≡◌, map}
use Rattle.std.specs.Char.{to_ascii_lowercase}
use Rattle.html_types.proofs.text.Text.lower.Given as goal

abbrev pub invariant-loop-c : goal.invariant-loop-c
invariant-loop-c l = l.lower ≡ map to_ascii_lowercase l.yielded

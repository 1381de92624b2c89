use Rattle.std.proofs.Common.{◌≡◌, ◌+◌, ◌-◌, ◌<◌, ◌≤◌, length, drop}
use Rattle.standard.specs.Class.{first_mark}
use Rattle.char_class.proofs.mark.first_mark.Given as goal

-- what was passed has no mark
abbrev pub invariant-windows : goal.invariant-windows
invariant-windows l = (l.passed ≤ length l.bytes) × (0 < l.window) × (first_mark l.bytes ≡ l.passed + first_mark (drop l.passed l.bytes))

abbrev pub decreases-windows : goal.decreases-windows
decreases-windows l = length l.bytes - l.passed

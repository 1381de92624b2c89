use Rattle.std.proofs.Common.{◌≡◌, take}
use Rattle.html_types.proofs.open.Modes.copy.Given as goal

abbrev pub invariant-loop-mode : goal.invariant-loop-mode
invariant-loop-mode l = l.items.items ≡ take l.mode-index l.mode-items

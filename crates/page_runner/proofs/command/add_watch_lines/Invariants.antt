use Rattle.std.proofs.Common.{◌≡◌, ◌++◌, ℕ, List}
use Rattle.std.specs.List.{All}
use Rattle.page_runner.specs.Manner.{watch_lines}
use Rattle.page_runner.proofs.command.add_watch_lines.Given as goal

-- the lines of those that are passed were added
abbrev pub invariant-loop-i : goal.invariant-loop-i
invariant-loop-i l = record { added : (t : List ℕ) → All (λ s. s.text ≡ t) l.seen → l.text.items ≡ l.initial.text.items ++ watch_lines l.i t }

use Rattle.std.proofs.Common.{◌≡◌}
use Rattle.page_runner.proofs.watchers.watch_on.Given as goal

-- it stays a watcher of its board
abbrev pub invariant-loop : goal.invariant-loop
invariant-loop g l = record { table : l.watcher.table ≡ l.initial.watcher.table }

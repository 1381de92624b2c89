-- What a watcher's thread gives back.
use Rattle.std.specs.Prelude.{◌≡◌, List, Option, None, All, IfSome}
use Rattle.atomic_table.specs.Seated.{TableId}
use Rattle.tree_watch.specs.declared.watcher.Seen.{Seen}
use Rattle.tree_watch.specs.Boards.{WatcherView, IsNew}
use Rattle.tree_watch.specs.Rule.{latest}
use Rattle.tree_watch.specs.Seeing.{IsSeen}
use Rattle.page_runner.specs.declared.watchers.Parting.{Parting}
use Rattle.page_runner.specs.declared.watchers.Parting.TheVariants as parting

abbrev pub AreOfBoard : TableId → List WatcherView → Type 0
AreOfBoard table watchers = All (IsNew table) watchers

abbrev pub watcher_in : Parting → WatcherView
watcher_in (parting.Done w seen) = w
watcher_in (parting.Unused w) = w

abbrev pub seen_in : Parting → Option Seen
seen_in (parting.Done w seen) = seen
seen_in (parting.Unused w) = None

-- The parting is of a watcher of the board at that table, and what it saw is so.
pub record Parted (table : TableId) (p : Parting) : Type 0 where
  pub same : (watcher_in p).table ≡ table
  pub seen : IfSome (seen_in p) (λ s. IsSeen s (latest (watcher_in p).seen))

abbrev pub table_in : Parting → TableId
table_in p = (watcher_in p).table

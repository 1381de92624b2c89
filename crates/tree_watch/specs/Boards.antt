-- What contracts see of a board and of a watcher.
use Rattle.std.specs.Prelude.{◌≡◌, ◌≤◌, Bool, true, false, ◌⊎◌, List, [], ◌∷◌, ◌++◌, fold}
use Rattle.atomic_table.specs.Seated.{TableId}
use Rattle.tree_watch.specs.declared.shown.Note.{Note}
use Rattle.tree_watch.specs.declared.shown.Stand.{Stand}
use Rattle.tree_watch.specs.Notes.{noted, start, mark, AreChanges}
use Rattle.tree_watch.specs.Rule.{Log, StartsWith, latest}

-- what was published last, and all that was, in turn; what was noted since then; whether nothing
-- more is published
pub record BoardView : Type 0 where
  pub table : TableId
  pub stand : Stand
  pub published : Log
  pub pending : List Note
  pub over : Bool

-- it alone publishes, it is open, and has no mark before it is over
pub record IsOpen (leads : Bool) (stand : Stand) (published : Log) (pending : List Note) (over : Bool) : Type 0 where
  pub alone : leads ≡ true
  pub stands : stand ≡ latest published
  pub opened : stand.opened ≡ true
  pub unmarked : over ≡ false → stand.last ≡ false
  pub changes : over ≡ false → AreChanges pending

abbrev pub begun : Stand
begun = record start { opened = true }

-- it was opened over the empty document
abbrev pub Begins : BoardView → Type 0
Begins b = b ≡ record b { stand = begun; published = begun ∷ []; pending = []; over = false }

-- what was noted is published, with the mark or without it
pub record HasPublished (last : Bool) (old new : BoardView) : Type 0 where
  pub stand : new.stand ≡ fold noted old.stand (old.pending ++ mark last)
  pub published : new.published ≡ old.published ++ new.stand ∷ []
  pub pending : new.pending ≡ []

-- nothing is published; where the mark was asked for, it may be noted
pub record HasNotPublished (last : Bool) (old new : BoardView) : Type 0 where
  pub stand : new.stand ≡ old.stand
  pub published : new.published ≡ old.published
  pub pending : last ≡ false → new.pending ≡ old.pending

-- what was published when the board told it
pub record ToldView : Type 0 where
  pub table : TableId
  pub published : Log

-- what the watcher has seen published, and what it was told of
pub record WatcherView : Type 0 where
  pub table : TableId
  pub seen : Log
  pub told : Log

-- a watcher of that board that hasn't looked yet
abbrev pub IsNew : TableId → WatcherView → Type 0
IsNew table w = w ≡ record { table = table; seen = []; told = [] }

-- The watcher has looked: what it sees now is what it saw before or is later, and no earlier than
-- what it was told of.
pub record HasLooked (old new : WatcherView) : Type 0 where
  pub seen : StartsWith new.seen old.seen
  pub told : StartsWith new.seen old.told
  pub no_fewer : (latest old.seen).changes ≤ (latest new.seen).changes
  pub no_fewer_than_told : (latest old.told).changes ≤ (latest new.seen).changes

-- Of what the watcher has seen and what it was told of, one begins with the other; where both have
-- the mark they are the same.
pub record HasCompared (w : WatcherView) : Type 0 where
  pub alike : StartsWith w.seen w.told ⊎ StartsWith w.told w.seen
  pub marked : (latest w.seen).last ≡ true → (latest w.told).last ≡ true → w.seen ≡ w.told

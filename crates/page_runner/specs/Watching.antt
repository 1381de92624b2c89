-- The board of a run, its watchers, and what they saw.
use Rattle.std.specs.Prelude.{◌≡◌, ◌≢◌, ℕ, Bool, false, length, List, [], ◌∷◌, ◌++◌, map, drop, fold, Option, Some, None, All, IfSome, IsTrue}
use Rattle.atomic_table.specs.Seated.{TableId}
use Rattle.outside.specs.Outside.{Seen as Outside}
use Rattle.standard.specs.Act.{Doc}
use Rattle.doc_changes.specs.declared.change.Change.{Change}
use Rattle.core_steps.specs.Sides.{Shown}
use Rattle.tree_watch.specs.declared.shown.Stand.{Stand}
use Rattle.tree_watch.specs.declared.shown.Note.TheVariants.{Did}
use Rattle.tree_watch.specs.declared.watcher.Seen.{Seen}
use Rattle.tree_watch.specs.Boards.{BoardView, begun}
use Rattle.tree_watch.specs.Notes.{noted}
use Rattle.tree_watch.specs.Rule.{Log, latest}
use Rattle.page_turns.specs.Watched.{Grown, ungrown, RunMade, WereLast, WasTold}
use Rattle.page_runner.specs.declared.status.Status.{Status}
use Rattle.page_runner.specs.declared.status.Status.TheVariants as status
use Rattle.page_runner.specs.declared.watchers.Post.{Post}
use Rattle.page_runner.specs.declared.watchers.Post.TheVariants as post
use Rattle.page_runner.specs.Answers.{is_answered}

-- ---- the watchers

-- the board's table, of which the watcher at the post is
abbrev pub table_at : Post → TableId
table_at (post.There child) = child.promise.watcher.value.table
table_at (post.Here w) = w.table

abbrev pub AreAtPosts : TableId → List Post → Type 0
AreAtPosts table posts = All (λ p. table_at p ≡ table) posts

-- ---- the board, while the page is parsed

-- the board, where there is one, until the run is over, and how many watch
pub record Watched : Type 0 where
  pub board : Option BoardView
  pub count : ℕ

abbrev pub doc_on : BoardView → Grown
doc_on b = record { doc = b.stand.doc; count = b.stand.changes }

-- behind the empty one
abbrev pub shown_on : BoardView → List Doc
shown_on b = map (λ (s : Stand). s.doc) (drop 1 b.published)

abbrev pub doc_of : Option BoardView → Grown
doc_of None = ungrown
doc_of (Some b) = doc_on b

abbrev pub shown_of : Option BoardView → List Doc
shown_of None = []
shown_of (Some b) = shown_on b

pub record IsShowing (b : BoardView) : Type 0 where
  pub going : b.over ≡ false
  pub first : (rest : Log) × (b.published ≡ begun ∷ rest)
  pub stands : b.stand ≡ latest b.published

-- All that was noted is shown, unless memory ran out, and the watchers are the board's own.
pub record IsAtWork (failed : Bool) (posts : List Post) (b : BoardView) : Type 0 where
  pub showing : IsShowing b
  pub noted_all : failed ≡ false → b.pending ≡ []
  pub posted : AreAtPosts b.table posts

abbrev pub IsWatching : Option BoardView → Bool → List Post → Type 0
IsWatching board failed posts = IfSome board (IsAtWork failed posts)

-- The changes were noted behind those before, and all were published.
pub record HasShown (old : BoardView) (changes : List Change) (new : BoardView) : Type 0 where
  pub over : new.over ≡ false
  pub table : new.table ≡ old.table
  pub stand : new.stand ≡ fold noted old.stand (old.pending ++ map Did changes)
  pub published : new.published ≡ old.published ++ new.stand ∷ []
  pub pending : new.pending ≡ []

-- All is as it was that is published.
pub record HasKept (old new : BoardView) : Type 0 where
  pub over : new.over ≡ false
  pub table : new.table ≡ old.table
  pub stand : new.stand ≡ old.stand
  pub published : new.published ≡ old.published

-- the same of a board that may not be there
pub record IsShownFrom (board : Option BoardView) (failed : Bool) (changes : List Change) (now : Option BoardView) : Type 0 where
  pub old : BoardView
  pub new : BoardView
  pub there : board ≡ Some old
  pub here : now ≡ Some new
  pub going : failed ≡ false
  pub shown : HasShown old changes new

abbrev pub IsLeftFrom : Option BoardView → Option BoardView → Type 0
IsLeftFrom None now = now ≡ None
IsLeftFrom (Some old) now = (new : BoardView) × (now ≡ Some new) × HasKept old new

-- ---- what is reported of it

-- What the watchers saw last, with the mark, is a document that the run passed through, and as its number that of the changes which the run made up to
-- there, each of them once: it is the document after the journal's events, or after those before the last, a Do; where the parse came to
-- an end, it is the document, and the changes are all. All saw it, or memory ran out.
pub record IsWatched (s : Shown) (outcome : Status) (count : ℕ) (seen : List Seen) : Type 0 where
  pub doc : Doc
  pub changes : List Change
  pub were_last : WereLast s changes doc seen
  pub told : WasTold s changes doc
  pub ended : IsTrue (is_answered outcome) → RunMade s changes × (doc ≡ s.desk.own.side.doc)
  pub all : outcome ≢ status.NoMemory → length seen ≡ count

-- memory ran out before anything was done
abbrev pub IsLeftAlone : Outside → Outside → Option (List ℕ) → Option (List ℕ) → Status → Type 0
IsLeftAlone before after taken taken' outcome = (after ≡ before) × (taken' ≡ taken) × (outcome ≡ status.NoMemory)

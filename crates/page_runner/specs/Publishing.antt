-- What a publisher is told, what it is to show then, and what it gives back.
use Rattle.std.specs.Prelude.{◌≡◌, ℕ, ◌≤◌, Bool, List, [], ◌∷◌, ◌++◌, fold, length, IsTrue}
use Rattle.atomic_table.specs.Seated.{TableId}
use Rattle.standard.specs.Act.{Doc}
use Rattle.doc_changes.specs.Changes.{changed}
use Rattle.page_turns.specs.Watched.{Grown, ungrown, grown_by, shown_with, AreLast}
use Rattle.page_runner.specs.declared.publisher.ToPublisher.{ToPublisher}
use Rattle.page_runner.specs.declared.publisher.ToPublisher.TheVariants.{Did, End}
use Rattle.page_runner.specs.declared.publisher.Published.{Published}
use Rattle.page_runner.specs.declared.publisher.Seat.{Seat}
use Rattle.page_runner.specs.declared.publisher.Seat.TheVariants.{There, Here, Ended}
use Rattle.page_runner.specs.Watching.{doc_of, shown_of}

-- a document with the number of its changes, and the documents that were to be shown, in turn
pub record Shows : Type 0 where
  pub doc : Grown
  pub shown : List Doc

abbrev pub shows : Grown → List Doc → Shows
shows doc shown = record { doc = doc; shown = shown }

abbrev pub shows_with : Shows → ToPublisher → Shows
shows_with s (Did changes) =
    shows (grown_by s.doc changes.items)
    (shown_with changes.items s.shown (fold changed s.doc.doc changes.items))
shows_with s End = s

-- behind all that was told
abbrev pub shows_behind : List ToPublisher → Shows
shows_behind words = fold shows_with (shows ungrown []) words

-- the end wasn't told yet
abbrev pub AreDid : List ToPublisher → Type 0
AreDid [] = Unit {0}
AreDid (Did changes ∷ words) = AreDid words
AreDid (End ∷ words) = ⊥

-- What is shown is what stands behind a front of the words: behind all of them, unless memory ran out.
pub record ShowsFront (words : List ToPublisher) (all : Bool) (now : Shows) : Type 0 where
  pub front : List ToPublisher
  pub rest : List ToPublisher
  pub is : words ≡ front ++ rest
  pub passed : now ≡ shows_behind front
  pub whole : IsTrue all → rest ≡ []

-- All was taken, to the end, and nothing is shown that doesn't stand behind a front of it.
pub record HasFollowed (taken : List ToPublisher) (all : Bool) (now : Shows) : Type 0 where
  pub words : List ToPublisher
  pub ended : taken ≡ words ++ End ∷ []
  pub shown : ShowsFront words all now

-- All was taken, to the end, and what was seen last is the document behind it.
pub record IsPublished (lane : TableId) (watchers : ℕ) (p : Published) : Type 0 where
  pub same : p.told.lane ≡ lane
  pub words : List ToPublisher
  pub ended : p.told.taken ≡ words ++ End ∷ []
  pub last : AreLast (shows_behind words).doc p.seen.items
  pub count : IsTrue p.all → length p.seen.items ≡ watchers
  pub few : length p.seen.items ≤ watchers

-- ---- a publisher, as the document's thread has it

-- what a contract sees of it
pub record Handed : Type 0 where
  pub shows : Shows
  pub count : ℕ

module _ {R : Type 0} where
  abbrev pub shows_of : Seat R → Shows
  shows_of (There put child) = shows_behind put.put
  shows_of (Here w) = shows (doc_of w.board) (shown_of w.board)
  shows_of Ended = shows ungrown []

  -- It is at the other end of the lane, for so many who watch.
  abbrev pub IsSeated : ℕ → Seat R → Type 0
  IsSeated watchers (There put child) =
      (child.promise.told.value.lane ≡ put.lane) × (child.promise.count.value ≡ watchers) × AreDid put.put
  IsSeated watchers (Here w) = w.count ≡ watchers
  IsSeated watchers Ended = Unit {0}

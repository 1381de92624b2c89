-- What the board is told, note by note: that it is open, a change, or that it was the last.
use Rattle.std.specs.Prelude.{ℕ, ◌+◌, Bool, true, false, List, [], ◌∷◌}
use Rattle.standard.specs.Act.{new_doc}
use Rattle.doc_changes.specs.declared.change.Change.{Change}
use Rattle.doc_changes.specs.Changes.{changed, weight}
use Rattle.tree_watch.specs.declared.shown.Note.{Note}
use Rattle.tree_watch.specs.declared.shown.Note.TheVariants.{Opened, Did, Last}
use Rattle.tree_watch.specs.declared.shown.Stand.{Stand}

abbrev pub noted : Stand → Note → Stand
noted s Opened = record s { opened = true }
noted s (Did c) = record s { doc = changed s.doc c; changes = s.changes + weight c }
noted s Last = record s { last = true }

abbrev pub start : Stand
start = record { doc = new_doc; changes = 0; opened = false; last = false }

-- the note of the mark, where it is set
abbrev pub mark : Bool → List Note
mark false = []
mark true = Last ∷ []

-- changes alone
abbrev pub AreChanges : List Note → Type 0
AreChanges [] = Unit {0}
AreChanges (Opened ∷ notes) = ⊥
AreChanges (Did c ∷ notes) = AreChanges notes
AreChanges (Last ∷ notes) = ⊥

-- Which changes lead to what was published.
use Rattle.std.specs.Prelude.{◌≡◌, ℕ, List, fold, map}
use Rattle.standard.specs.Act.{new_doc}
use Rattle.doc_changes.specs.declared.change.Change.{Change}
use Rattle.doc_changes.specs.Changes.{changed, counted}
use Rattle.tree_watch.specs.declared.shown.Stand.{Stand}

-- it is the document after those changes, and counts as many
pub record IsAfter (changes : List Change) (s : Stand) : Type 0 where
  pub doc : s.doc ≡ fold changed new_doc changes
  pub count : s.changes ≡ counted changes

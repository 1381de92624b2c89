-- What changes a document, change by change.
use Rattle.std.specs.Prelude.{◌≡◌, ℕ, List, [], ◌∷◌, ◌++◌, length, map, flat_map, fold, take, None}
use Rattle.standard.specs.Tree.{detached, moved}
use Rattle.standard.specs.Act.{Doc, new_doc, acts}
use Rattle.standard.specs.Fragment.{filled}
use Rattle.doc_changes.specs.Fragments.{FragmentView}
use Rattle.doc_changes.specs.declared.change.Change.{Change}
use Rattle.doc_changes.specs.declared.change.Change.TheVariants.{Did, Removed, Moved, Filled}

-- the operations of a batch, or what a script did: the removal of a node, a move of the second
-- behind the first one's children, a fragment in the place of a node's children
abbrev pub changed : Doc → Change → Doc
changed d (Did ops) = acts d ops
changed d (Removed node) = record d { tree = detached d.tree node }
changed d (Moved first second) = record d { tree = moved d.tree second first None }
changed d (Filled target fragment) = record d { tree = filled d.tree target fragment.form fragment.ops }

-- as how many a change counts: a batch as each of its operations, in which an insertion of text is
-- that of each of its characters
abbrev pub weight : Change → ℕ
weight (Did ops) = length ops
weight _ = 1

-- the same change as so many
abbrev pub single : Change → List Change
single (Did ops) = map (λ o. Did (o ∷ [])) ops
single change = change ∷ []

abbrev pub singles : List Change → List Change
singles = flat_map single

-- the document after the first n changes of a run from the empty one
abbrev pub after : List Change → ℕ → Doc
after changes n = fold changed new_doc (take n (singles changes))

-- as how many a list of changes counts
abbrev pub counted : List Change → ℕ
counted changes = length (singles changes)

-- What a watcher's answer says of what it saw.
use Rattle.std.specs.Prelude.{◌≡◌}
use Rattle.standard.specs.Outer.{document_text}
use Rattle.tree_watch.specs.declared.shown.Stand.{Stand}
use Rattle.tree_watch.specs.declared.watcher.Seen.{Seen}
use Rattle.tree_watch.specs.declared.watcher.Glance.{Glance}

pub record IsGlance (g : Glance) (x : Stand) : Type 0 where
  pub changes : g.changes ≡ x.changes
  pub last : g.last ≡ x.last

pub record IsSeen (s : Seen) (x : Stand) : Type 0 where
  pub changes : s.changes ≡ x.changes
  pub last : s.last ≡ x.last
  pub text : s.text ≡ document_text x.doc.tree

-- The entries that lists share.
use Rattle.std.specs.Prelude.{List, [], Option, Some, None}
use Rattle.std.specs.Global.{Global, Vec}
use Rattle.std.specs.Arc.{arc_value}
use Rattle.std.specs.declared.sync.Arc.{Arc}

module _ {T : Type 0} where
  -- the entries that are shared
  abbrev pub shared_items : Option (Arc (Vec T) Global) → List T
  shared_items None = []
  shared_items (Some shared) = (arc_value shared).items

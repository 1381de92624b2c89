use Rattle.std.proofs.Common.{◌≡◌, drop}
use Rattle.std.specs.Str.{chars}
use Rattle.standard.specs.Tree.{attribute}
use Rattle.text_store.proofs.listed.value_in.Given as goal

-- no attribute that is passed has the name
abbrev pub invariant-loop-attribute : goal.invariant-loop-attribute
invariant-loop-attribute l = attribute (chars l.name) l.fn.attributes ≡ attribute (chars l.name) (drop l.attribute-index l.attributes)

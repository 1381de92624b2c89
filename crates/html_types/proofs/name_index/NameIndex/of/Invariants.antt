use Rattle.std.proofs.Common.{take}
use Rattle.html_types.specs.Attributes.{has_name, Finds}
use Rattle.html_types.proofs.name_index.NameIndex.of.Given as goal

-- the names so far
abbrev pub invariant-loop-attribute : goal.invariant-loop-attribute
invariant-loop-attribute l = Finds l.index.names (λ name. has_name name (take l.attribute-index l.list))

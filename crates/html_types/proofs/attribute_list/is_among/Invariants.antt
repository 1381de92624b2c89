use Rattle.std.proofs.Common.{◌≡◌, drop}
use Rattle.html_types.specs.Attributes.{has_name}
use Rattle.html_types.proofs.attribute_list.is_among.Given as goal

abbrev pub invariant-loop-attribute : goal.invariant-loop-attribute
invariant-loop-attribute l = has_name l.name l.list ≡ has_name l.name (drop l.attribute-index l.list)

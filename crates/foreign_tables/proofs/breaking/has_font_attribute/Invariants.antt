use Rattle.std.proofs.Common.{◌≡◌, drop}
use Rattle.std.specs.List.{list_any}
use Rattle.standard.specs.Foreign.{is_font_attribute}
use Rattle.foreign_tables.proofs.breaking.has_font_attribute.Given as goal

-- none that is passed is one of them
abbrev pub invariant-loop-attribute : goal.invariant-loop-attribute
invariant-loop-attribute l = list_any is_font_attribute l.fn.attributes ≡ list_any is_font_attribute (drop l.attribute-index l.attributes)

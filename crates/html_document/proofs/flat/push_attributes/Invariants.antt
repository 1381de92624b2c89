use Rattle.std.proofs.Common.{take}
use Rattle.html_document.specs.Flat.{AttributesAdded}
use Rattle.html_document.proofs.flat.push_attributes.Given as goal

-- those so far
abbrev pub invariant-loop-index : goal.invariant-loop-index
invariant-loop-index l = AttributesAdded l.fn.attributes.items l.fn.text.items (take l.index l.added) l.attributes.items l.text.items

use Rattle.std.proofs.Common.{◌≡◌, take}
use Rattle.text_store.proofs.listed.Listed.to_attributes.Given as goal

abbrev pub invariant-loop-index : goal.invariant-loop-index
invariant-loop-index l = l.attributes ≡ take l.index l.fn.self

use Rattle.std.proofs.Common.{◌≡◌, take, drop, length}
use Rattle.html_types.specs.Attributes.{with_missing}
use Rattle.html_types.proofs.attribute_list.AttributeList.add_all.Given as goal

-- those that are left, added to what is there, make the whole, in which what was there comes first
abbrev pub invariant-loop-attribute : goal.invariant-loop-attribute
invariant-loop-attribute l = record {
  whole : with_missing l.self (drop l.attribute-index l.more) ≡ with_missing l.initial.self l.more;
  front : take (length l.initial.self) l.self ≡ l.initial.self;
}

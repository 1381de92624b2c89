use Rattle.std.proofs.Common.{◌-◌, ◌<◌, length}
use Rattle.std.specs.Str.{IsCharBoundary}
use Rattle.tokenizer.specs.Whole.{piece, Leads}
use Rattle.tokenizer.proofs.whole.tag_at.Given as goal

-- what was read is the tag with the attributes so far
abbrev pub invariant-attributes : goal.invariant-attributes
invariant-attributes l = record {
  boundary : IsCharBoundary l.text l.gap.at;
  onward : l.from < l.gap.at;
  leads : Leads l.table l.gap.behind (piece l.text l.from l.gap.at) (record { kind = l.head.kind; name = piece l.text l.head.name l.to; attributes = l.attributes });
}

abbrev pub decreases-attributes : goal.decreases-attributes
decreases-attributes l = length l.text - l.gap.at

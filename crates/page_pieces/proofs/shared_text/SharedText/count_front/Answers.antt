use Rattle.std.proofs.Common.{rules, ap, length}
use Rattle.std.specs.String.{string_bytes}
use Rattle.std.specs.Arc.{arc_value}
use Rattle.std.proofs.lemmas.Str.{IsUtf8-string_bytes, chars_from_encodes}
use Rattle.page_pieces.proofs.Parts.{ascii-count_front, read-boundary, read-front}
use Rattle.page_pieces.proofs.shared_text.SharedText.count_front.Goals as goal

pub returns-then-self : goal.returns-then-self
returns-then-self c =
    let i = c.self.inside in
    let h = rw (← c.self.view_is) at c.requires in
    rw (← c.self.view_is) (ascii-count_front (string_bytes (arc_value i.whole)) i.begin i.end c.args.bytes (IsUtf8-string_bytes (arc_value i.whole)) c.self.invariant.0 h (c.self.invariant.1 c.if-self.true))

pub range-requires-clause-end_boundary : goal.range-requires-clause-end_boundary
range-requires-clause-end_boundary c = read-boundary c.as_str.result.now c.args.self.now c.args.bytes c.as_str.ensures c.as_str.utf8 c.requires

pub returns : goal.returns
returns c =
    rw (← ap length (read-front c.as_str.result.now c.args.self.now c.args.bytes c.as_str.ensures c.as_str.utf8))
    (search (rules, chars_from_encodes))

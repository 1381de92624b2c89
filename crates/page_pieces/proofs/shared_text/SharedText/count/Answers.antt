use Rattle.std.proofs.Common.{rules}
use Rattle.std.specs.String.{string_bytes}
use Rattle.std.specs.Arc.{arc_value}
use Rattle.std.proofs.lemmas.Str.{IsUtf8-string_bytes, chars_from_encodes}
use Rattle.page_pieces.proofs.Parts.{ascii-count}
use Rattle.page_pieces.proofs.shared_text.SharedText.count.Goals as goal

pub returns-then-self : goal.returns-then-self
returns-then-self c =
    let i = c.self.inside in
    rw (← c.self.view_is) (ascii-count (string_bytes (arc_value i.whole)) i.begin i.end 0 (IsUtf8-string_bytes (arc_value i.whole)) c.self.invariant.0 (c.self.invariant.1 c.if-self.true))

pub returns : goal.returns
returns c = rw (← c.as_str.ensures) (search (rules, chars_from_encodes))

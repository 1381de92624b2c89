use Rattle.std.proofs.Common.{arith}
use Rattle.std.specs.String.{string_bytes}
use Rattle.std.specs.Arc.{arc_value}
use Rattle.std.proofs.lemmas.Str.{IsUtf8-string_bytes}
use Rattle.page_pieces.proofs.Parts.{onward, front-place, fronted}
use Rattle.page_pieces.proofs.shared_text.SharedText.front.Goals as goal

pub overflow_add-result : goal.overflow_add-result
overflow_add-result c =
    let i = c.self.inside in
    let h = rw (← c.self.view_is) at c.requires in
    let n = onward (string_bytes (arc_value i.whole)) i.begin i.end c.args.bytes (IsUtf8-string_bytes (arc_value i.whole)) c.self.invariant.0 h in
    omega (arith, n)

pub invariant_of-result : goal.invariant_of-result
invariant_of-result c =
    let i = c.self.inside in
    let h = rw (← c.self.view_is) at c.requires in
    rw c.in_ok-whole.ensures
    (front-place (string_bytes (arc_value i.whole)) i.begin i.end c.args.bytes (IsUtf8-string_bytes (arc_value i.whole)) c.self.invariant.0 h, c.self.invariant.1)

pub returns : goal.returns
returns c =
    let i = c.self.inside in
    let h = rw (← c.self.view_is) at c.requires in
    rw (← c.self.view_is, c.in_ok-whole.ensures) (fronted (string_bytes (arc_value i.whole)) i.begin i.end c.args.bytes (IsUtf8-string_bytes (arc_value i.whole)) c.self.invariant.0 h)

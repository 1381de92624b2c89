use Rattle.std.proofs.Common.{◌≡◌, ◌∙◌, ap, length, arith}
use Rattle.std.specs.Str.{chars}
use Rattle.core_definitions.specs.Batches.{Piece}
use Rattle.thread_tests.proofs.lanes.request_of.Goals as goal

pub new-requires : goal.new-requires
new-requires c =
    let e : c.new-piece.result.text ≡ c.args.text.now =
    ap (λ (p : Piece). p.text) c.new-piece.ensures ∙ (c.in_ok-whole.ensures ∙ (ap chars c.in_ok-string.ensures.ok ∙ c.as_str.ensures)) in
    omega (arith, ap length e, c.len-length.ensures, c.if-length-gt100.false)

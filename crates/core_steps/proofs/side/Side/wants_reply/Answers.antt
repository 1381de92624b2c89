use Rattle.std.proofs.Common.{◌≡◌, ◌-◌, Bool, nat_lt, sym, ap, ◌∙◌}
use Rattle.std.specs.Prelude.{◌&&◌, is_none}
use Rattle.core_definitions.specs.Batches.{Piece}
use Rattle.core_definitions.specs.Settling.{is_empty}
use Rattle.core_steps.proofs.Events.{wants-free}
use Rattle.core_steps.proofs.side.Side.wants_reply.Goals as goal

pub returns-then-is_blank : goal.returns-then-is_blank
returns-then-is_blank c =
    let k = c.args.self.now.ledger in
    ap (nat_lt 0) c.outstanding.ensures
    ∙ (sym (ap (λ (b : Bool). b && nat_lt 0 (k.sent - k.taken)) c.if-is_blank.true)
    ∙ wants-free c.args.self.now c.is_blank.result c.in-Free.is (c.is_blank.ensures ∙ ap (λ (x : Piece). is_empty x.text && is_none x.ending) c.left.ensures))

pub returns-else-is_blank : goal.returns-else-is_blank
returns-else-is_blank c =
    let k = c.args.self.now.ledger in
    c.if-is_blank.false
    ∙ (sym (ap (λ (b : Bool). b && nat_lt 0 (k.sent - k.taken)) c.if-is_blank.false)
    ∙ wants-free c.args.self.now c.is_blank.result c.in-Free.is (c.is_blank.ensures ∙ ap (λ (x : Piece). is_empty x.text && is_none x.ending) c.left.ensures))

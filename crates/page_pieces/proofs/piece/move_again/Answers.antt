use Rattle.std.proofs.Common.{◌++◌, sym, ap, ◌∙◌, arith}
use Rattle.core_definitions.specs.Desk.{sent_again}
use Rattle.page_pieces.proofs.Again.{again-blank, again-put}
use Rattle.page_pieces.proofs.piece.move_again.Goals as goal

pub pieces-preserved-then-not-is_blank : goal.pieces-preserved-then-not-is_blank
pieces-preserved-then-not-is_blank c = (
  ap (λ l. sent_again c.pop_back.new.self.items ++ l) c.push_front_reserved.ensures.items
      ∙ again-put c.pop_back.new.self.items c.pieces.sent.items c.in-Some.piece c.pieces.others.items (sent_again c.args.sent.now.items ++ c.args.others.now.items) c.in-Some.ensures.items
      (sym c.is_blank.ensures ∙ c.if-not-is_blank.true) c.pieces.invariant.0,
  omega (arith, c.push_front_reserved.ensures.len, c.push_front_reserved.ensures.capacity, c.in-Some.ensures.cases, c.pieces.invariant.1),
)

pub pieces-preserved : goal.pieces-preserved
pieces-preserved c = (
  again-blank c.pop_back.new.self.items c.pieces.sent.items c.in-Some.piece c.pieces.others.items (sent_again c.args.sent.now.items ++ c.args.others.now.items) c.in-Some.ensures.items
      (sym c.is_blank.ensures ∙ c.if-not-is_blank.false) c.pieces.invariant.0,
  omega (arith, c.in-Some.ensures.cases, c.pieces.invariant.1),
)

use Rattle.std.specs.Prelude.{string_bytes}
use Rattle.std.specs.Str.{chars}
use Rattle.core_steps.specs.Sides.{with_piece}
use Rattle.core_steps.proofs.Kept.{piece-replayed}
use Rattle.core_steps.proofs.DocSides.{kept-behind, kept-refused}
use Rattle.core_steps.proofs.doc_side.DocSide.piece.Goals as goal

pub invariant_of-self : goal.invariant_of-self
invariant_of-self c =
    let i = c.self.inside in
    kept-refused i.side c.piece.new.self c.of.result.value i.could c.could-self-inside.result i.before.value i.spent c.if-self.false c.self.invariant c.of.ensures c.in_err-piece.ensures.stage c.in_err-piece.ensures.journal
    c.could-self-inside.ensures.send c.could-self-inside.ensures.act c.could-self-inside.ensures.take

pub invariant_of-self-2 : goal.invariant_of-self-2
invariant_of-self-2 c =
    let i = c.self.inside in
    kept-behind i.side i.before.value c.piece.new.self c.of.result.value i.spent c.args.self.now (with_piece (chars (string_bytes c.args.text))) c.if-self.false c.self.view_is c.self.invariant c.in_ok-piece.ensures.sound c.in_ok-piece.ensures.shown
    (piece-replayed c.args.self.now (chars (string_bytes c.args.text)) c.requires.no_ending)

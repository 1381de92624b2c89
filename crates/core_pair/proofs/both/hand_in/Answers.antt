use Rattle.std.proofs.Common.{sym, ◌∙◌, ap}
use Rattle.std.specs.Str.{chars}
use Rattle.speculation.specs.Asking.{page_limit}
use Rattle.core_steps.specs.Sides.{Shown, with_piece}
use Rattle.core_pair.specs.Pairs.{with_pieces}
use Rattle.core_pair.proofs.Applying.{pieces-fit}
use Rattle.core_pair.proofs.both.hand_in.Goals as goal

pub pieces-preserved : goal.pieces-preserved
pieces-preserved c =
    let before = c.pieces.doc in
    let after = c.piece.new.self in
    let h = c.pieces.invariant in
    let split = c.in-Some.ensures.cases.0 in
    let read = c.in_ok-piece.ensures.ok ∙ ap (λ t. with_piece t before) (ap chars c.in_ok-text.ensures.ok ∙ c.as_str.ensures) in
    record {
      no_ending = ap (λ (s : Shown). s.journal.ending) read ∙ h.no_ending;
      within = pieces-fit before.journal.pieces after.journal.pieces c.pieces.rest.now c.in-Some.behind.now c.in-Some.first.now page_limit (ap (λ (s : Shown). s.journal.pieces) read) split h.within;
      is = ap (with_pieces c.in-Some.behind.now) read ∙ (sym (ap (λ ts. with_pieces ts before) split) ∙ h.is);
    }

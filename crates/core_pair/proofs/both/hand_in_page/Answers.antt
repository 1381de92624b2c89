use Rattle.std.proofs.Common.{◌∙◌, ap}
use Rattle.core_steps.specs.Sides.{Shown, with_ending}
use Rattle.core_pair.proofs.Beginning.{ending-kept}
use Rattle.core_pair.proofs.both.hand_in_page.Goals as goal

pub end-requires : goal.end-requires
end-requires c = ap (λ (s : Shown). s.journal.ending) c.in_ok-hand_in.ensures ∙ (ending-kept c.args.pieces.now c.args.doc.now ∙ c.requires.no_ending)

pub returns : goal.returns
returns c = c.in_ok-end.ensures.ok ∙ ap (with_ending c.args.ending) c.in_ok-hand_in.ensures

use Rattle.page_maker.proofs.Scripts.{two_scripts}
use Rattle.page_maker.proofs.page.make_scripts.Goals as goal

pub returns : goal.returns
returns c = two_scripts _ _ _ _ _ c.new-scripts.ensures.items c.in_ok-line_break.ensures c.in_ok-comment.ensures c.in_ok-push.ensures.items c.in_ok-push-2.ensures.items

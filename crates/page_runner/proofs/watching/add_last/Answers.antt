use Rattle.std.proofs.Common.{subst, IfSome}
use Rattle.std.specs.Prelude.{is_ok}
use Rattle.tree_watch.specs.Seeing.{IsSeen}
use Rattle.page_runner.proofs.WatchingLemmas.{seen_more}
use Rattle.page_runner.proofs.watching.add_last.Goals as goal

pub returns-in-None : goal.returns-in-None
returns-in-None c x is all = all

pub returns-after-is_ok : goal.returns-after-is_ok
returns-after-is_ok c x is all =
    seen_more (is_ok c.push-added.result) x c.args.seen.now.items c.push-added.new.self.items c.in-Some.last c.push-added.ensures.items (subst (λ o. IfSome o (λ s. IsSeen s x)) c.in-Some.is is) all

use Rattle.std.proofs.Common.{refl, sym, subst, ◌∙◌, IsTrue}
use Rattle.page_runner.specs.declared.publisher.ToPublisher.TheVariants.{Did}
use Rattle.page_runner.proofs.PublishingLemmas.{front_first, front_more}
use Rattle.page_runner.proofs.publisher.follow.Goals as goal

pub loop-init : goal.loop-init
loop-init g c = record { lane = refl; watches = c.requires.watches; count = refl; shown = front_first _ _ _ _ c.requires.begins.0 c.requires.begins.1 c.requires.first }

pub loop-preserved : goal.loop-preserved
loop-preserved g c =
    let h = c.loop.invariant in
    let more = c.show_more-all.ensures in
    record {
      lane = c.in-Did.ensures.lane ∙ h.lane;
      watches = subst IsTrue (sym more.watches) h.watches;
      count = more.count ∙ h.count;
      shown = front_more _ _ (Did c.in-Did.changes) _ _ _ _ h.shown c.in-Did.ensures.taken more.all more.shows more.kept;
    }

pub returns-in-End-clause-followed : goal.returns-in-End-clause-followed
returns-in-End-clause-followed g c =
    let h = c.loop.invariant in
    record { words = c.loop.told.taken; ended = c.end.ensures.1 ∙ c.in-End.ensures.taken; shown = h.shown }

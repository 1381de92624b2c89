use Rattle.std.proofs.Common.{◌≡◌, IsTrue}
use Rattle.page_runner.specs.Publishing.{ShowsFront, shows}
use Rattle.page_runner.proofs.publisher.follow.Given as goal

-- what stands behind a front of what was taken is shown
abbrev pub invariant-loop : goal.invariant-loop
invariant-loop g l = record {
  lane : l.told.lane ≡ l.initial.told.lane;
  watches : IsTrue (g.W.Watch.watches l.watch);
  count : g.W.Watch.count l.watch ≡ g.W.Watch.count l.fn.watch;
  shown : ShowsFront l.told.taken l.all (shows (g.W.Watch.doc l.watch) (g.W.Watch.shown l.watch));
}

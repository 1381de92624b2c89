use Rattle.std.proofs.Common.{◌≡◌}
use Rattle.preload.specs.Fetching.{Serving}
use Rattle.preload.proofs.fetch.fetch_all.Given as goal

abbrev pub invariant-loop : goal.invariant-loop
invariant-loop g l =
    (l.asked.lane ≡ l.initial.asked.lane) × (l.answers.lane ≡ l.initial.answers.lane) × Serving l.dir (g.F.Outside.seen l.initial.helper) (g.F.Outside.seen l.helper) l.asked.taken l.answers.put

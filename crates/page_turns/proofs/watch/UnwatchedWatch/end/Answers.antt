use Rattle.page_turns.proofs.WatchLemmas.{none_seen, few_none}
use Rattle.page_turns.proofs.watch.UnwatchedWatch.end.Goals as goal

pub returns-clause-seen : goal.returns-clause-seen
returns-clause-seen c = none_seen _ c.new.result.items c.new.ensures.items

pub returns-clause-few : goal.returns-clause-few
returns-clause-few c = few_none c.new.result.items 0 c.new.ensures.items

use Rattle.std.proofs.Common.{◌≡◌}
use Rattle.text_store.proofs.lists.Store.push_long_seen.Goals as goal

pub returns-in-Some-clause-ok : goal.returns-in-Some-clause-ok
returns-in-Some-clause-ok c =
    let same : c.in-Some.attributes ≡ c.args.list.now = rw c.in-Some.is at c.in_ok-shared.ensures in
    rw (← same) c.push_shared.ensures.ok

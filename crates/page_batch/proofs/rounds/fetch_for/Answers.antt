use Rattle.std.proofs.Common.{◌≡◌, [], None, false, sym, rules}
use Rattle.page_batch.proofs.FetchLemmas.{more-none}
use Rattle.page_batch.proofs.RoundLemmas.{on-false}
use Rattle.page_batch.proofs.rounds.fetch_for.Goals as goal

pub returns-in_default-clause-fetches : goal.returns-in_default-clause-fetches
returns-in_default-clause-fetches g c = record { fetched = more-none [] c.args.dir.now (g.F.Outside.seen c.args.files.now) c.args.table.now; spent = search rules; others = search rules }

pub returns-in_default-clause-none : goal.returns-in_default-clause-none
returns-in_default-clause-none g c = on-false c.args.waits ((c.args.waits ≡ false) × (c.args.slot.now.awaits ≡ None)) (λ q. (q, sym c.in_default.ensures))

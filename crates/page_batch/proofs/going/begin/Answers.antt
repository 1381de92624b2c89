use Rattle.std.proofs.Common.{◌≤◌, List, ℕ, length, sym, subst}
use Rattle.speculation.specs.Asking.{page_limit}
use Rattle.page_turns.specs.declared.page.TheConstants.{PAGE_LIMIT}
use Rattle.page_turns.proofs.ReadLemmas.{text-le}
use Rattle.page_batch.proofs.StageLemmas.{first-made}
use Rattle.page_batch.proofs.going.begin.Goals as goal

pub new-requires-2-clause-within : goal.new-requires-2-clause-within
new-requires-2-clause-within g c = subst (λ (x : List ℕ). length x ≤ page_limit) (sym c.in_ok-pieces.ensures.text) (text-le PAGE_LIMIT c.args.page.bytes.items)

pub returns : goal.returns
returns g c = first-made c.new-2.result g.E.InForce.entities _ c.args.page _ _ _ _ c.requires c.in_ok-pieces.ensures.text c.in_ok-pieces.ensures.ending c.new-2.ensures

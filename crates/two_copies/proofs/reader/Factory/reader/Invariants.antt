use Rattle.std.proofs.Common.{◌≡◌, []}
use Rattle.two_copies.proofs.reader.Factory.reader.Given as goal

abbrev pub invariant-loop-index : goal.invariant-loop-index
invariant-loop-index g l = (l.place.table_id ≡ l.initial.place.table_id) × (l.place.me.0.client ≡ l.initial.place.me.0.client) × (l.place.me.1 ≡ [])

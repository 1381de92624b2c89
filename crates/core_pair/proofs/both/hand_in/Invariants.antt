use Rattle.std.proofs.Common.{◌≡◌, ◌≤◌, ◌+◌, length, None}
use Rattle.core_definitions.specs.Core.{joined}
use Rattle.speculation.specs.Asking.{page_limit}
use Rattle.core_pair.specs.Pairs.{with_pieces}
use Rattle.core_pair.proofs.both.hand_in.Given as goal

abbrev pub invariant-pieces : goal.invariant-pieces
invariant-pieces l = record { no_ending : l.doc.journal.ending ≡ None; within : length (joined l.doc.journal.pieces) + length (joined l.rest) ≤ page_limit; is : with_pieces l.rest l.doc ≡ with_pieces l.pieces l.initial.doc }

abbrev pub decreases-pieces : goal.decreases-pieces
decreases-pieces l = length l.rest

use Rattle.std.proofs.Common.{◌≡◌, ◌+◌, ◌≤◌, ◌++◌, length}
use Rattle.std.specs.VecDeque.{deque_len, deque_capacity}
use Rattle.core_definitions.specs.Desk.{sent_again}
use Rattle.page_pieces.proofs.piece.move_again.Given as goal

-- what is moved and what isn't come to the same, and there is room
abbrev pub invariant-pieces : goal.invariant-pieces
invariant-pieces l =
    (sent_again l.sent.items ++ l.others.items ≡ sent_again l.fn.sent.items ++ l.fn.others.items) × (deque_len l.others + deque_len l.sent ≤ deque_capacity l.others)

abbrev pub decreases-pieces : goal.decreases-pieces
decreases-pieces l = length l.sent.items

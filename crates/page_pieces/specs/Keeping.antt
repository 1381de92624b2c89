-- What is kept of the pieces that were sent, in the terms of the document's side.
use Rattle.std.specs.Prelude.{ℕ, suc, ◌-◌, nat_lt, Bool, not, ◌&&◌, if◌then◌else◌, List, [], ◌∷◌, ◌++◌, length}
use Rattle.core_definitions.specs.Batches.{Piece}
use Rattle.core_definitions.specs.Settling.{is_empty}
use Rattle.core_definitions.specs.Desk.{blank, sent_again}

pub record Kept : Type 0 where
  -- so many requests are sent ahead at most
  pub ahead : ℕ
  -- of the piece in hand, what isn't executed
  pub left : Piece
  -- the pieces that were sent in this epoch and aren't taken
  pub asked : List Piece
  pub to_send : List Piece
  -- the requests sent, the replies taken, and how many of these were dropped
  pub sent : ℕ
  pub taken : ℕ
  pub dropped : ℕ

abbrev pub first_kept : ℕ → Kept
first_kept ahead = record { ahead = ahead; left = blank; asked = []; to_send = []; sent = 0; taken = 0; dropped = 0 }

-- the requests whose replies weren't taken
abbrev pub outstanding : Kept → ℕ
outstanding k = k.sent - k.taken

-- those of them that an ended epoch sent
abbrev pub stale : Kept → ℕ
stale k = outstanding k - length k.asked

-- credit is left, and a piece is to be sent
abbrev pub can_keep : Kept → Bool
can_keep k = nat_lt (outstanding k) k.ahead && not (is_empty k.to_send)

abbrev pub keeps_first : List Piece → Kept → Kept
keeps_first [] k = k
keeps_first (x ∷ xs) k = record k { asked = k.asked ++ x ∷ []; to_send = xs; sent = suc k.sent }

-- the first piece was sent
abbrev pub keeps : Kept → Kept
keeps k = keeps_first k.to_send k

abbrev pub takes_first : List Piece → Kept → Kept
takes_first [] k = k
takes_first (x ∷ xs) k = record k { left = x; asked = xs; taken = suc k.taken }

abbrev pub drops : Kept → Kept
drops k = record k { taken = suc k.taken; dropped = suc k.dropped }

-- a reply was taken: replies come in the order of the requests, so those of ended epochs come first
abbrev pub took : Kept → Kept
took k = if nat_lt 0 (stale k) then drops k else takes_first k.asked k

-- the epoch ended: what isn't executed is sent again
abbrev pub rewound : Kept → Kept
rewound k = record k { left = blank; asked = []; to_send = sent_again (k.left ∷ k.asked) ++ k.to_send }

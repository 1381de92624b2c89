-- What the parser's side gives.
use Rattle.std.specs.Prelude.{◌≡◌, List, [], ◌∷◌, Option, Some, None}
use Rattle.standard.specs.Entities.{Entities}
use Rattle.standard.specs.Parser.{Parser}
use Rattle.core_definitions.specs.Core.{Request, Reply, WorkSide, started, answer_to, reply_to}
use Rattle.speculation.specs.Asking.{Asked, Told}

abbrev pub request_in : Option Asked → Option Request
request_in None = None
request_in (Some a) = Some a.request

-- the reply to a request, with the piece and the state from which its batches were made
abbrev pub IsGiven : Entities → Option Parser → Option Request → Told → Type 0
IsGiven es last None t = ⊥
IsGiven es last (Some r) t = (t.reply ≡ reply_to r (answer_to es last r).batches) × (t.start ≡ started r.start last) × (t.piece ≡ r.piece)

-- its hand is empty, and it stands where the answer ends
abbrev pub IsBehind : Entities → Option Request → WorkSide → WorkSide → Type 0
IsBehind es None old new = ⊥
IsBehind es (Some r) old new = new ≡ record { hand = None; parser = (answer_to es old.parser r).parser }

-- what requests are answered one behind another, and where the last answer ends
abbrev pub replies_to : Entities → Option Parser → List Request → List Reply
replies_to es last [] = []
replies_to es last (r ∷ rs) = reply_to r (answer_to es last r).batches ∷ replies_to es (answer_to es last r).parser rs

abbrev pub behind : Entities → Option Parser → List Request → Option Parser
behind es last [] = last
behind es last (r ∷ rs) = behind es (answer_to es last r).parser rs

-- What went through both lanes of a run, and its journal.
use Rattle.std.specs.Prelude.{◌≡◌, ◌⊎◌, ℕ, List, [], ◌∷◌, ◌++◌, length, map, Option, Some, IfSome, slice_get}
use mathlib.Core.List.{IsPrefix}
use Rattle.standard.specs.Entities.{Entities}
use Rattle.core_definitions.specs.declared.event.Event.{Event}
use Rattle.core_definitions.specs.declared.event.Event.TheVariants.{Take}
use Rattle.core_definitions.specs.Core.{Setup, Request, takes_reply}
use Rattle.core_definitions.specs.Desk.{Desk, takes}
use Rattle.core_definitions.specs.Journal.{Journal}
use Rattle.speculation.specs.declared.in_force.InForce as InForce
use Rattle.speculation.specs.Asking.{Asked, Told}
use Rattle.parser_thread.specs.declared.messages.ToParser.{ToParser}
use Rattle.parser_thread.specs.declared.messages.ToParser.TheVariants.{Ask, Stop}
use Rattle.parser_thread.specs.declared.running.Lanes.{Lanes}
use Rattle.parser_thread.specs.Answers.{said, Worked}
use Rattle.run_laws.specs.Along.{HoldsAlong, sends_in, takes_in, LooksAhead, DropsOver}
use Rattle.page_turns.specs.Along.{AsksOf, FetchesAwaited, requests_of}
use Rattle.page_turns.specs.Messages.{Message, AreReplies}
use Rattle.page_turns.specs.Scripts.{Met}
use Rattle.page_runner.specs.declared.status.Status.{Status}
use Rattle.page_runner.specs.declared.status.Status.TheVariants.{NoMemory}

-- of what is there together
abbrev pub IfBoth : {A B : Type 0} → Option A → Option B → (A → B → Type 0) → Type 0
IfBoth a b P = IfSome a (λ x. IfSome b (λ y. P x y))

-- the requests among the messages
abbrev pub asks_in : List ToParser → List Asked
asks_in [] = []
asks_in (Ask r ∷ ms) = r ∷ asks_in ms
asks_in (Stop ∷ ms) = asks_in ms

abbrev pub requests_in : List ToParser → List Request
requests_in ms = requests_of (asks_in ms)

-- Where memory ran out one more may have been taken, a reply or the word of want of memory: its Take is the event that was refused.
abbrev pub AreRepliesAt : Status → ℕ → List Message → Type 0
AreRepliesAt outcome n messages =
    AreReplies n messages
    ⊎ ((outcome ≡ NoMemory) × (before : List Message) × (last : Message) × (messages ≡ before ++ last ∷ []) × AreReplies n before)

-- A Take takes the reply that stands at its place among these: its batches come in hand, or it is dropped, as its epoch says.
abbrev pub TakesOf : List Message → Setup → Event → Desk → Type 0
TakesOf messages x Take d =
    (reply : Told) × (slice_get messages d.taken ≡ Some (Some reply)) × (takes x.world.entities d ≡ takes_reply reply.reply d)
TakesOf messages x _ d = Unit {0}

-- g: the entities in force
module _ {E : Type 0} (g : InForce.Ghosts E) where
  -- The requests that the parser's side took are the first of those put, and the replies that the document's side took the first of those
  -- given: each once, in order, none invented.
  pub record InOrder (l : Lanes E g) : Type 0 where
    pub asked : IsPrefix l.asked.taken l.asked.put
    pub answers : IsPrefix l.answers.taken l.answers.put

  -- The k-th reply given is the answer to the k-th request taken: its epoch and number, and the batches of its piece and ending, from its
  -- start, or else from where the reply before it ended. Where memory ran out the last is the word of that.
  pub record IsAnswered (l : Lanes E g) : Type 0 where
    pub worked : Worked g l.asked.taken l.answers.put

  -- The requests put are those of the journal's Sends, each with the place of its piece in the page, and behind them the word to stop; the
  -- replies taken are those of its Takes, the k-th that of the k-th.
  pub record IsJournaled (es : Entities) (ahead : ℕ) (j : Journal) (outcome : Status) (l : Lanes E g) : Type 0 where
    pub stopped : (asks : List Asked) × (l.asked.put ≡ map Ask asks ++ Stop ∷ [])
    pub sends : length (asks_in l.asked.put) ≡ sends_in j.events
    pub sent : HoldsAlong (λ x. AsksOf (asks_in l.asked.put) x.pieces) es ahead j
    pub taken : AreRepliesAt outcome (takes_in j.events) (map (said g) l.answers.taken)
    pub took : HoldsAlong (TakesOf (map (said g) l.answers.taken)) es ahead j

  -- A reply is dropped only under an epoch that a failed script ended.
  pub record DropsFailed (es : Entities) (ahead : ℕ) (j : Journal) (l : Lanes E g) : Type 0 where
    pub dropped : HoldsAlong (DropsOver (requests_in l.asked.put)) es ahead j

-- At each Do, and at each Arrive, the credit is used up or the page's last request in this epoch was sent.
pub record IsLookingAhead (es : Entities) (ahead : ℕ) (j : Journal) : Type 0 where
  pub looks : HoldsAlong (λ x. LooksAhead x.ahead) es ahead j

-- Each script was awaited where it arrived, but those that were given early, which none but helpers do.
pub record IsFetchingAwaited (es : Entities) (ahead : ℕ) (given : Met) (j : Journal) : Type 0 where
  pub awaited : HoldsAlong (λ x. FetchesAwaited given) es ahead j

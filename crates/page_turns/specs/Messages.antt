-- The messages that the document's side takes from the parser's side, beside the journal.
use Rattle.std.specs.Prelude.{◌≡◌, ◌⊎◌, ℕ, Bool, List, ◌∷◌, [], ◌++◌, length, map, Option, Some, IfSome, IsSome, IsSomeAnd, IsTrue}
use Rattle.standard.specs.Entities.{Entities}
use Rattle.core_definitions.specs.declared.event.Event.{Event}
use Rattle.core_definitions.specs.Core.{Request, first_work}
use Rattle.run_laws.specs.Along.{takes_in}
use Rattle.speculation.specs.Asking.{Asked, Told}
use Rattle.core_steps.specs.Working.{replies_to}
use Rattle.page_turns.specs.Along.{requests_of}

-- None in place of a reply is the word of want of memory.
abbrev pub Message : Type 0
Message = Option Told

-- so many messages, each of them a reply
abbrev pub AreReplies : ℕ → List Message → Type 0
AreReplies n messages = (replies : List Told) × (messages ≡ map Some replies) × (length replies ≡ n)

-- ---- while they are taken, where they are told

-- One more is told: where all are told now, those before it were.
abbrev pub Adds : {A : Type 0} → Option (List A) → Option (List A) → A → Type 0
Adds old new one = IfSome new (λ all. IsSomeAnd old (λ before. all ≡ before ++ one ∷ []))

abbrev pub TakesOne : Option (List Message) → Option (List Message) → Type 0
TakesOne old new = (reply : Told) × Adds old new (Some reply)

abbrev pub TakesLast : Option (List Message) → Option (List Message) → Type 0
TakesLast old new = (last : Message) × Adds old new last

-- a reply for each Take
abbrev pub TakenSoFar : Option (List Message) → List Event → Type 0
TakenSoFar taken events = IfSome taken (λ messages. AreReplies (takes_in events) messages)

-- perhaps with one message more, whose Take was refused
abbrev pub MayTakeMore : Option (List Message) → List Event → Type 0
MayTakeMore taken events =
    IfSome taken (λ messages.
    AreReplies (takes_in events) messages
    ⊎ ((before : List Message) × (last : Message) × (messages ≡ before ++ last ∷ []) × AreReplies (takes_in events) before))

-- ---- in order

-- What was taken are the replies to the first requests that were put, each once, in order, by one parser's side.
pub record AreInOrder (es : Entities) (asked : List Asked) (messages : List Message) : Type 0 where
  pub said : List Told
  pub messages_are : messages ≡ map Some said
  pub answered : List Request
  pub later : List Request
  pub asked_are : requests_of asked ≡ answered ++ later
  pub replies_are : map (λ (t : Told). t.reply) said ≡ replies_to es first_work.parser answered

-- where both are told
abbrev pub ToldInOrder : Entities → Option (List Asked) → Option (List Message) → Type 0
ToldInOrder es put taken = IfSome put (λ asked. IfSome taken (λ messages. AreInOrder es asked messages))

-- What was told is told on, and what was known to be in order still is.
pub record TellsOn (es : Entities) (put put' : Option (List Asked)) (taken taken' : Option (List Message)) (ordered ordered' : Bool) : Type 0 where
  pub put_told : IsSome put → IsSome put'
  pub taken_told : IsSome taken → IsSome taken'
  pub kept : ordered' ≡ ordered
  pub in_order : IsTrue ordered' → ToldInOrder es put' taken'

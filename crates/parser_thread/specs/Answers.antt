-- What the parser's side answers to the requests that it takes.
use Rattle.std.specs.Prelude.{◌≡◌, ℕ, List, [], ◌∷◌, ◌++◌, ◌⊎◌, Option, Some, None, map}
use Rattle.standard.specs.Entities.{Entities}
use Rattle.standard.specs.Parser.{Parser}
use Rattle.core_definitions.specs.Core.{first_work, started, answer_to, reply_to}
use Rattle.speculation.specs.declared.in_force.InForce as InForce
use Rattle.speculation.specs.declared.reply.Reply.{Reply}
use Rattle.speculation.specs.Asking.{Asked, Told}
use Rattle.parser_thread.specs.declared.messages.ToParser.{ToParser}
use Rattle.parser_thread.specs.declared.messages.ToParser.TheVariants.{Ask, Stop}
use Rattle.parser_thread.specs.declared.messages.FromParser.{FromParser}
use Rattle.parser_thread.specs.declared.messages.FromParser.TheVariants.{Answer, NoMemory}

-- what a request is answered, and where the answer ends; `last` is where the answer before it ended
abbrev pub told_to : Entities → Option Parser → Asked → Told
told_to es last q = record { reply = reply_to q.request (answer_to es last q.request).batches; start = started q.request.start last; piece = q.request.piece; from = q.from }

abbrev pub end_of : Entities → Option Parser → Asked → Option Parser
end_of es last q = (answer_to es last q.request).parser

-- what requests are answered one behind another, and where the last answer ends
abbrev pub answers : Entities → Option Parser → List Asked → List Told
answers es last [] = []
answers es last (q ∷ qs) = told_to es last q ∷ answers es (end_of es last q) qs

abbrev pub after : Entities → Option Parser → List Asked → Option Parser
after es last [] = last
after es last (q ∷ qs) = after es (end_of es last q) qs

-- g: the entities in force
module _ {E : Type 0} (g : InForce.Ghosts E) where
  -- what a message says: None is want of memory
  abbrev pub said : FromParser E g → Option Told
  said (Answer r) = Some r.said
  said NoMemory = None

  -- what is said to the requests, from the beginning of a page on
  abbrev pub replies : List Asked → List (Option Told)
  replies qs = map Some (answers g.entities first_work.parser qs)

  -- each request that was taken is answered once, in order, and the parser stands where the last answer ends
  abbrev pub Serving : Option Parser → List ToParser → List (FromParser E g) → Type 0
  Serving parser taken given = (qs : List Asked) × (taken ≡ map Ask qs) × (map said given ≡ replies qs) × (parser ≡ after g.entities first_work.parser qs)

  -- each request that was taken is answered once, in order, and then came the word to stop
  abbrev pub Stopped : List Asked → List ToParser → List (FromParser E g) → Type 0
  Stopped qs taken given = (taken ≡ map Ask qs ++ Stop ∷ []) × (map said given ≡ replies qs)

  -- each request that was taken but the last is answered once, in order, and the last by want of memory
  abbrev pub RanOut : List Asked → List ToParser → List (FromParser E g) → Type 0
  RanOut qs taken given = (last : Asked) × (taken ≡ map Ask qs ++ Ask last ∷ []) × (map said given ≡ replies qs ++ None ∷ [])

  -- Each request that was taken is answered once, in order, the last perhaps by want of memory. What was taken ends with the word to
  -- stop, or what was given with want of memory.
  abbrev pub Worked : List ToParser → List (FromParser E g) → Type 0
  Worked taken given = (qs : List Asked) × (Stopped qs taken given ⊎ RanOut qs taken given)

  -- the last that was given is the reply with this number
  abbrev pub HasGiven : ℕ → List (FromParser E g) → Type 0
  HasGiven number given = (before : List (FromParser E g)) × (r : Reply E g) × (given ≡ before ++ Answer r ∷ []) × (r.said.reply.number ≡ number)

-- The beginning of a page.
use Rattle.std.specs.Prelude.{◌≡◌, ℕ, true, false, List, [], ◌∷◌, Option, Some, None, Ok}
use Rattle.outside.specs.Outside.{Begun, begins, Seen, KeepsOthers}
use Rattle.outside.specs.declared.traits.Port.TheVariants.{Page}
use Rattle.standard.specs.Entities.{Entities}
use Rattle.page_turns.specs.Calls.{CallsAt}
use Rattle.page_turns.specs.Given.{NoFault}
use Rattle.page_turns.specs.Scripts.{Folder}
use Rattle.page_runner.specs.declared.status.Status.{Status}
use Rattle.page_runner.specs.Manner.{Manner}
use Rattle.page_runner.specs.Answers.{IsBegun, PageAnswers, ReadsPage}

-- the page was begun, in one call
pub record BeginsPage (path : List ℕ) (before after : Seen) : Type 0 where
  pub others : KeepsOthers Page before after
  pub no_fault : NoFault Page before after
  pub begun : Begun (before.begun Page) (after.begun Page) (path ∷ [])
  pub calls : CallsAt Page before after (begins path (Ok true) ∷ [])
  pub found : IsBegun path after

-- It wasn't, since it isn't there or the call failed: whatever else was asked, that is the answer.
pub record LacksPage (path : List ℕ) (before after : Seen) (sink sink' : ℕ) (taken taken' : Option (List ℕ)) (result : Status) : Type 0 where
  pub answer : (es : Entities) (how : Manner) (folder : Folder) → PageAnswers es how path folder before after sink sink' taken taken' result
  pub reads : (dir : List ℕ) → ReadsPage path dir (path ∷ []) before after
  pub closed : after.open_at Page ≡ false

-- where it wasn't, with the status with which the run ends
abbrev pub BeginsOr : List ℕ → Seen → Seen → ℕ → ℕ → Option (List ℕ) → Option (List ℕ) → Option Status → Type 0
BeginsOr path before after sink sink' taken taken' None = BeginsPage path before after
BeginsOr path before after sink sink' taken taken' (Some result) = LacksPage path before after sink sink' taken taken' result

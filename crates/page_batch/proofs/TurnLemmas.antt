-- A turn of a page's two sides, by what its calls answer.
use Rattle.std.proofs.Common.{◌≡◌, ◌≤◌, ◌<◌, ℕ, Bool, true, false, List, [], ◌∷◌, ◌++◌, Ok, Err, refl, sym, ap, subst, ◌∙◌, arith}
use Rattle.std.specs.Prelude.{Result, IfOk, OnOk}
use Rattle.serial.specs.declared.script.Line.{Line}
use Rattle.serial.specs.Scripts.{Fetched}
use Rattle.std.specs.Bool.{OnTrue, OnFalse}
use Rattle.core_definitions.specs.declared.event.Event.{Event}
use Rattle.core_definitions.specs.declared.event.Event.TheVariants.{Arrive}
use Rattle.core_steps.specs.Sides.{left_to_do}
use Rattle.core_pair.specs.Nearer.{NearsDo, IsNearer}
use Rattle.core_pair.specs.Pairs.{Paired, fetches_noted, stepped, brought}
use Rattle.page_turns.specs.Scripts.{Met}
use Rattle.page_batch.specs.declared.going.Turn.{Turn}
use Rattle.page_batch.specs.declared.going.Turn.TheVariants.{Went, Stopped}
use Rattle.page_batch.specs.Going.{StepTaken, Nears, Receives, GoesBy, TurnEnds}
use Rattle.page_batch.proofs.GoingLemmas.{nears-by, received}

-- the event that is asked for last
pub nears-last : {E : Type 0} (r : Result Bool E) (v : Event) (old mid new : Paired) → fetches_noted v mid.scripts mid.journal.fetches ≡ mid.journal.fetches → (IsNearer v mid.core new.core → NearsDo mid.core new.core) → mid ≡ old
    → IfOk r (λ took. OnTrue took (StepTaken v mid new)) → IfOk r (λ took. OnTrue took (Nears old new))
nears-last (Ok true) v old mid new none nearer same step = nears-by v true old mid new none nearer refl step same
nears-last (Ok false) v old mid new none nearer same step = tt
nears-last (Err e) v old mid new none nearer same step = tt

pub same-last : {E : Type 0} (r : Result Bool E) (old mid new : Paired) → mid ≡ old → IfOk r (λ took. OnFalse took (new ≡ mid)) → IfOk r (λ took. OnFalse took (new ≡ old))
same-last (Ok true) old mid new same is = tt
same-last (Ok false) old mid new same is = is ∙ same
same-last (Err e) old mid new same is = tt

-- no more was left to do where the turn began
pub turn-from : (table : Met) (old mid new : Paired) (turn : Turn) → left_to_do mid.core.desk ≤ left_to_do old.core.desk → TurnEnds table mid new turn → TurnEnds table old new turn
turn-from table old mid new Went le less = omega (arith, le, less)
turn-from table old mid new (Stopped stop) le stops = stops

pub turn-ok : {E : Type 0} (r : Result Turn E) (table : Met) (old mid new : Paired) → left_to_do mid.core.desk ≤ left_to_do old.core.desk → IfOk r (λ turn. TurnEnds table mid new turn) → IfOk r (λ turn. TurnEnds table old new turn)
turn-ok (Ok turn) table old mid new le ends = turn-from table old mid new turn le ends
turn-ok (Err e) table old mid new le ends = tt

-- a script was brought, and arrived
pub received-ok : {T E : Type 0} (r : Result T E) (name name' : List ℕ) (f : Fetched) (old mid new : Paired) → name' ≡ name → mid ≡ brought name f old → OnOk r (new ≡ stepped (Arrive name') new.core mid) → OnOk r (IsNearer (Arrive name') mid.core new.core)
    → OnOk r (Receives name f old new)
received-ok (Ok x) name name' f old mid new same brings is left = received name f old mid new brings (subst (λ n. new ≡ stepped (Arrive n) new.core mid) same is) left
received-ok (Err e) name name' f old mid new same brings is left = tt

-- nothing was done behind it
pub goes-still : (table : Met) (old mid new : Paired) (t u v : List ℕ) → new ≡ mid → v ≡ u → GoesBy table old mid t u → GoesBy table old new t v
goes-still table old mid new t u v same text goes = subst (λ (p : Paired). GoesBy table old p t v) (sym same) (subst (λ x. GoesBy table old mid t x) (sym text) goes)

-- the lines that scripts gave were taken
pub lines-taken : (old new : Paired) (lines : List Line) → old.core.desk.own.side.lines ≡ old.given ++ lines → new ≡ record old { given = old.given ++ lines } → new.core.desk.own.side.lines ≡ new.given
lines-taken old new lines all is = ap (λ (p : Paired). p.core.desk.own.side.lines) is ∙ (all ∙ sym (ap (λ (p : Paired). p.given) is))

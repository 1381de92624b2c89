-- The row of a name, where it stops.
use Rattle.std.proofs.Common.{◌≡◌, ℕ, Bool, true, false, List, [], ◌∷◌, ◌++◌, Result, IfOk, IsTrue, ◌↔◌, refl, subst}
use Rattle.html_types.specs.declared.memory.NoMemory.{NoMemory}
use Rattle.html_types.specs.declared.token.Token.{Token}
use Rattle.html_types.specs.declared.class.Class.{Class}
use Rattle.html_types.specs.declared.class.Class.TheVariants.{InputEnd}
use Rattle.html_types.specs.declared.reference_state.ReturnState.{ReturnState}
use Rattle.tok_rows.specs.declared.next.Transition.{Transition}
use Rattle.tok_rows.specs.Steps.{Follows}
use Rattle.standard.specs.Entities.{Entities, begins_some, longest}
use Rattle.standard.specs.ReferenceStates.{named_row, named_step}
use Rattle.entity_table.specs.declared.cursor.Step.{Step}
use Rattle.entity_table.specs.declared.cursor.Step.TheVariants.{More, Stop}
use Rattle.entity_table.specs.declared.row.Match.{Match}
use Rattle.std.proofs.Common.{Option}

-- at the end of the input
pub step-at_end : (es : Entities) (back : ReturnState) (held : List ℕ) (k : Class) (c : ℕ) → k ≡ InputEnd → named_step back held (longest held es) k ≡ named_row es back held k c
step-at_end es back held InputEnd c e = refl
step-at_end es back held _ c e = cc

-- at a character with which no name goes on
pub step-at_other : (es : Entities) (back : ReturnState) (held : List ℕ) (k : Class) (c : ℕ) → (k ≡ InputEnd → ⊥) → begins_some (held ++ c ∷ []) es ≡ false → named_step back held (longest held es) k ≡ named_row es back held k c
step-at_other es back held InputEnd c n e = absurd (n refl)
step-at_other es back held _ c n e = rw e refl

pub none_goes_on : (r : Step) (best : Option Match) (b : Bool) → r ≡ Stop best → (r ≡ More) ↔ IsTrue b → b ≡ false
none_goes_on r best false is told = refl
none_goes_on r best true is told = let more : r ≡ More = told.1 refl in cc

-- the code did what the row says
pub IfOk-row : (r : Result Transition NoMemory) (before after : List Token) (es : Entities) (back : ReturnState) (held : List ℕ) (k : Class) (c : ℕ)
    → named_step back held (longest held es) k ≡ named_row es back held k c
    → IfOk r (Follows (named_step back held (longest held es) k) before after) → IfOk r (Follows (named_row es back held k c) before after)
IfOk-row r before after es back held k c e h = subst (λ s. IfOk r (Follows s before after)) e h

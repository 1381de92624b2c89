-- The top of a stack (13.2.4.2 #the-stack-of-open-elements: html stands there).
use Rattle.std.proofs.Common.{◌≡◌, ◌∙◌, ◌<◌, ◌≤◌, refl, sym, ap, List, [], ◌∷◌, ◌++◌, length, reverse, get_or, Some, None, arith}
use Rattle.std.proofs.lemmas.List.{reverse-append, reverse-reverse, length-reverse}
use Rattle.html_types.specs.declared.open.OpenElement.{OpenElement}
use Rattle.standard.specs.Stack.{first_open, second_open, pop_to_root}

first_open_end : (es : List OpenElement) (x : OpenElement) → first_open (es ++ x ∷ []) ≡ Some x
first_open_end [] x = refl
first_open_end (e ∷ []) x = refl
first_open_end (e ∷ d ∷ es) x = first_open_end (d ∷ es) x

second_open_end : (es : List OpenElement) (y x : OpenElement) → second_open (es ++ y ∷ x ∷ []) ≡ Some y
second_open_end [] y x = refl
second_open_end (e ∷ []) y x = refl
second_open_end (e ∷ d ∷ []) y x = refl
second_open_end (e ∷ d ∷ c ∷ es) y x = second_open_end (d ∷ c ∷ es) y x

first_of : (es : List OpenElement) (x : OpenElement) → 0 < length es → first_open (reverse es) ≡ Some (get_or es 0 x)
first_of [] x h = absurd (omega arith)
first_of (e ∷ es) x h = ap first_open (reverse-append (e ∷ []) es) ∙ first_open_end (reverse es) e

second_of : (es : List OpenElement) (x : OpenElement) → 1 < length es → second_open (reverse es) ≡ Some (get_or es 1 x)
second_of [] x h = absurd (omega arith)
second_of (e ∷ []) x h = absurd (omega arith)
second_of (e ∷ d ∷ es) x h = ap second_open (reverse-append (e ∷ d ∷ []) es) ∙ second_open_end (reverse es) d e

-- with places counted from the top
pub first_at : (es : List OpenElement) (x : OpenElement) → 0 < length es → first_open es ≡ Some (get_or (reverse es) 0 x)
first_at es x h = sym (ap first_open (reverse-reverse es)) ∙ first_of (reverse es) x (omega (arith, h, length-reverse es))

pub second_at : (es : List OpenElement) (x : OpenElement) → 1 < length es → second_open es ≡ Some (get_or (reverse es) 1 x)
second_at es x h = sym (ap second_open (reverse-reverse es)) ∙ second_of (reverse es) x (omega (arith, h, length-reverse es))

pub first_open_none : (es : List OpenElement) → length es ≤ 0 → first_open es ≡ None
first_open_none [] h = refl
first_open_none (x ∷ es) h = absurd (omega arith)

pub second_open_few : (es : List OpenElement) → length es ≤ 1 → second_open es ≡ None
second_open_few [] h = refl
second_open_few (x ∷ []) h = refl
second_open_few (x ∷ y ∷ es) h = absurd (omega arith)

pub pop_to_root_few : (es : List OpenElement) → length es < 2 → pop_to_root es ≡ es
pop_to_root_few [] h = refl
pop_to_root_few (x ∷ []) h = refl
pop_to_root_few (x ∷ y ∷ es) h = absurd (omega arith)

-- Names that are the same text, and names that were fetched.
use Rattle.std.proofs.Common.{◌≡◌, ℕ, Bool, true, false, true≢false, List, [], ◌∷◌, Some, None, refl, sym, ◌∙◌, ap, subst, arith}
use Rattle.std.specs.Prelude.{◌≢◌, ◌||◌, cond}
use Rattle.std.specs.List.{AllByRecursion}
use Rattle.std.proofs.lemmas.Bool.Decides.{nat_tests}
use Rattle.html_types.specs.Text.{same_text}
use Rattle.serial.specs.Scripts.{Fetched, is_lawful}
use Rattle.core_definitions.specs.Desk.{is_among}
use Rattle.core_steps.specs.Fetches.{names_of}
use Rattle.core_steps.specs.Journals.{found}
use Rattle.page_turns.specs.Scripts.{Met}

pub same-refl : (a : List ℕ) → same_text a a ≡ true
same-refl [] = refl
same-refl (c ∷ cs) = grind (arith, nat_tests, same-refl cs)

pub same-text : (a b : List ℕ) → same_text a b ≡ true → a ≡ b
same-text [] [] e = refl
same-text [] (c ∷ cs) e = absurd (true≢false (sym e))
same-text (c ∷ cs) [] e = absurd (true≢false (sym e))
same-text (c ∷ cs) (b ∷ bs) e = grind (arith, nat_tests, same-text cs bs, e)

-- a name that isn't among those that were fetched
pub none-found : (name : List ℕ) (met : Met) → is_among name (names_of met) ≡ false → found name met ≡ None
none-found name [] e = refl
none-found name ((n, f) ∷ met) e = by (λ h. none-found name met h) (same_text n name) e
  where
    by : (is_among name (names_of met) ≡ false → found name met ≡ None) → (b : Bool) → (b || is_among name (names_of met)) ≡ false → cond b (Some f) (found name met) ≡ None
    by rest true e = absurd (true≢false e)
    by rest false e = rest e

-- and the other way
pub none-among : (name : List ℕ) (met : Met) → found name met ≡ None → is_among name (names_of met) ≡ false
none-among name [] e = refl
none-among name ((n, f) ∷ met) e = by (λ h. none-among name met h) (same_text n name) e
  where
    by : (found name met ≡ None → is_among name (names_of met) ≡ false) → (b : Bool) → cond b (Some f) (found name met) ≡ None → (b || is_among name (names_of met)) ≡ false
    by rest true e = absurd (cc e)
    by rest false e = rest e

pub none-there : (name : List ℕ) (met : Met) → is_among name (names_of met) ≡ false → AllByRecursion (λ other. other ≢ name) (names_of met)
none-there name [] e = tt
none-there name ((n, f) ∷ met) e = (λ same. by (same_text n name) e (ap (λ x. same_text x name) same ∙ same-refl name), none-there name met (rest (same_text n name) e))
  where
    by : (b : Bool) → (b || is_among name (names_of met)) ≡ false → b ≡ true → ⊥
    by true e q = true≢false e
    by false e q = true≢false (sym q)

    rest : (b : Bool) → (b || is_among name (names_of met)) ≡ false → is_among name (names_of met) ≡ false
    rest true e = absurd (true≢false e)
    rest false e = e

pub found-first : (name : List ℕ) (f : Fetched) (met : Met) → found name ((name, f) ∷ met) ≡ Some f
found-first name f met = ap (λ b. cond b (Some f) (found name met)) (same-refl name)

pub lawful-found : (name : List ℕ) (met : Met) (f : Fetched) → AllByRecursion (λ n. is_lawful n ≡ true) (names_of met) → found name met ≡ Some f → is_lawful name ≡ true
lawful-found name [] f lawful e = absurd (cc e)
lawful-found name ((n, g) ∷ met) f lawful e = by (λ h. lawful-found name met f lawful.1 h) (same_text n name) refl e
  where
    by : (found name met ≡ Some f → is_lawful name ≡ true) → (b : Bool) → same_text n name ≡ b → cond b (Some g) (found name met) ≡ Some f → is_lawful name ≡ true
    by rest true q e = subst (λ x. is_lawful x ≡ true) (same-text n name q) lawful.0
    by rest false q e = rest e

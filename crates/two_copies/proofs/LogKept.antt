-- The log stays in step with the copies.
use Rattle.std.proofs.Common.{◌≡◌, ℕ, zero, suc, ◌-◌, ◌<◌, List, [], ◌∷◌, ◌++◌, length, take, drop, fold, sym, refl, ap, ◌∙◌, subst, arith, le_refl, take_all, length-append}
use mathlib.Core.Logic.{∥∥₁_elim}
use base.Stored.{Coded, Coded-set}
use Rattle.std.specs.Coded.{le_prop, coded_ℕ}
use lib.Seq.{take-append-le}
use Rattle.two_copies.specs.Log.{InStep}

module _ {S O : Type 0} (applied : S → O → S) (shown spare : S) where
  -- the spare copy takes in the first operation, which leaves the log
  pub caught_one : (op : O) (rest : List O) (behind ahead : ℕ) → 0 < behind → InStep applied shown spare (op ∷ rest) behind ahead
      → InStep applied shown (applied spare op) rest (behind - 1) ahead × (drop (behind - 1) rest ≡ drop behind (op ∷ rest))
  caught_one op rest zero ahead some h = absurd (omega arith)
  caught_one op rest (suc k) ahead some h = let none : ahead ≡ 0 = h.2 some in let long = h.0 in let back : k ≡ suc k - 1 = omega arith in
      let same : fold applied (applied spare op) (take k rest) ≡ fold applied shown (take ahead rest) = h.3 ∙ (λ i. fold applied shown (take (none i) (op ∷ rest))) ∙ (λ i. fold applied shown (take (sym none i) rest)) in
      subst (λ (j : ℕ). InStep applied shown (applied spare op) rest j ahead × (drop j rest ≡ drop k rest)) back ((omega arith, omega arith, (λ _. none), same), refl)

  pub opened : Coded S → (log : List O) (behind ahead : ℕ) → ∥ InStep applied shown spare log behind ahead ∥₁ → InStep applied shown spare log behind ahead
  opened code log behind ahead h =
      (∥∥₁_elim h le_prop (λ x. x.0), ∥∥₁_elim h le_prop (λ x. x.1), (λ l. ∥∥₁_elim h (Coded-set coded_ℕ _ _) (λ x. x.2 l)), ∥∥₁_elim h (Coded-set code _ _) (λ x. x.3))

  pub longer : (log more : List O) (behind ahead : ℕ) → InStep applied shown spare log behind ahead → InStep applied shown spare (log ++ more) behind ahead
  longer log more behind ahead h = let a = h.0 in let b = h.1 in let long = length-append log more in
      (omega arith, omega arith, h.2, ap (fold applied spare) (take-append-le behind log more a) ∙ (h.3 ∙ sym (ap (fold applied shown) (take-append-le ahead log more b))))

  -- the spare copy has each operation
  pub all_in : (log : List O) (behind ahead : ℕ) → behind ≡ 0 → ahead ≡ length log → InStep applied shown spare log behind ahead → spare ≡ fold applied shown log
  all_in log behind ahead none all h = (λ i. fold applied spare (take (sym none i) log)) ∙ (h.3 ∙ ap (fold applied shown) (take_all ahead log (omega arith)))

  -- and the two change places
  pub swapped : (log : List O) (n : ℕ) → n ≡ length log → spare ≡ fold applied shown log → InStep applied spare shown log n 0
  swapped log n all is = (omega arith, omega arith, (λ _. refl), ap (fold applied shown) (take_all n log (omega arith)) ∙ sym is)

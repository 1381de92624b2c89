-- Each step keeps the rule of the count.
use Rattle.std.proofs.Common.{◌≡◌, ◌≢◌, ℕ, zero, suc, true, false, true≢false, List, [], ◌∷◌, ◌++◌, set, slice_index, sym, refl, ap, ◌∙◌, subst, ⊎_elim}
use mathlib.Core.Option.{some, some-injective, some-ne-none}
use lib.ListN.{get_elem?}
use Rattle.atomic_table.specs.Table.{Me, Allows, Splits, opening, keeps}
use Rattle.atomic_table.proofs.Lists.{at_set, at_snoc}
use Rattle.op_queue.specs.declared.count.Tally.{Tally}
use Rattle.op_queue.specs.Count.{tally, IsCounted}

abbrev Reads : ℕ → ℕ → ℕ → Tally → Type 0
Reads counter n seat v = v.counts ≡ true → (seat ≡ counter) × (v.put ≡ n)

abbrev All : (ℕ → Tally → Type 0) → List Tally → Type 0
All F views = (seat : ℕ) (v : Tally) → get_elem? views seat ≡ some v → F seat v

all_set : (F : ℕ → Tally → Type 0) (views : List Tally) (seat : ℕ) (w : Tally) → F seat w → ((j : ℕ) (u : Tally) → j ≢ seat → get_elem? views j ≡ some u → F j u) → All F (set views seat w)
all_set F views seat w mine others j u e = ⊎_elim (λ (x : (j ≡ seat) × (w ≡ u)). subst (λ (y : ℕ × Tally). F y.0 y.1) (λ i. (sym x.0 i, x.1 i)) mine)
    (λ (x : (j ≢ seat) × (get_elem? views j ≡ some u)). others j u x.0 x.1) (at_set views seat j w u e)

first : All (Reads 0 0) (tally true 0 [] ∷ [])
first zero v e = subst (Reads 0 0 0) (some-injective (tally true 0 []) v e) (λ _. (refl, refl))
first (suc j) v e = absurd (some-ne-none v (sym e))

module _ {S : Type 0} where
  pub begins : (xs : List S) → IsCounted (opening (0 ∷ []) xs (tally true 0 []))
  begins xs = (0, 0, refl, first)

  pub counts : (slots id : ℕ) (me : Me S Tally) (new : ℕ) → me.0.counts ≡ true → Allows IsCounted slots id me 0 (λ _. new) (λ _ m. m ≡ (tally me.0.counts new me.0.looks, me.1))
  counts slots id me new may s h _ at _ = let w : Tally = tally me.0.counts new me.0.looks in (
    w,
    keeps,
    tt,
    (new, id, ap (λ l. set l 0 new) h.2, all_set (Reads id new) s.views id w (λ _. (refl, refl)) (λ j u other e p. absurd (other ((h.3 j u e p).0 ∙ sym (h.3 id me.0 at may).0)))),
    refl,
  )

  pub looks : (slots id : ℕ) (me : Me S Tally) → Allows IsCounted slots id me 0 (λ n. n) (λ found m. m ≡ (tally me.0.counts me.0.put (me.0.looks ++ found ∷ []), me.1))
  looks slots id me s h _ at _ = let w : Tally = tally me.0.counts me.0.put (me.0.looks ++ slice_index s.words 0 ∷ []) in (
    w,
    keeps,
    tt,
    (h.0, h.1, ap (λ l. set l 0 (slice_index l 0)) h.2, all_set (Reads h.1 h.0) s.views id w (h.3 id me.0 at) (λ j u other e. h.3 j u e)),
    refl,
  )

  pub splits : (id : ℕ) (v : Tally) → Splits (IsCounted {S = S}) id v v (tally false 0 [])
  splits id v s h at = let r : Tally = tally false 0 [] in (
    h.0,
    h.1,
    h.2,
    λ j u e. ⊎_elim (λ x. all_set (Reads h.1 h.0) s.views id v (h.3 id v at) (λ i y _ at'. h.3 i y at') j u x)
        (λ (is : r ≡ u). subst (Reads h.1 h.0 j) is (λ p. absurd (true≢false (sym p)))) (at_snoc (set s.views id v) r u j e),
  )

-- What a call leaves alone, and what was begun, over two calls.
use Rattle.std.proofs.Common.{◌≡◌, ℕ, ◌≤◌, List, [], ◌∷◌, ◌++◌, Some, None, refl, sym, ap, subst, ◌∙◌, arith, inl, inr, append_assoc, append-nil}
use Rattle.outside.specs.Outside.{Rose, Paths, Begun, Seen, NeverFall, KeepsOthers}
use Rattle.outside.specs.declared.traits.Port.{Port}
use Rattle.outside.specs.declared.traits.Port.TheVariants.{Entities, List as list_port}
use Rattle.page_turns.specs.Given.{IsLeftAlone, KeepsEntities}

-- ---- paths that were begun

begun_same : (p : Paths) → Begun p p []
begun_same None = tt
begun_same (Some l) = sym (append-nil l)

pub begun_none : (b a : Paths) → a ≡ b → Begun b a []
begun_none b a e = subst (λ q. Begun b q []) (sym e) (begun_same b)

pub begun_then : (b n a : Paths) (xs ys : List (List ℕ)) → Begun b n xs → Begun n a ys → Begun b a (xs ++ ys)
begun_then b n None xs ys p q = tt
begun_then b None (Some l) xs ys p q = absurd q
begun_then None (Some m) (Some l) xs ys p q = absurd p
begun_then (Some k) (Some m) (Some l) xs ys p q = q ∙ ap (λ z. z ++ ys) p ∙ append_assoc k xs ys

pub begun_stays : (b n a : Paths) (xs : List (List ℕ)) → Begun b n xs → a ≡ n → Begun b a xs
begun_stays b n a xs begun e = subst (λ q. Begun b q xs) (sym e) begun

pub begun_since : (b n a : Paths) (xs : List (List ℕ)) → n ≡ b → Begun n a xs → Begun b a xs
begun_since b n a xs e begun = subst (λ q. Begun q a xs) e begun

pub begun_is : (b a : Paths) (path path' : List ℕ) → path ≡ path' → Begun b a (path ∷ []) → Begun b a (path' ∷ [])
begun_is b a path path' e begun = subst (λ q. Begun b a (q ∷ [])) e begun

-- ---- counts

-- a count that rose later rose
pub rose-on : (a b c : ℕ) → a ≤ b → Rose b c → Rose a c
rose-on a b c le (inl less) = inl (omega arith)
rose-on a b c le (inr last) = inr last

-- and stays so
pub rose-stays : (a b c : ℕ) → Rose a b → b ≤ c → Rose a c
rose-stays a b c (inl less) le = inl (omega arith)
rose-stays a b c (inr last) le = inr (omega arith)

-- ---- later, whatever was read

-- The files are the same, and no count has fallen.
pub record Later (before after : Seen) : Type 0 where
  pub files : after.files ≡ before.files
  pub faults : NeverFall before.faults after.faults
  pub absences : NeverFall before.absences after.absences

pub later-others : (port : Port) (before after : Seen) → KeepsOthers port before after → Later before after
later-others port before after keeps = record { files = keeps.files; faults = keeps.faults; absences = keeps.absences }

pub later-entities : (before after : Seen) → KeepsEntities before after → Later before after
later-entities before after keeps = record { files = keeps.files; faults = keeps.faults; absences = keeps.absences }

-- ---- a port at which nothing was done

pub alone-same : (port : Port) (s : Seen) → IsLeftAlone port s s
alone-same port s = record { left = refl; begun = refl; calls = refl; no_fault = refl }

pub alone-then : (port : Port) (before now after : Seen) → IsLeftAlone port before now → IsLeftAlone port now after → IsLeftAlone port before after
alone-then port before now after a b = record { left = b.left ∙ a.left; begun = b.begun ∙ a.begun; calls = b.calls ∙ a.calls; no_fault = b.no_fault ∙ a.no_fault }

pub alone-others : (port other : Port) (before after : Seen) → (port ≡ other → ⊥) → KeepsOthers other before after → IsLeftAlone port before after
alone-others port other before after apart keeps =
    record { left = keeps.left port apart; begun = keeps.begun port apart; calls = keeps.calls port apart; no_fault = keeps.other_faults port apart }

-- ---- the ports of the entities and of the list of pages

pub entities-same : (s : Seen) → KeepsEntities s s
entities-same s = record { files = refl; left = refl; begun = refl; calls = refl; no_fault = refl; list = alone-same list_port s; faults = λ p. omega arith; absences = λ p. omega arith }

pub entities-then : (before now after : Seen) → KeepsEntities before now → KeepsEntities now after → KeepsEntities before after
entities-then before now after a b = record {
  files = b.files ∙ a.files;
  left = b.left ∙ a.left;
  begun = b.begun ∙ a.begun;
  calls = b.calls ∙ a.calls;
  no_fault = b.no_fault ∙ a.no_fault;
  list = alone-then list_port before now after a.list b.list;
  faults = λ p. let first = a.faults p in let second = b.faults p in omega arith;
  absences = λ p. let first = a.absences p in let second = b.absences p in omega arith;
}

pub entities-others : (port : Port) (before after : Seen) → (Entities ≡ port → ⊥) → (list_port ≡ port → ⊥) → KeepsOthers port before after → KeepsEntities before after
entities-others port before after other apart keeps = record {
  files = keeps.files;
  left = keeps.left Entities other;
  begun = keeps.begun Entities other;
  calls = keeps.calls Entities other;
  no_fault = keeps.other_faults Entities other;
  list = alone-others list_port port before after apart keeps;
  faults = keeps.faults;
  absences = keeps.absences;
}

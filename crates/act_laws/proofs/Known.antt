-- Which ids are bound once operations are done.
use Rattle.std.proofs.Common.{◌≡◌, ℕ, Bool, true, false, cond, ◌||◌, List, length, Option, Some, refl, sym, ap, ◌∙◌, subst, inl, inr}
use Rattle.std.specs.Prelude.{is_some, ◌==◌}
use Rattle.std.specs.Ordering.{is_eq}
use Rattle.std.proofs.lemmas.Bool.{and_from, eq-eqb, false_from_ne_true, and_parts, eqb-true}
use Rattle.html_types.specs.Operations.{same_id}
use Rattle.html_types.specs.declared.operation.NodeId.{NodeId}
use Rattle.html_types.specs.declared.operation.Op.{Op}
use Rattle.html_types.specs.declared.operation.Op.TheVariants.{Make, Put, Text, Comment, Doctype, Detach, MoveChildren, AddAttributes}
use Rattle.standard.specs.Act.{Doc, id_cmp, bound_to, act, is_bound, known_after, AreOpsBound}
use Rattle.act_laws.proofs.Renamed.{tells, bound_to-insert}

-- the test of two ids
same_id-test : (a b : NodeId) → is_eq (id_cmp a b) ≡ same_id a b
same_id-test a b = elim (tells a b) [
  | inl alike ↦ alike.0 ∙ sym (and_from (a.realm == b.realm) (a.n == b.n) (eq-eqb a.realm b.realm (ap (λ (x : NodeId). x.realm) alike.1)) (eq-eqb a.n b.n (ap (λ (x : NodeId). x.n) alike.1)))
  | inr apart ↦ apart.0 ∙ sym (false_from_ne_true (same_id a b) (λ same.
      let parts = and_parts (a.realm == b.realm) (a.n == b.n) same in
      apart.1 (λ i. record { realm = eqb-true a.realm b.realm parts.0 i; n = eqb-true a.n b.n parts.1 i })))
]

-- which ids are bound once the operation is done
pub known_after-is : (d : Doc) (o : Op) (q : NodeId) → known_after (is_bound d.bound) o q ≡ is_bound (act d o).bound q
unfolding act
known_after-is d (Make id name attributes) q =
    sym (ap is_some (bound_to-insert d.bound id (length d.tree) q) ∙ some_of (is_eq (id_cmp q id)) (bound_to d.bound q) ∙ ap (λ b. b || is_bound d.bound q) (same_id-test q id))
  where
    some_of : (b : Bool) (o : Option ℕ) → is_some (cond b (Some (length d.tree)) o) ≡ (b || is_some o)
    some_of true o = refl
    some_of false o = refl
known_after-is d (Put id place) q = refl
known_after-is d (Text place text) q = refl
known_after-is d (Comment place text) q = refl
known_after-is d (Doctype name) q = refl
known_after-is d (Detach id) q = refl
known_after-is d (MoveChildren from to) q = refl
known_after-is d (AddAttributes id attributes) q = refl

-- the operations behind the first have their ids bound where it is done
pub AreOpsBound-act : (d : Doc) (o : Op) (os : List Op) → AreOpsBound (known_after (is_bound d.bound) o) os → AreOpsBound (is_bound (act d o).bound) os
AreOpsBound-act d o os bound = subst (λ (known : NodeId → Bool). AreOpsBound known os) (λ i q. known_after-is d o q i) bound

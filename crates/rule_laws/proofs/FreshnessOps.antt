-- Operations one behind another, and what is asked of the ids that come.
use Rattle.std.proofs.Common.{◌≡◌, refl, Bool, true, false, ◌||◌, List, [], ◌∷◌, ◌++◌, arith}
use Rattle.std.specs.Prelude.{IsTrue}
use Rattle.html_types.specs.Operations.{same_id, later}
use Rattle.html_types.specs.declared.operation.NodeId.{NodeId}
use Rattle.html_types.specs.declared.operation.Op.{Op}
use Rattle.html_types.specs.declared.operation.Op.TheVariants as op
use Rattle.standard.specs.Act.{AreOpsBound, known_after}
use Rattle.rule_laws.specs.Naming.{known_after_all}

-- ---- lists of operations

pub known-append : (known : NodeId → Bool) (os more : List Op) → known_after_all known (os ++ more) ≡ known_after_all (known_after_all known os) more
unfolding known_after_all
known-append known [] more = refl
known-append known (o ∷ os) more = known-append (known_after known o) os more

pub bound-append : (known : NodeId → Bool) (os more : List Op) → AreOpsBound known os → AreOpsBound (known_after_all known os) more → AreOpsBound known (os ++ more)
unfolding known_after_all AreOpsBound
bound-append known [] more a b = b
bound-append known (o ∷ os) more a b = (a.0, bound-append (known_after known o) os more a.1 b)

pub same-itself : (id : NodeId) → same_id id id ≡ true
same-itself id = grind arith

-- what is asked of the ids that come is kept as elements are made
pub record Follows (Coming : (NodeId → Bool) → NodeId → Type 0) : Type 0 where
  pub fresh : (known : NodeId → Bool) (id : NodeId) → Coming known id → known id ≡ false
  pub made_next : (known : NodeId → Bool) (id : NodeId) → Coming known id → Coming (λ q. same_id q id || known q) (later 1 id)

-- what was bound stays bound
pub known-grows : (known : NodeId → Bool) (ops : List Op) (id : NodeId) → IsTrue (known id) → IsTrue (known_after_all known ops id)
unfolding known_after_all
known-grows known [] id h = h
known-grows known (o ∷ os) id h = known-grows (known_after known o) os id (one o)
  where
    or-true : (v : Bool) → IsTrue (v || known id)
    or-true true = refl
    or-true false = h

    one : (x : Op) → IsTrue (known_after known x id)
    one (op.Make i name attributes) = or-true (same_id id i)
    one (op.Put i place) = h
    one (op.Text place text) = h
    one (op.Comment place text) = h
    one (op.Doctype name) = h
    one (op.Detach i) = h
    one (op.MoveChildren from to) = h
    one (op.AddAttributes i attributes) = h

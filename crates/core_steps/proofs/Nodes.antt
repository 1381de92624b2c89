-- A walk in tree order, counted.
use Rattle.std.proofs.Common.{◌≡◌, ◌<◌, ◌≤◌, ◌+◌, ℕ, List, [], ◌∷◌, length, Some, None, refl, sym, ◌∙◌, ap, arith}
use Rattle.std.specs.Prelude.{min}
use Rattle.std.proofs.Math.Nat.{min-eq_left, min-eq_right}
use Rattle.standard.specs.Tree.{Nodes, IsTree, after_node, first_of}
use Rattle.doc_tree.specs.Rows.{order_from}
use Rattle.doc_tree.proofs.Order.{after_next}

-- what comes after a node, from the next one on
pub from_next : (t : Nodes) → IsTree t → (n : ℕ) → n < length t → order_from t (first_of (after_node t n)) ≡ after_node t n
from_next t tree n below = by (after_node t n) refl
  where
    by : (ns : List ℕ) → after_node t n ≡ ns → order_from t (first_of ns) ≡ ns
    by [] is = refl
    by (m ∷ ms) is = sym (after_next t tree n m below (ap first_of is)).0 ∙ is

pub next_below : (t : Nodes) → IsTree t → (n m : ℕ) → n < length t → first_of (after_node t n) ≡ Some m → m < length t
next_below t tree n m below is = (after_next t tree n m below is).1

-- a count that stops at the last value
pub counted_all : (nodes total most : ℕ) → nodes ≤ most → nodes ≡ total → nodes ≡ min total most
counted_all nodes total most small is = is ∙ sym (min-eq_left (omega (arith, small, is)))

pub counted_most : (total most : ℕ) → most ≤ total → most ≡ min total most
counted_most total most large = sym (min-eq_right large)

-- What ids stand for, once operations are done.
use Rattle.std.specs.Prelude.{◌≡◌, ℕ, true, Some}
use Rattle.html_types.specs.declared.operation.NodeId.{NodeId}
use Rattle.standard.specs.Tree.{is_element_at}
use Rattle.standard.specs.Act.{Bound, Doc, bound_to}

-- no two ids stand for one node
abbrev pub IsOneToOne : Bound → Type 0
IsOneToOne bound = (a b : NodeId) (n : ℕ) → bound_to bound a ≡ Some n → bound_to bound b ≡ Some n → a ≡ b

-- ids stand for elements of the tree
pub record BindsElements (d : Doc) : Type 0 where
  pub elements : (id : NodeId) (n : ℕ) → bound_to d.bound id ≡ Some n → is_element_at d.tree n ≡ true
  -- no two stand for one
  pub one_to_one : IsOneToOne d.bound

-- ids and the elements of the tree stand one to one
pub record NamesElements (d : Doc) : Type 0 where
  pub binds : BindsElements d
  -- each element has its id
  pub named : (n : ℕ) → is_element_at d.tree n ≡ true → (id : NodeId) × (bound_to d.bound id ≡ Some n)

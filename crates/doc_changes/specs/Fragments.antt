-- What stands in an element's place: the operations that make the nodes of a fragment.
use Rattle.std.specs.Prelude.{Bool, List, []}
use Rattle.html_types.specs.declared.operation.Op.{Op}
use Rattle.standard.specs.Tree.{Nodes}
use Rattle.standard.specs.Act.{is_bound, AreOpsBound}
use Rattle.standard.specs.Fragment.{with_fragment}

-- whether the fragment's form element pointer names a form element, and the operations
pub record FragmentView : Type 0 where
  pub form : Bool
  pub ops : List Op

-- behind the fragment's roots they can be executed, whatever tree they are executed in
abbrev pub CanBeDone : Bool → List Op → Type 0
CanBeDone form ops = (t : Nodes) → AreOpsBound (is_bound (with_fragment t form []).bound) ops

-- The document of a fragment.
use Rattle.std.specs.Prelude.{◌≡◌, ℕ, List, Some}
use Rattle.html_types.specs.declared.operation.Op.{Op}
use Rattle.html_types.specs.declared.open.Context.{Context}
use Rattle.standard.specs.Entities.{Entities}
use Rattle.standard.specs.Tree.{new_tree}
use Rattle.standard.specs.Act.{Doc}
use Rattle.standard.specs.Fragment.{fragment, with_fragment}

-- what the text comes to as the children of its context, alone
abbrev pub IsFragment : Entities → Context → List ℕ → Doc → Type 0
IsFragment es c text d = (ops : List Op) × (fragment es c text ≡ Some ops) × (d ≡ with_fragment new_tree c.form ops)

-- What keeps a document one, and operations that were done in part.
use Rattle.std.specs.Prelude.{◌≡◌, ◌≢◌, ◌<◌, ◌++◌, ℕ, Bool, true, false, List, [], length, None, All}
use Rattle.std.specs.Map.{values_of}
use Rattle.html_types.specs.declared.operation.Op.{Op}
use Rattle.html_types.specs.declared.operation.Op.TheVariants.{Make, Text}
use Rattle.html_types.specs.declared.name.Name.TheVariants.{Known}
use Rattle.html_types.specs.declared.word.Word.TheVariants as word
use Rattle.standard.specs.Tree.{Nodes, host_of, is_element_at}
use Rattle.standard.specs.Act.{Bound, Doc, acts}
use Rattle.standard.specs.Fragment.{root_id, form_id}
use Rattle.act_laws.specs.Bindings.{IsOneToOne}

-- a node of the tree that is neither the Document nor a template's contents
abbrev pub IsPlain : Nodes → ℕ → Type 0
IsPlain t n = (n < length t) × (n ≢ 0) × (host_of t n ≡ None)

-- ids stand for such nodes, no two of them for one, and elements are such nodes
pub record IsDoc (t : Nodes) (bound : Bound) : Type 0 where
  pub document : 0 < length t
  pub plain : All (IsPlain t) (values_of bound)
  pub one_to_one : IsOneToOne bound
  pub elements : (n : ℕ) → is_element_at t n ≡ true → IsPlain t n

-- whether the operation inserts an empty text
abbrev pub inserts_nothing : Op → Bool
inserts_nothing (Text place []) = true
inserts_nothing _ = false

-- the first of the operations are done, and no other
pub record IsDoneInPart (old new : Doc) (ops : List Op) : Type 0 where
  pub done : List Op
  pub left : List Op
  pub all : ops ≡ done ++ left
  pub result : new ≡ acts old done

-- the root of a fragment is made, and the form element that its form element pointer names
abbrev pub html_made : Op
html_made = Make (root_id 0) (Known word.Html) []

abbrev pub form_made : Op
form_made = Make (form_id 0) (Known word.Form) []

-- Worked operations.
use Rattle.std.proofs.Common.{◌≡◌, ℕ, List, [], ◌∷◌, ◌++◌, true, false, Some, None, refl}
use Rattle.std.specs.Prelude.{codes}
use Rattle.html_types.specs.declared.attributes.Attribute.{Attribute}
use Rattle.html_types.specs.declared.name.Name.TheVariants.{Known}
use Rattle.html_types.specs.declared.word.Word.TheVariants.{Html, Body, Table, B, Script, Template}
use Rattle.html_types.specs.declared.operation.NodeId.{NodeId}
use Rattle.html_types.specs.declared.operation.Place.TheVariants.{Page, Inside, Contents, Foster}
use Rattle.html_types.specs.declared.operation.Op.{Op}
use Rattle.html_types.specs.declared.operation.Op.TheVariants as op
use Rattle.standard.specs.Tree.{children_of, contents_of, is_connected, find_id, first_element, script_text}
use Rattle.standard.specs.Act.{Doc, new_doc, act, acts}
use Rattle.standard.specs.Outer.{outer_text}
use Rattle.standard.specs.Prepare.{still, prepare, is_javascript}

abbrev id : ℕ → NodeId
id n = record { realm = 1; n = n }

abbrev named : List Attribute
named = record { name = codes "id"; value = codes "t" } ∷ []

-- a table whose text is put before it, and text that the Document doesn't take
abbrev page : List Op
page =
    op.Make (id 0) (Known Html) [] ∷ op.Put (id 0) Page ∷ op.Make (id 1) (Known Body) [] ∷ op.Put (id 1) (Inside (id 0)) ∷ op.Make (id 2) (Known Table) [] ∷ op.Put (id 2) (Inside (id 1))
    ∷ op.Text (Foster (id 2) (id 1)) (codes "x") ∷ op.Text (Foster (id 2) (id 1)) (codes "y") ∷ op.Text Page (codes "z")
    ∷ op.AddAttributes (id 2) named ∷ op.Comment (Inside (id 1)) (codes "c") ∷ []

abbrev doc : Doc
doc = acts new_doc page

before-table : script_text doc.tree 2 ≡ codes "xy"
unfolding act acts script_text
before-table = refl

in-order : children_of doc.tree 2 ≡ 4 ∷ 3 ∷ 5 ∷ []
unfolding act acts
in-order = refl

found : find_id doc.tree (codes "t") ≡ Some 3
unfolding act acts find_id
found = refl

-- once the table stands nowhere, its text goes into the element above it in the stack
abbrev without_table : Doc
without_table = acts doc (op.Detach (id 2) ∷ op.Text (Foster (id 2) (id 1)) (codes "w") ∷ [])

after-detach : script_text without_table.tree 2 ≡ codes "xyw"
unfolding act acts script_text
after-detach = refl

root : first_element doc.tree ≡ Some 1
unfolding act acts first_element
root = refl

connected : is_connected doc.tree 4 ≡ true
unfolding act acts is_connected
connected = refl

is-javascript : is_javascript (Some (codes "\tText/JavaScript ")) ≡ true
is-javascript = refl

is-json : is_javascript (Some (codes "application/json")) ≡ false
is-json = refl

-- ---- an element that is put before a table that stands there, and one of which the table was taken out before

abbrev foster_page : List Op → List Op
foster_page before =
    op.Make (id 0) (Known Html) [] ∷ op.Put (id 0) Page ∷ op.Make (id 1) (Known Body) [] ∷ op.Put (id 1) (Inside (id 0))
    ∷ op.Make (id 2) (Known Table) [] ∷ op.Put (id 2) (Inside (id 1)) ∷ op.Make (id 3) (Known B) [] ∷ op.Comment (Inside (id 1)) (codes "c") ∷ []
    ++ before ++ op.Put (id 3) (Foster (id 2) (id 1)) ∷ op.Text (Inside (id 3)) (codes "x") ∷ []

before-a_table : outer_text (acts new_doc (foster_page [])).tree 0 ≡ codes "<html><body><b>x</b><table></table><!--c--></body></html>"
unfolding act acts outer_text
before-a_table = refl

table-taken_out : outer_text (acts new_doc (foster_page (op.Detach (id 2) ∷ []))).tree 0 ≡ codes "<html><body><!--c--><b>x</b></body></html>"
unfolding act acts outer_text
table-taken_out = refl

-- ---- a template's contents are made with it, hold what is put inside it, and aren't in the Document

abbrev templates : Doc
templates = acts new_doc (
    op.Make (id 0) (Known Html) [] ∷ op.Put (id 0) Page ∷ op.Make (id 1) (Known Template) [] ∷ op.Put (id 1) (Inside (id 0))
    ∷ op.Make (id 2) (Known Script) named ∷ op.Put (id 2) (Inside (id 1)) ∷ op.Text (Inside (id 2)) (codes "s")
    ∷ op.Make (id 3) (Known B) [] ∷ op.Put (id 3) (Contents (id 1)) ∷ op.Text (Contents (id 3)) (codes "t") ∷ [])

template-contents : contents_of templates.tree 2 ≡ Some 3
unfolding act acts
template-contents = refl

template-children : children_of templates.tree 2 ≡ []
unfolding act acts
template-children = refl

template-shown : outer_text templates.tree 0 ≡ codes "<html><template><script id=\"t\">s</script><b>t</b></template></html>"
unfolding act acts outer_text
template-shown = refl

-- a script in there is still, and isn't found
template-script : prepare templates.tree 4 ≡ still
unfolding act acts is_connected prepare
template-script = refl

template-searched : find_id templates.tree (codes "t") ≡ None
unfolding act acts find_id
template-searched = refl

-- a template can't be put into its own contents
template-into_itself : outer_text (act templates (op.Put (id 1) (Inside (id 3)))).tree 0 ≡ codes "<html><template><script id=\"t\">s</script><b>t</b></template></html>"
unfolding act acts outer_text
template-into_itself = refl

-- the children of another element go into the contents of a template, and out of them none come
into-a_template : outer_text (act templates (op.MoveChildren (id 3) (id 1))).tree 0 ≡ codes "<html><template><script id=\"t\">s</script><b></b>t</template></html>"
unfolding act acts outer_text
into-a_template = refl

out-of_a_template : outer_text (act templates (op.MoveChildren (id 1) (id 0))).tree 0 ≡ codes "<html><template><script id=\"t\">s</script><b>t</b></template></html>"
unfolding act acts outer_text
out-of_a_template = refl

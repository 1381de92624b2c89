-- Worked dumps of trees, by computation.
use Rattle.std.proofs.Common.{◌≡◌, ℕ, true, List, [], ◌∷◌, ◌++◌, Some, option_map, refl, codes}
use Rattle.std.specs.Prelude.{encode_utf8_all}
use Rattle.std.specs.Char.{encode_utf8}
use Rattle.std.specs.Fmt.{digits}
use Rattle.json.proofs.OnLiterals.{json_on_literals}
use Rattle.html_types.specs.declared.ending.Ending.TheVariants as ending
use Rattle.html_types.specs.declared.tree.Node.{Node}
use Rattle.html_types.specs.declared.tree.Kind.{Kind}
use Rattle.html_types.specs.declared.tree.Kind.TheVariants as kind
use Rattle.html_types.specs.declared.name.Name.TheVariants.{Known}
use Rattle.html_types.specs.declared.word.Word.{Word}
use Rattle.html_types.specs.declared.word.Word.TheVariants.{Html, Head, Body, Br, Script, Template}
use Rattle.standard.specs.Tree.{lone}
use Rattle.serial.specs.Serial.{serial_with}
use Rattle.serial.specs.Dump.{dump_lines, dump_text}
use Rattle.serial.specs.Output.{output_with}
use Rattle.standard_examples.proofs.OnLiterals.{serial_on_literals}
use Rattle.standard_examples.proofs.Rows.{without_files}

-- a node of that kind under a parent, with these children
abbrev under : ℕ → Kind → List ℕ → Node
under p k children = record (lone k) { parent = Some p; children = children }

abbrev element : Word → Kind
element w = kind.Element (Known w) []

-- a script that removed itself, with its text: nothing is written of it
removed_script : dump_text (
    (record (lone kind.Document) { children = 1 ∷ [] })
    ∷ under 0 (element Html) (2 ∷ 3 ∷ [])
    ∷ under 1 (element Head) []
    ∷ under 1 (element Body) (4 ∷ [])
    ∷ under 3 (kind.Text (codes "ab")) []
    ∷ (record (lone (element Script)) { children = 6 ∷ [] })
    ∷ under 5 (kind.Text (codes "x")) []
    ∷ [])
    ≡ codes "node 0 element \"html\"\nnode 1 element \"head\"\nnode 1 element \"body\"\nnode 2 text \"ab\"\nend\n"
unfolding dump_lines digits encode_utf8 json_on_literals
removed_script = refl

-- a template's contents stand before its children
template_with_children : dump_text (
    (record (lone kind.Document) { children = 1 ∷ [] })
    ∷ (record (under 0 (element Template) (4 ∷ [])) { contents = Some 2 })
    ∷ (record (lone kind.Contents) { host = Some 1; children = 3 ∷ [] })
    ∷ under 2 (kind.Text (codes "in")) []
    ∷ under 1 (kind.Comment (codes "under")) []
    ∷ [])
    ≡ codes "node 0 element \"template\"\nnode 1 contents\nnode 2 text \"in\"\nnode 1 comment \"under\"\nend\n"
unfolding dump_lines digits encode_utf8 json_on_literals
template_with_children = refl

-- what stands under a void element is written, unlike in the text of a tree
child_of_a_void_element : dump_text (
    (record (lone kind.Document) { children = 1 ∷ [] })
    ∷ under 0 (element Br) (2 ∷ [])
    ∷ under 1 (kind.Text (codes "a\"\\<&" ++ 10 ∷ 1 ∷ 233 ∷ 0x1D11E ∷ [])) []
    ∷ [])
    ≡ codes "node 0 element \"br\"\nnode 1 text \"a\\\"\\\\<&\\n\\u0001" ++ encode_utf8_all (233 ∷ 0x1D11E ∷ []) ++ codes "\"\nend\n"
unfolding dump_lines digits encode_utf8 json_on_literals
child_of_a_void_element = refl

a_page : option_map (output_with true) (serial_with 10000 (record { text = codes "<!DOCTYPE html><!--c--><p id=k class='\"'>a<b>d<!---->e</p>"; ending = ending.End }) (without_files []))
    ≡ Some (codes "node 0 doctype \"html\"\nnode 0 comment \"c\"\nnode 0 element \"html\"\nnode 1 element \"head\"\nnode 1 element \"body\"\nnode 2 element \"p\" \"id\" \"k\" \"class\" \"\\\"\"\nnode 3 text \"a\"\nnode 3 element \"b\"\nnode 4 text \"d\"\nnode 4 comment \"\"\nnode 4 text \"e\"\nend\n")
unfolding serial_on_literals dump_lines output_with
a_page = refl

-- a template is made with its contents, and a script in them doesn't run
a_template : option_map (output_with true) (serial_with 10000 (record { text = codes "<template>x<script>document.write('n');</script></template>y"; ending = ending.End }) (without_files []))
    ≡ Some (codes "node 0 element \"html\"\nnode 1 element \"head\"\nnode 2 element \"template\"\nnode 3 contents\nnode 4 text \"x\"\nnode 4 element \"script\"\nnode 5 text \"document.write('n');\"\nnode 1 element \"body\"\nnode 2 text \"y\"\nend\n")
unfolding serial_on_literals dump_lines output_with
a_template = refl

-- the lines of the scripts stand before it, and a refusal has no dump
a_refused_page : option_map (output_with true) (serial_with 10000 (record { text = codes "<script>x</script>"; ending = ending.Bad }) (without_files []))
    ≡ Some (codes "syntax 1\nrefused bad-utf8\n")
unfolding serial_on_literals dump_lines output_with
a_refused_page = refl

-- a foreign element's name has its namespace before it, and attributes have their names as they are respelt; in svg a `math` is of SVG
foreign_elements : option_map (output_with true) (serial_with 10000 (record { text = codes "<svg viewbox=0><lineargradient/><math></svg><math definitionurl=u viewbox=v><mi xlink:href=h>x"; ending = ending.End }) (without_files []))
    ≡ Some (codes "node 0 element \"html\"\nnode 1 element \"head\"\nnode 1 element \"body\"\nnode 2 element \"svg svg\" \"viewBox\" \"0\"\nnode 3 element \"svg linearGradient\"\nnode 3 element \"svg math\"\nnode 2 element \"math math\" \"definitionURL\" \"u\" \"viewbox\" \"v\"\nnode 3 element \"math mi\" \"xlink:href\" \"h\"\nnode 4 text \"x\"\nend\n")
unfolding serial_on_literals dump_lines output_with
foreign_elements = refl

-- a template of SVG has no contents
foreign_template : option_map (output_with true) (serial_with 10000 (record { text = codes "<svg><template>a"; ending = ending.End }) (without_files []))
    ≡ Some (codes "node 0 element \"html\"\nnode 1 element \"head\"\nnode 1 element \"body\"\nnode 2 element \"svg svg\"\nnode 3 element \"svg template\"\nnode 4 text \"a\"\nend\n")
unfolding serial_on_literals dump_lines output_with
foreign_template = refl

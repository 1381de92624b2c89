-- What the program writes, in bytes.
use Rattle.std.specs.Prelude.{ℕ, Bool, true, false, List, [], ◌++◌, flat_map, decimal, codes}
use Rattle.html_types.specs.declared.ending.Why.{Why}
use Rattle.html_types.specs.declared.ending.Why.TheVariants as why
use Rattle.serial.specs.declared.script.Line.{Line}
use Rattle.serial.specs.declared.script.Line.TheVariants.{Log, Throw, Syntax, Miss}
use Rattle.standard.specs.Tree.{Nodes}
use Rattle.standard.specs.Outer.{document_text}
use Rattle.serial.specs.Dump.{dump_text}
pub use Rattle.serial.specs.Dump.{json_string}
use Rattle.serial.specs.Serial.{Result, finished, refused, Outcome}

abbrev pub line_text : Line → List ℕ
line_text (Log n t) = codes "log " ++ decimal n ++ codes " " ++ json_string t ++ codes "\n"
line_text (Throw n) = codes "throw " ++ decimal n ++ codes "\n"
line_text (Syntax n) = codes "syntax " ++ decimal n ++ codes "\n"
line_text (Miss t) = codes "miss " ++ json_string t ++ codes "\n"

abbrev pub refusal_text : Why → List ℕ
refusal_text why.BadUtf8 = codes "refused bad-utf8\n"
refusal_text why.Depth = codes "refused depth\n"
refusal_text why.Writes = codes "refused writes\n"
refusal_text why.Page = codes "refused page\n"
refusal_text why.Fault = []

abbrev pub tree_text : Nodes → List ℕ
tree_text t = codes "tree " ++ json_string (document_text t) ++ codes "\n"

-- the text of the tree, or its dump
abbrev pub tree_lines : Bool → Nodes → List ℕ
tree_lines false t = tree_text t
tree_lines true t = dump_text t

abbrev pub result_with : Bool → Result → Nodes → List ℕ
result_with dump finished t = tree_lines dump t
result_with dump (refused w) t = refusal_text w

-- the lines of the scripts in order, then what the parse came to, with the tree's dump in place of its text where it is asked for
unfoldable pub output_with : Bool → Outcome → List ℕ
output_with dump o = flat_map line_text o.last.side.lines ++ result_with dump o.result o.last.side.doc.tree

-- without the dump
abbrev pub output : Outcome → List ℕ
output = output_with false

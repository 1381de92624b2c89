-- How what came of a page is written: with the tree's text or its dump, and behind it a line for each watcher.
use Rattle.std.specs.Prelude.{ℕ, zero, suc, Bool, List, [], ◌++◌, flat_map}
use Rattle.standard.specs.Tree.{Nodes}
use Rattle.standard.specs.Outer.{document_text}
use Rattle.serial.specs.Output.{line_text, tree_lines, refusal_text}
use Rattle.serial.specs.Serial.{Result, finished, refused, Outcome}
use Rattle.page_turns.specs.Watched.{watch_text}
use Rattle.command_words.specs.Words.{PageAsked}

-- with the dump in place of the text, and for so many watchers
pub record Manner : Type 0 where
  pub dump : Bool
  pub watchers : ℕ

abbrev pub manner : Bool → ℕ → Manner
manner dump watchers = record { dump = dump; watchers = watchers }

-- as the words ask for it
abbrev pub manner_of : PageAsked → Manner
manner_of asked = manner asked.dump asked.watch

-- each of so many watchers saw that text last
abbrev pub watch_lines : ℕ → List ℕ → List ℕ
watch_lines zero text = []
watch_lines (suc n) text = watch_lines n text ++ watch_text (suc n) text

-- what is written behind the lines of the scripts: where the parse finished the tree and the watchers' lines, else the word of the refusal
abbrev pub result_in : Manner → Result → Nodes → List ℕ
result_in m finished t = tree_lines m.dump t ++ watch_lines m.watchers (document_text t)
result_in m (refused w) t = refusal_text w

-- all that is written of a page
unfoldable pub output_in : Manner → Outcome → List ℕ
output_in m o = flat_map line_text o.last.side.lines ++ result_in m o.result o.last.side.doc.tree

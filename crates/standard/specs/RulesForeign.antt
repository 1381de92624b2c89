-- The rows of the rules for parsing tokens in foreign content (13.2.6.5 #parsing-main-inforeign):
-- what is done at each token. A comment is inserted, and a doctype left out. The end of the input
-- never goes by them.
use Rattle.std.specs.Prelude.{ℕ, ◌==◌, if◌then◌else◌, List, [], ◌∷◌}
use Rattle.html_types.specs.declared.word.Word.{Word}
use Rattle.html_types.specs.declared.word.Word.TheVariants.{Br, P}
use Rattle.html_types.specs.declared.instruction.Instr.{Instr}
use Rattle.html_types.specs.declared.instruction.Instr.TheVariants.{When, InsertForeign, InsertText, InsertReplacement, Pop, BreakOut, ForeignEnd, FramesetNotOk}
use Rattle.html_types.specs.declared.instruction.Test.TheVariants.{SelfClosing, BreaksOut}
use Rattle.standard.specs.WhiteSpace.{is_space}

abbrev pub in_foreign_character : ℕ → List Instr
in_foreign_character c = if c == 0 then InsertReplacement ∷ [] else (if is_space c then InsertText ∷ [] else InsertText ∷ FramesetNotOk ∷ [])

abbrev pub in_foreign_any_start : List Instr
in_foreign_any_start = When BreaksOut ∷ BreakOut ∷ InsertForeign ∷ When SelfClosing ∷ Pop ∷ []

abbrev pub in_foreign_end : List (List Word × List Instr)
in_foreign_end = (
  Br ∷ P ∷ [],
  BreakOut ∷ [],
) ∷ []

abbrev pub in_foreign_any_end : List Instr
in_foreign_any_end = ForeignEnd ∷ []

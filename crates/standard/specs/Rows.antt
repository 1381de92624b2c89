-- The form of a table of rules: each row has the names that it is for, and what is done.
--
-- What is done is a list of instructions, in order (specs/Instructions). `Need` and `Forbid` end the row, and so ignore the token, where
-- their test fails or holds; `When` and `Unless` skip the one instruction behind them. An instruction that leaves the row (`Reprocess`, `UsingRules`,
-- `InBodyFostering`, `Adopt`, `StopAtScript`, `Finish`, ..) stands last, or behind a `When` or `Unless`: what stands behind it then isn't done. No
-- instruction: the token is ignored.
use Rattle.std.specs.Prelude.{Bool, false, ◌||◌, if◌then◌else◌, List, [], ◌∷◌}
use denote.Enum.Bare.{sameb}
use Rattle.html_types.specs.declared.word.Word.{Word}
use Rattle.html_types.specs.contracts.word.Word.{the_type}
use Rattle.html_types.specs.declared.name.Name.{Name}
use Rattle.html_types.specs.declared.name.Name.TheVariants.{Known, Other}
use Rattle.html_types.specs.declared.instruction.Instr.{Instr}

abbrev pub has_word : List Word → Word → Bool
has_word [] w = false
has_word (x ∷ xs) w = sameb the_type w x || has_word xs w

-- the name is one of these words
abbrev pub is_among : List Word → Name → Bool
is_among ws (Known w) = has_word ws w
is_among ws (Other s t) = false

-- the first row that has the name; where none has it, the last instructions
abbrev pub row_for : List (List Word × List Instr) → List Instr → Name → List Instr
row_for [] other n = other
row_for (r ∷ rs) other n = if is_among r.0 n then r.1 else row_for rs other n

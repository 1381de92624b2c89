-- The rows of the tables keep what is said of the stack.
use mathlib.Core.Path.{fun_ext}
use Rattle.std.proofs.Common.{◌≡◌, refl, sym, subst, ℕ, zero, suc, ◌==◌, Bool, true, false, ◌&&◌, List}
use Rattle.std.specs.Prelude.{if◌then◌else◌}
use Rattle.html_types.specs.declared.word.Word.{Word}
use Rattle.html_types.specs.declared.word.Word.TheVariants as word
use Rattle.html_types.specs.declared.name.Space.{Space}
use Rattle.html_types.specs.declared.name.Name.{Name}
use Rattle.html_types.specs.declared.name.Name.TheVariants.{Known, Other}
use Rattle.html_types.specs.declared.instruction.Instr.{Instr}
use Rattle.html_types.specs.declared.instruction.Mode.{Mode}
use Rattle.html_types.specs.declared.instruction.Mode.TheVariants as mode
use Rattle.html_types.specs.declared.token.Token.{Token}
use Rattle.html_types.specs.declared.token.Token.TheVariants.{StartTag, EndTag, Character, Comment, Doctype, EndOfFile}
use Rattle.standard.specs.WhiteSpace.{is_space}
use Rattle.standard.specs.Rules.{row, start_row, end_row, comment_row, doctype_row, end_of_file_row}
use Rattle.stack_laws.specs.Grounded.{}
use Rattle.rule_laws.specs.Proper.{is_main_mode, is_early, is_late}
use Rattle.rule_laws.specs.Rounds.{is_insertion_mode}
use Rattle.stack_laws.proofs.Grounds.{own_named, own_of, Own, no_tag, other_name, own_word, nothing, text_top}
use Rattle.stack_laws.proofs.GroundRows.{grounds, start}
use Rattle.rule_laws.proofs.Rows.{modes, every, each, character_rows, character-rows}

-- by the rules of a mode, where the main mode is that one; by those of others at most so many times
unfoldable pub keeps_ground : ℕ → Own → (Mode → List Instr) → Mode → Mode → Bool
keeps_ground zero o rows now m = false
keeps_ground (suc k) o rows now m = is_main_mode m && grounds (λ n m'. keeps_ground k o rows n m') o (start now false false nothing) false (rows m)

abbrev pub depth : ℕ
depth = 5

-- in each main mode by its own rules, by those of the mode "text", and by those of "in table text"
abbrev pub main_ground : Own → (Mode → List Instr) → Mode → Bool
main_ground o rows m = keeps_ground depth o rows m m

abbrev pub text_ground : Own → (Mode → List Instr) → Mode → Bool
text_ground o rows m = grounds (λ n m'. false) o (start m true true text_top) false (rows mode.InText)

abbrev pub table_text_ground : Own → (Mode → List Instr) → Mode → Bool
table_text_ground o rows m = grounds (λ n m'. false) o (start m true false nothing) false (rows mode.InTableText)

abbrev pub mode_ground : Own → (Mode → List Instr) → Mode → Bool
mode_ground o rows m = if is_late m then main_ground o rows m && (text_ground o rows m && table_text_ground o rows m) else (if is_early m then main_ground o rows m else true)

abbrev pub all_ground : Own → (Mode → List Instr) → Bool
all_ground o rows = every (mode_ground o rows) modes

words-start : (w : Word) → all_ground (own_word w) (λ m. start_row m (Known w)) ≡ true
unfolding keeps_ground
words-start word.A = refl
words-start _ = refl

others-start : (s : Space) (t : List ℕ) → all_ground other_name (λ m. start_row m (Other s t)) ≡ true
unfolding keeps_ground
others-start s t = refl

words-end : (w : Word) → all_ground (own_word w) (λ m. end_row m (Known w)) ≡ true
unfolding keeps_ground
words-end word.A = refl
words-end _ = refl

others-end : (s : Space) (t : List ℕ) → all_ground other_name (λ m. end_row m (Other s t)) ≡ true
unfolding keeps_ground
others-end s t = refl

characters : (nul space : Bool) → all_ground no_tag (character_rows nul space) ≡ true
unfolding keeps_ground
characters true true = refl
characters true false = refl
characters false true = refl
characters false false = refl

comments : all_ground no_tag comment_row ≡ true
unfolding keeps_ground
comments = refl

doctypes : all_ground no_tag doctype_row ≡ true
unfolding keeps_ground
doctypes = refl

ends : all_ground no_tag end_of_file_row ≡ true
unfolding keeps_ground
ends = refl

named-start : (n : Name) → all_ground (own_named n) (λ m. start_row m n) ≡ true
named-start (Known w) = words-start w
named-start (Other s t) = others-start s t

named-end : (n : Name) → all_ground (own_named n) (λ m. end_row m n) ≡ true
named-end (Known w) = words-end w
named-end (Other s t) = others-end s t

token-ground : (t : Token) → all_ground (own_of t) (λ m. row m t) ≡ true
unfolding row
token-ground (StartTag tag) = named-start tag.name
token-ground (EndTag tag) = named-end tag.name
token-ground (Character c) = subst (λ rows. all_ground no_tag rows ≡ true) (sym (fun_ext (λ m. character-rows c m))) (characters (c == 0) (is_space c))
token-ground (Comment text) = comments
token-ground (Doctype name force) = doctypes
token-ground EndOfFile = ends

pub ground-table : (t : Token) (m : Mode) → is_insertion_mode m ≡ true → mode_ground (own_of t) (λ m'. row m' t) m ≡ true
ground-table t m h = each (mode_ground (own_of t) (λ m'. row m' t)) (token-ground t) m h

-- Each mode comes to an end in a few rounds, or to a round that makes the weight less: the rows say so.
use Rattle.std.proofs.Common.{◌≡◌, refl, sym, subst, ℕ, true≢false, zero, suc, ◌+◌, ◌≤◌, ◌==◌, nat_le, Bool, true, false, ◌&&◌, List, [], ◌∷◌, arith}
use Rattle.std.specs.Prelude.{if◌then◌else◌}
use Rattle.html_types.specs.declared.word.Word.{Word}
use Rattle.html_types.specs.declared.word.Word.TheVariants.{A}
use Rattle.html_types.specs.declared.word.Word.TheVariants as word
use Rattle.html_types.specs.declared.name.Space.{Space}
use Rattle.html_types.specs.declared.name.Name.{Name}
use Rattle.html_types.specs.declared.name.Name.TheVariants.{Known, Other}
use Rattle.html_types.specs.declared.instruction.Instr.{Instr}
use Rattle.html_types.specs.declared.instruction.Instr.TheVariants as ins
use Rattle.html_types.specs.declared.instruction.Who.TheVariants as who
use Rattle.html_types.specs.declared.instruction.Mode.{Mode}
use Rattle.html_types.specs.declared.instruction.Mode.TheVariants.{Initial, BeforeHtml, BeforeHead, InHead, AfterHead, InBody, InText, InTable, InTableText, InCaption, InColumnGroup, InTableBody, InRow, InCell, InSelect, InSelectInTable, InTemplate, AfterBody, InFrameset, AfterFrameset, AfterAfterBody, AfterAfterFrameset, InForeign}
use Rattle.html_types.specs.declared.instruction.Flow.TheVariants.{On, Skip}
use Rattle.html_types.specs.declared.token.Token.{Token}
use Rattle.html_types.specs.declared.token.Token.TheVariants.{Character, EndOfFile}
use Rattle.html_types.specs.declared.operation.Op.{Op}
use Rattle.html_types.specs.declared.open.Open.{Open}
use Rattle.standard.specs.WhiteSpace.{is_space}
use Rattle.standard.specs.Elements.{is_meant}
use Rattle.standard.specs.Stack.{on_stack, until}
use Rattle.standard.specs.Instructions.{config, on, run}
use Rattle.standard.specs.RulesHead.{initial_anything, before_html_anything, before_head_anything, in_head_anything, after_head_anything}
use Rattle.standard.specs.RulesBody.{in_body_space, in_body_character, after_body_anything, after_after_body_anything}
use Rattle.standard.specs.RulesTable.{in_table_character, in_caption_anything, in_column_group_anything, in_table_body_anything, in_row_anything, in_cell_anything}
use Rattle.standard.specs.RulesRest.{in_select_in_table_anything, in_frameset_anything, after_frameset_anything, after_after_frameset_anything}
use Rattle.standard.specs.Rules.{row, start_row, end_row, comment_row, doctype_row, end_of_file_row}
use Rattle.rule_laws.specs.Rounds.{is_insertion_mode}
use Rattle.rule_laws.proofs.Counts.{add, count, until-falls, until-fewer, all, is_weighty, weighty-word}
use Rattle.rule_laws.proofs.Readings.{weight_of, Fit, no_more, fallen, Way, onto, anew, falls, walk, Fine}
use Rattle.rule_laws.proofs.Calm.{split}
use Rattle.rule_laws.proofs.Walk.{run-walk}

-- ---- rounds, as the rows alone say

-- what the round of a mode comes to, where the function says of each way whether the token may go on so
abbrev pub Table : Type 0
Table = Mode → (Way → Bool) → Bool

-- the weight may fall that many times less one in the rounds that are allowed
abbrev pub span : ℕ
span = 7

-- Within so many rounds the token is done, or the weight is less. `foreign` says whether the token may go by the rules for foreign content: then
-- one round more may come before each round in which it is processed once more. `first` says that this one comes now, and `limit` is the number
-- of rounds in which each mode settles
unfoldable pub settles : Bool → ℕ → Table → ℕ → Bool → Mode → Bool
settles foreign limit round zero first m = false
settles foreign limit round (suc k) true m = settles foreign limit round k false m
settles foreign limit round (suc k) false m =
    is_insertion_mode m && round m (λ w. elim w as (λ _. Bool) [
      | onto n ↦ settles foreign limit round k false n
      | anew n ↦ settles foreign limit round k foreign n
      | falls ↦ nat_le (add foreign limit) (k + span)
    ])

abbrev pub by_rows : Bool → (Mode → List Instr) → Table
by_rows x rows m h = walk x h no_more false (rows m)

abbrev pub Sound : Bool → Token → Table → Type 0
Sound x t round = (h : Way → Bool) (v : ℕ) (m : Mode) (b : Open) (o : List Op) → Fit b → weight_of x b ≤ v → round m h ≡ true → Fine x h v (run t (on b o) (row m t))

pub rows-sound : (x : Bool) (t : Token) (rows : Mode → List Instr) → ((m : Mode) → row m t ≡ rows m) → Sound x t (by_rows x rows)
rows-sound x t rows same h v m b o s w e =
    let P : List Instr → Type 0 = λ r. walk x h no_more false r ≡ true in
    run-walk x h v t (row m t) no_more false b o s w (subst P (sym (same m)) e)

-- ---- all modes

abbrev pub modes : List Mode
modes = Initial ∷ BeforeHtml ∷ BeforeHead ∷ InHead ∷ AfterHead ∷ InBody ∷ InText ∷ InTable ∷ InTableText ∷ InCaption ∷ InColumnGroup ∷ InTableBody ∷ InRow ∷ InCell ∷ InSelect ∷ InSelectInTable ∷ InTemplate ∷ AfterBody ∷ InFrameset ∷ AfterFrameset ∷ AfterAfterBody ∷ AfterAfterFrameset ∷ []

abbrev pub every : (Mode → Bool) → List Mode → Bool
every f [] = true
every f (m ∷ ms) = f m && every f ms

abbrev index : Mode → ℕ
index Initial = 0
index BeforeHtml = 1
index BeforeHead = 2
index InHead = 3
index AfterHead = 4
index InBody = 5
index InText = 6
index InTable = 7
index InTableText = 8
index InCaption = 9
index InColumnGroup = 10
index InTableBody = 11
index InRow = 12
index InCell = 13
index InSelect = 14
index InSelectInTable = 15
index InTemplate = 16
index AfterBody = 17
index InFrameset = 18
index AfterFrameset = 19
index AfterAfterBody = 20
index AfterAfterFrameset = 21
index InForeign = 22

abbrev nth : ℕ → List Mode → Mode
nth k [] = Initial
nth zero (m ∷ ms) = m
nth (suc k) (m ∷ ms) = nth k ms

nth-holds : (f : Mode → Bool) (ms : List Mode) (k : ℕ) → f Initial ≡ true → every f ms ≡ true → f (nth k ms) ≡ true
nth-holds f [] k i e = i
nth-holds f (m ∷ ms) zero i e = (split (f m) (every f ms) e).0
nth-holds f (m ∷ ms) (suc k) i e = nth-holds f ms k i (split (f m) (every f ms) e).1

index-mode : (m : Mode) → is_insertion_mode m ≡ true → nth (index m) modes ≡ m
index-mode InForeign h = absurd (true≢false (sym h))
index-mode _ h = refl

pub each : (f : Mode → Bool) → every f modes ≡ true → (m : Mode) → is_insertion_mode m ≡ true → f m ≡ true
each f e m h =
    let P : Mode → Type 0 = λ n. f n ≡ true in
    subst P (index-mode m h) (nth-holds f modes (index m) (first e) e)
  where
    first : every f modes ≡ true → f Initial ≡ true
    first g = nth-holds f modes 0 (split (f Initial) _ g).0 g

-- no mode takes more rounds, those by the rules for foreign content counted
abbrev pub chain : ℕ
chain = 16

-- nor at the end of the input, which never goes by those
abbrev pub end_chain : ℕ
end_chain = 7

abbrev pub settles_with : Table → Mode → Bool
settles_with round m = settles true chain round chain false m

-- ---- characters, of which a rule asks whether they are NUL, and whether they are white space

abbrev pub character_rows : Bool → Bool → Mode → List Instr
character_rows nul space Initial = if space then [] else initial_anything
character_rows nul space BeforeHtml = if space then [] else before_html_anything
character_rows nul space BeforeHead = if space then [] else before_head_anything
character_rows nul space InHead = if space then ins.InsertText ∷ [] else in_head_anything
character_rows nul space AfterHead = if space then ins.InsertText ∷ [] else after_head_anything
character_rows nul space InBody = if nul then [] else (if space then in_body_space else in_body_character)
character_rows nul space InText = ins.InsertText ∷ []
character_rows nul space InTable = in_table_character
character_rows nul space InTableText = if nul then [] else ins.AppendPending ∷ []
character_rows nul space InCaption = in_caption_anything
character_rows nul space InColumnGroup = if space then ins.InsertText ∷ [] else in_column_group_anything
character_rows nul space InTableBody = in_table_body_anything
character_rows nul space InRow = in_row_anything
character_rows nul space InCell = in_cell_anything
character_rows nul space InSelect = if nul then [] else ins.InsertText ∷ []
character_rows nul space InSelectInTable = in_select_in_table_anything
character_rows nul space InTemplate = ins.UsingRules InBody ∷ []
character_rows nul space AfterBody = if space then ins.UsingRules InBody ∷ [] else after_body_anything
character_rows nul space InFrameset = if space then ins.InsertText ∷ [] else in_frameset_anything
character_rows nul space AfterFrameset = if space then ins.InsertText ∷ [] else after_frameset_anything
character_rows nul space AfterAfterBody = if space then ins.UsingRules InBody ∷ [] else after_after_body_anything
character_rows nul space InForeign = if nul then ins.InsertReplacement ∷ [] else (if space then ins.InsertText ∷ [] else ins.InsertText ∷ ins.FramesetNotOk ∷ [])
character_rows nul space AfterAfterFrameset = if space then ins.UsingRules InBody ∷ [] else after_after_frameset_anything

pub character-rows : (c : ℕ) (m : Mode) → row m (Character c) ≡ character_rows (c == 0) (is_space c) m
unfolding row
character-rows c Initial = refl
character-rows c _ = refl

characters : (nul space : Bool) → every (settles_with (by_rows true (character_rows nul space))) modes ≡ true
unfolding settles
characters true true = refl
characters true false = refl
characters false true = refl
characters false false = refl

pub characters-settle : (nul space : Bool) (m : Mode) → is_insertion_mode m ≡ true → settles_with (by_rows true (character_rows nul space)) m ≡ true
characters-settle nul space = each (settles_with (by_rows true (character_rows nul space))) (characters nul space)

-- ---- tags

words-start : (w : Word) → every (settles_with (by_rows false (λ m'. start_row m' (Known w)))) modes ≡ true
unfolding settles
words-start A = refl
words-start _ = refl

others-start : (s : Space) (t : List ℕ) → every (settles_with (by_rows false (λ m'. start_row m' (Other s t)))) modes ≡ true
unfolding settles
others-start s t = refl

pub starts-settle : (n : Name) (m : Mode) → is_insertion_mode m ≡ true → settles_with (by_rows false (λ m'. start_row m' n)) m ≡ true
starts-settle (Known w) = each (settles_with (by_rows false (λ m'. start_row m' (Known w)))) (words-start w)
starts-settle (Other s t) = each (settles_with (by_rows false (λ m'. start_row m' (Other s t)))) (others-start s t)

words-end : (w : Word) → every (settles_with (by_rows false (λ m'. end_row m' (Known w)))) modes ≡ true
unfolding settles
words-end A = refl
words-end _ = refl

others-end : (s : Space) (t : List ℕ) → every (settles_with (by_rows false (λ m'. end_row m' (Other s t)))) modes ≡ true
unfolding settles
others-end s t = refl

pub ends-settle : (n : Name) (m : Mode) → is_insertion_mode m ≡ true → settles_with (by_rows false (λ m'. end_row m' n)) m ≡ true
ends-settle (Known w) = each (settles_with (by_rows false (λ m'. end_row m' (Known w)))) (words-end w)
ends-settle (Other s t) = each (settles_with (by_rows false (λ m'. end_row m' (Other s t)))) (others-end s t)

-- ---- comments and doctypes

comments : every (settles_with (by_rows false comment_row)) modes ≡ true
unfolding settles
comments = refl

pub comments-settle : (m : Mode) → is_insertion_mode m ≡ true → settles_with (by_rows false comment_row) m ≡ true
comments-settle = each (settles_with (by_rows false comment_row)) comments

doctypes : every (settles_with (by_rows false doctype_row)) modes ≡ true
unfolding settles
doctypes = refl

pub doctypes-settle : (m : Mode) → is_insertion_mode m ≡ true → settles_with (by_rows false doctype_row) m ≡ true
doctypes-settle = each (settles_with (by_rows false doctype_row)) doctypes

-- ---- the end of the file

-- "in template" pops a template, or parsing stops
abbrev pub at_end : Table
at_end InTemplate h = h falls
at_end m h = walk false h no_more false (end_of_file_row m)

abbrev pub settles_at_end : Mode → Bool
settles_at_end m = settles false end_chain at_end end_chain false m

ends : every settles_at_end modes ≡ true
unfolding settles
ends = refl

pub end-settles : (m : Mode) → is_insertion_mode m ≡ true → settles_at_end m ≡ true
end-settles = each settles_at_end ends

-- behind the test of whether a template is open
abbrev behind_test : List Instr
behind_test = ins.Finish ∷ ins.PopUntil (who.The word.Template) ∷ ins.ClearToMarker ∷ ins.PopTemplateMode ∷ ins.ResetMode ∷ ins.Reprocess ∷ []

template-end : (h : Way → Bool) (v : ℕ) (b : Open) (o : List Op) → Fit b → weight_of false b ≤ v → h falls ≡ true → (there : Bool) → on_stack (is_meant (who.The word.Template) EndOfFile) b.stack ≡ there
    → Fine false h v (run EndOfFile (config b o (if there then Skip else On)) behind_test)
unfolding run
template-end h v b o s w f true e =
    let is : Name → Bool = is_meant (who.The word.Template) EndOfFile in
    let b' : Open = record b { stack = until is b.stack } in
    let less = until-falls is_weighty is (weighty-word word.Template refl) b.stack e in
    let fewer = until-fewer all is b.stack in
    let l : count all b.stack ≤ 512 = s.0 in
    run-walk false h v EndOfFile (ins.ClearToMarker ∷ ins.PopTemplateMode ∷ ins.ResetMode ∷ ins.Reprocess ∷ []) fallen false b' o (omega (arith, fewer, l), s.1) (omega (arith, less, w)) f
template-end h v b o s w f false e = tt

pub end-sound : Sound false EndOfFile at_end
unfolding row run
end-sound h v InTemplate b o s w e = template-end h v b o s w e (on_stack (is_meant (who.The word.Template) EndOfFile) b.stack) refl
end-sound h v m b o s w e = run-walk false h v EndOfFile (end_of_file_row m) no_more false b o s w e

-- Tree construction (13.2.6 #tree-construction): the row of a mode for a token, and what processing
-- a token comes to.
use Rattle.std.specs.Prelude.{ℕ, Bool, false, ◌==◌, ◌&&◌, if◌then◌else◌, List, [], ◌∷◌}
use Rattle.std.proofs.Common.{zero, suc}
use Rattle.html_types.specs.declared.word.Word.{Word}
use Rattle.html_types.specs.declared.name.Name.{Name}
use Rattle.html_types.specs.declared.instruction.Instr.{Instr}
use Rattle.html_types.specs.declared.instruction.Instr.TheVariants as ins
use Rattle.html_types.specs.declared.instruction.Mode.{Mode}
use Rattle.html_types.specs.declared.instruction.Mode.TheVariants.{Initial, BeforeHtml, BeforeHead, InHead, AfterHead, InBody, InText, InTable, InTableText, InCaption, InColumnGroup, InTableBody, InRow, InCell, InSelect, InSelectInTable, InTemplate, AfterBody, InFrameset, AfterFrameset, AfterAfterBody, AfterAfterFrameset, InForeign}
use Rattle.html_types.specs.declared.instruction.Flow.{Flow}
use Rattle.html_types.specs.declared.instruction.Flow.TheVariants.{On, Skip, Leave}
use Rattle.html_types.specs.declared.instruction.Next.{Next}
use Rattle.html_types.specs.declared.instruction.Next.TheVariants as next
use Rattle.html_types.specs.declared.instruction.Then.{Then}
use Rattle.html_types.specs.declared.token.Token.{Token}
use Rattle.html_types.specs.declared.token.Token.TheVariants.{StartTag, EndTag, Character, Comment, Doctype, EndOfFile}
use Rattle.html_types.specs.declared.operation.Op.{Op}
use Rattle.html_types.specs.declared.open.Open.{Open}
use Rattle.standard.specs.WhiteSpace.{is_space}
use Rattle.standard.specs.Rows.{row_for}
use Rattle.standard.specs.Foreign.{adjusted, goes_foreign}
use Rattle.standard.specs.Instructions.{Config, on, run}
use Rattle.standard.specs.Adoption.{Adopted, adopt}
use Rattle.standard.specs.RulesHead.{initial_doctype, initial_anything, before_html_start, before_html_end, before_html_anything, before_head_start, before_head_end, before_head_anything, in_head_start, in_head_end, in_head_anything, after_head_start, after_head_end, after_head_anything}
use Rattle.standard.specs.RulesBody.{in_body_space, in_body_character, in_body_start, in_body_any_start, in_body_end, in_body_any_end, in_body_end_of_file, after_adopt, in_text_end_of_file, in_text_end, in_text_any_end, after_body_start, after_body_end, after_body_anything, after_after_body_start, after_after_body_anything}
use Rattle.standard.specs.RulesTable.{in_table_character, in_table_start, in_table_any_start, in_table_end, in_table_any_end, in_table_text_anything, in_caption_start, in_caption_end, in_caption_anything, in_column_group_start, in_column_group_end, in_column_group_anything, in_table_body_start, in_table_body_end, in_table_body_anything, in_row_start, in_row_end, in_row_anything, in_cell_start, in_cell_end, in_cell_anything}
use Rattle.standard.specs.RulesRest.{in_select_start, in_select_any_start, in_select_end, in_select_any_end, in_select_in_table_start, in_select_in_table_end, in_select_in_table_anything, in_template_start, in_template_any_start, in_template_end, in_template_any_end, in_template_end_of_file, in_frameset_start, in_frameset_end, in_frameset_anything, after_frameset_start, after_frameset_end, after_frameset_anything, after_after_frameset_start, after_after_frameset_anything}
use Rattle.standard.specs.RulesForeign.{in_foreign_character, in_foreign_any_start, in_foreign_end, in_foreign_any_end}

-- ---- the table

-- what a rule tells apart among characters
abbrev pub character_row : Mode → ℕ → List Instr
character_row Initial c = if is_space c then [] else initial_anything
character_row BeforeHtml c = if is_space c then [] else before_html_anything
character_row BeforeHead c = if is_space c then [] else before_head_anything
character_row InHead c = if is_space c then ins.InsertText ∷ [] else in_head_anything
character_row AfterHead c = if is_space c then ins.InsertText ∷ [] else after_head_anything
character_row InBody c = if c == 0 then [] else (if is_space c then in_body_space else in_body_character)
character_row InText c = ins.InsertText ∷ []
character_row InTable c = in_table_character
character_row InTableText c = if c == 0 then [] else ins.AppendPending ∷ []
character_row InCaption c = in_caption_anything
character_row InColumnGroup c = if is_space c then ins.InsertText ∷ [] else in_column_group_anything
character_row InTableBody c = in_table_body_anything
character_row InRow c = in_row_anything
character_row InCell c = in_cell_anything
character_row InSelect c = if c == 0 then [] else ins.InsertText ∷ []
character_row InSelectInTable c = in_select_in_table_anything
character_row InTemplate c = ins.UsingRules InBody ∷ []
character_row AfterBody c = if is_space c then ins.UsingRules InBody ∷ [] else after_body_anything
character_row InFrameset c = if is_space c then ins.InsertText ∷ [] else in_frameset_anything
character_row AfterFrameset c = if is_space c then ins.InsertText ∷ [] else after_frameset_anything
character_row AfterAfterBody c = if is_space c then ins.UsingRules InBody ∷ [] else after_after_body_anything
character_row AfterAfterFrameset c = if is_space c then ins.UsingRules InBody ∷ [] else after_after_frameset_anything
character_row InForeign c = in_foreign_character c

-- a start tag
abbrev pub start_row : Mode → Name → List Instr
start_row Initial n = initial_anything
start_row BeforeHtml n = row_for before_html_start before_html_anything n
start_row BeforeHead n = row_for before_head_start before_head_anything n
start_row InHead n = row_for in_head_start in_head_anything n
start_row AfterHead n = row_for after_head_start after_head_anything n
start_row InBody n = row_for in_body_start in_body_any_start n
start_row InText n = []
start_row InTable n = row_for in_table_start in_table_any_start n
start_row InTableText n = in_table_text_anything
start_row InCaption n = row_for in_caption_start in_caption_anything n
start_row InColumnGroup n = row_for in_column_group_start in_column_group_anything n
start_row InTableBody n = row_for in_table_body_start in_table_body_anything n
start_row InRow n = row_for in_row_start in_row_anything n
start_row InCell n = row_for in_cell_start in_cell_anything n
start_row InSelect n = row_for in_select_start in_select_any_start n
start_row InSelectInTable n = row_for in_select_in_table_start in_select_in_table_anything n
start_row InTemplate n = row_for in_template_start in_template_any_start n
start_row AfterBody n = row_for after_body_start after_body_anything n
start_row InFrameset n = row_for in_frameset_start in_frameset_anything n
start_row AfterFrameset n = row_for after_frameset_start after_frameset_anything n
start_row AfterAfterBody n = row_for after_after_body_start after_after_body_anything n
start_row AfterAfterFrameset n = row_for after_after_frameset_start after_after_frameset_anything n
start_row InForeign n = in_foreign_any_start

-- an end tag
abbrev pub end_row : Mode → Name → List Instr
end_row Initial n = initial_anything
end_row BeforeHtml n = row_for before_html_end [] n
end_row BeforeHead n = row_for before_head_end [] n
end_row InHead n = row_for in_head_end [] n
end_row AfterHead n = row_for after_head_end [] n
end_row InBody n = row_for in_body_end in_body_any_end n
end_row InText n = row_for in_text_end in_text_any_end n
end_row InTable n = row_for in_table_end in_table_any_end n
end_row InTableText n = in_table_text_anything
end_row InCaption n = row_for in_caption_end in_caption_anything n
end_row InColumnGroup n = row_for in_column_group_end in_column_group_anything n
end_row InTableBody n = row_for in_table_body_end in_table_body_anything n
end_row InRow n = row_for in_row_end in_row_anything n
end_row InCell n = row_for in_cell_end in_cell_anything n
end_row InSelect n = row_for in_select_end in_select_any_end n
end_row InSelectInTable n = row_for in_select_in_table_end in_select_in_table_anything n
end_row InTemplate n = row_for in_template_end in_template_any_end n
end_row AfterBody n = row_for after_body_end after_body_anything n
end_row InFrameset n = row_for in_frameset_end in_frameset_anything n
end_row AfterFrameset n = row_for after_frameset_end after_frameset_anything n
end_row AfterAfterBody n = after_after_body_anything
end_row AfterAfterFrameset n = after_after_frameset_anything
end_row InForeign n = row_for in_foreign_end in_foreign_any_end n

-- where a mode says nothing of comments they go to the appropriate place
abbrev pub comment_row : Mode → List Instr
comment_row Initial = ins.CommentToPage ∷ []
comment_row BeforeHtml = ins.CommentToPage ∷ []
comment_row InTableText = in_table_text_anything
comment_row InTemplate = ins.UsingRules InBody ∷ []
comment_row AfterBody = ins.CommentToRoot ∷ []
comment_row AfterAfterBody = ins.CommentToPage ∷ []
comment_row AfterAfterFrameset = ins.CommentToPage ∷ []
comment_row _ = ins.InsertComment ∷ []

-- everywhere but at the beginning a doctype is left out
abbrev pub doctype_row : Mode → List Instr
doctype_row Initial = initial_doctype
doctype_row InTableText = in_table_text_anything
doctype_row InTemplate = ins.UsingRules InBody ∷ []
doctype_row _ = []

abbrev pub end_of_file_row : Mode → List Instr
end_of_file_row Initial = initial_anything
end_of_file_row BeforeHtml = before_html_anything
end_of_file_row BeforeHead = before_head_anything
end_of_file_row InHead = in_head_anything
end_of_file_row AfterHead = after_head_anything
end_of_file_row InBody = in_body_end_of_file
end_of_file_row InText = in_text_end_of_file
end_of_file_row InTable = ins.UsingRules InBody ∷ []
end_of_file_row InTableText = in_table_text_anything
end_of_file_row InCaption = in_caption_anything
end_of_file_row InColumnGroup = ins.UsingRules InBody ∷ []
end_of_file_row InTableBody = in_table_body_anything
end_of_file_row InRow = in_row_anything
end_of_file_row InCell = in_cell_anything
end_of_file_row InSelect = ins.UsingRules InBody ∷ []
end_of_file_row InSelectInTable = in_select_in_table_anything
end_of_file_row InTemplate = in_template_end_of_file
end_of_file_row AfterBody = ins.Finish ∷ []
end_of_file_row InFrameset = ins.Finish ∷ []
end_of_file_row AfterFrameset = ins.Finish ∷ []
end_of_file_row AfterAfterBody = ins.Finish ∷ []
end_of_file_row AfterAfterFrameset = ins.Finish ∷ []
end_of_file_row InForeign = []

-- the row of a mode for a token, or of the rules for foreign content
unfoldable pub row : Mode → Token → List Instr
row m (StartTag tag) = start_row m tag.name
row m (EndTag tag) = end_row m tag.name
row m (Character c) = character_row m c
row m (Comment text) = comment_row m
row m (Doctype name force) = doctype_row m
row m EndOfFile = end_of_file_row m

-- ---- processing a token

-- the open state, the operations so far, and what comes next
pub record Answer : Type 0 where
  pub open_state : Open
  pub ops : List Op
  pub next : Next

abbrev pub answer : Open → List Op → Next → Answer
answer b o n = record { open_state = b; ops = o; next = n }

-- what a row asks of its caller
abbrev pub next_of : Flow → Next
next_of On = next.Done
next_of Skip = next.Done
next_of (Leave n) = n

abbrev pub answer_of : Config → Answer
answer_of c = answer c.open_state c.ops (next_of c.flow)

-- by the rules of a mode
unfoldable pub by_mode : Mode → Token → Open → List Op → Answer
by_mode m t b o = answer_of (run t (on b o) (row m t))

-- the adoption agency algorithm (13.2.6.4.7 #parsing-main-inbody), and the rest of the row that
-- asked for it
unfoldable pub adopting : Word → Then → Token → Open → List Op → Answer
adopting w h t b o =
    let a : Adopted = adopt w b o in
    answer_of (run t (on a.open_state a.ops) (after_adopt h a.other))

-- what a row asks for is done where it is the adoption
abbrev pub with_adoption : Token → Open → List Op → Next → Answer
with_adoption t b o (next.Adopt w h) = adopting w h t b o
with_adoption t b o n = answer b o n

-- by the rules of a mode, the adoption too
abbrev pub by_rules : Mode → Token → Open → List Op → Answer
by_rules m t b o =
    let a : Answer = by_mode m t b o in
    with_adoption t a.open_state a.ops a.next

-- the tree construction dispatcher (13.2.6 #tree-construction): the rules that a token goes by
abbrev pub rules_for : Token → Open → Mode
rules_for t b = if goes_foreign t (adjusted b) then InForeign else b.mode

-- the rules that the token is to go by once more, or what comes next
pub data Round : Type 0 where
  once : Mode → Round
  stop : Next → Round

abbrev pub round_after : Token → Open → Next → Round
round_after t b next.Reprocess = once (rules_for t b)
round_after t b (next.UsingRules m) = once m
round_after t b next.InBodyFostering = once InBody
round_after t b n = stop n

-- what the round comes to; `more` is processing the token by the rules of a mode
abbrev pub go_round : (Mode → Answer) → Open → List Op → Round → Answer
go_round more b o (once m) = more m
go_round more b o (stop x) = answer b o x

-- by the rules of a mode, and of those that it is then to go by, at most so many times; where they are used up it still asks
-- to go on, which no token comes to
unfoldable pub process : ℕ → Mode → Token → Open → List Op → Answer
process zero m t b o = answer b o next.Reprocess
process (suc n) m t b o =
    let a : Answer = by_rules m t b o in
    go_round (λ m'. process n m' t a.open_state a.ops) a.open_state a.ops (round_after t a.open_state a.next)

-- no token goes by more rules than this
abbrev pub rounds : ℕ
rounds = 8192

abbrev pub is_line_feed : Token → Bool
is_line_feed (Character c) = c == 10
is_line_feed _ = false

-- foster parenting is off behind a token
abbrev pub settled_answer : Answer → Answer
settled_answer a = record a { open_state = record a.open_state { foster = false } }

-- a token: a line feed is left out where the one before asks for that
unfoldable pub construct : Token → Open → List Op → Answer
construct t b o =
    let b' : Open = record b { skip_line_feed = false } in
    settled_answer (if b.skip_line_feed && is_line_feed t then answer b' o next.Done else process rounds (rules_for t b) t b' o)

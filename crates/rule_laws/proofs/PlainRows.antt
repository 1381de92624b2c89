-- The rows of the tables name no element, so they are the same under other ids.
use Rattle.std.proofs.Common.{◌≡◌, refl, ap, ◌∙◌, true≢false, sym, ℕ, ◌==◌, Bool, true, false, ◌&&◌, List, [], ◌∷◌}
use Rattle.std.proofs.lemmas.Bool.{and_parts}
use Rattle.std.specs.Prelude.{if◌then◌else◌}
use Rattle.html_types.specs.declared.word.Word.{Word}
use Rattle.html_types.specs.declared.name.Name.{Name}
use Rattle.html_types.specs.declared.instruction.Instr.{Instr}
use Rattle.html_types.specs.declared.instruction.Instr.TheVariants as ins
use Rattle.html_types.specs.declared.instruction.Mode.{Mode}
use Rattle.html_types.specs.declared.instruction.Mode.TheVariants.{Initial, BeforeHtml, BeforeHead, InHead, AfterHead, InBody, InText, InTable, InTableText, InCaption, InColumnGroup, InTableBody, InRow, InCell, InSelect, InSelectInTable, InTemplate, AfterBody, InFrameset, AfterFrameset, AfterAfterBody, AfterAfterFrameset, InForeign}
use Rattle.html_types.specs.declared.token.Token.{Token}
use Rattle.html_types.specs.declared.token.Token.TheVariants.{StartTag, EndTag, Character, Comment, Doctype, EndOfFile}
use Rattle.html_types.specs.declared.operation.NodeId.{NodeId}
use Rattle.standard.specs.Rows.{is_among, row_for}
use Rattle.standard.specs.WhiteSpace.{is_space}
use Rattle.standard.specs.Rules.{character_row, comment_row, doctype_row, end_of_file_row, start_row, end_row, row}
use Rattle.standard.specs.RulesHead.{initial_anything, before_html_start, before_html_end, before_html_anything, before_head_start, before_head_end, before_head_anything, in_head_start, in_head_end, in_head_anything, after_head_start, after_head_end, after_head_anything}
use Rattle.standard.specs.RulesBody.{in_body_space, in_body_character, in_body_start, in_body_any_start, in_body_end, in_body_any_end, in_text_end, in_text_any_end, after_body_start, after_body_end, after_body_anything, after_after_body_start, after_after_body_anything}
use Rattle.standard.specs.RulesTable.{in_table_start, in_table_any_start, in_table_end, in_table_any_end, in_caption_start, in_caption_end, in_caption_anything, in_column_group_start, in_column_group_end, in_column_group_anything, in_table_body_start, in_table_body_end, in_table_body_anything, in_row_start, in_row_end, in_row_anything, in_cell_start, in_cell_end, in_cell_anything}
use Rattle.standard.specs.RulesRest.{in_select_start, in_select_any_start, in_select_end, in_select_any_end, in_select_in_table_start, in_select_in_table_end, in_select_in_table_anything, in_template_start, in_template_any_start, in_template_end, in_template_any_end, in_frameset_start, in_frameset_end, in_frameset_anything, after_frameset_start, after_frameset_end, after_frameset_anything, after_after_frameset_start, after_after_frameset_anything}
use Rattle.standard.specs.RulesForeign.{in_foreign_end, in_foreign_any_end}
use Rattle.rule_laws.specs.Naming.{rename_instr, rename_row}

names_none : Instr → Bool
names_none (ins.TakeOff id) = false
names_none _ = true

abbrev plain : List Instr → Bool
plain [] = true
plain (i ∷ is) = names_none i && plain is

abbrev plain_rows : List (List Word × List Instr) → Bool
plain_rows [] = true
plain_rows (x ∷ xs) = plain x.1 && plain_rows xs

-- ---- the rows

of_two : (v : Bool) (x y : List Instr) → plain x ≡ true → plain y ≡ true → plain (if v then x else y) ≡ true
of_two true x y a b = a
of_two false x y a b = b

found : (rows : List (List Word × List Instr)) (other : List Instr) (n : Name) → plain_rows rows ≡ true → plain other ≡ true → plain (row_for rows other n) ≡ true
found [] other n a b = b
found (x ∷ xs) other n a b =
    let p = and_parts (plain x.1) (plain_rows xs) a in
    of_two (is_among x.0 n) x.1 (row_for xs other n) p.0 (found xs other n p.1 b)

plain-character : (m : Mode) (c : ℕ) → plain (character_row m c) ≡ true
unfolding names_none
plain-character Initial c = of_two (is_space c) [] initial_anything refl refl
plain-character BeforeHtml c = of_two (is_space c) [] before_html_anything refl refl
plain-character BeforeHead c = of_two (is_space c) [] before_head_anything refl refl
plain-character InHead c = of_two (is_space c) (ins.InsertText ∷ []) in_head_anything refl refl
plain-character AfterHead c = of_two (is_space c) (ins.InsertText ∷ []) after_head_anything refl refl
plain-character InBody c = of_two (c == 0) [] _ refl (of_two (is_space c) in_body_space in_body_character refl refl)
plain-character InText c = refl
plain-character InTable c = refl
plain-character InTableText c = of_two (c == 0) [] (ins.AppendPending ∷ []) refl refl
plain-character InCaption c = refl
plain-character InColumnGroup c = of_two (is_space c) (ins.InsertText ∷ []) in_column_group_anything refl refl
plain-character InTableBody c = refl
plain-character InRow c = refl
plain-character InCell c = refl
plain-character InSelect c = of_two (c == 0) [] (ins.InsertText ∷ []) refl refl
plain-character InSelectInTable c = refl
plain-character InTemplate c = refl
plain-character AfterBody c = of_two (is_space c) (ins.UsingRules InBody ∷ []) after_body_anything refl refl
plain-character InFrameset c = of_two (is_space c) (ins.InsertText ∷ []) in_frameset_anything refl refl
plain-character AfterFrameset c = of_two (is_space c) (ins.InsertText ∷ []) after_frameset_anything refl refl
plain-character AfterAfterBody c = of_two (is_space c) (ins.UsingRules InBody ∷ []) after_after_body_anything refl refl
plain-character InForeign c = of_two (c == 0) (ins.InsertReplacement ∷ []) _ refl (of_two (is_space c) (ins.InsertText ∷ []) (ins.InsertText ∷ ins.FramesetNotOk ∷ []) refl refl)
plain-character AfterAfterFrameset c = of_two (is_space c) (ins.UsingRules InBody ∷ []) after_after_frameset_anything refl refl

plain-start : (m : Mode) (n : Name) → plain (start_row m n) ≡ true
unfolding names_none
plain-start Initial n = refl
plain-start BeforeHtml n = found before_html_start before_html_anything n refl refl
plain-start BeforeHead n = found before_head_start before_head_anything n refl refl
plain-start InHead n = found in_head_start in_head_anything n refl refl
plain-start AfterHead n = found after_head_start after_head_anything n refl refl
plain-start InBody n = found in_body_start in_body_any_start n refl refl
plain-start InText n = refl
plain-start InTable n = found in_table_start in_table_any_start n refl refl
plain-start InTableText n = refl
plain-start InCaption n = found in_caption_start in_caption_anything n refl refl
plain-start InColumnGroup n = found in_column_group_start in_column_group_anything n refl refl
plain-start InTableBody n = found in_table_body_start in_table_body_anything n refl refl
plain-start InRow n = found in_row_start in_row_anything n refl refl
plain-start InCell n = found in_cell_start in_cell_anything n refl refl
plain-start InSelect n = found in_select_start in_select_any_start n refl refl
plain-start InSelectInTable n = found in_select_in_table_start in_select_in_table_anything n refl refl
plain-start InTemplate n = found in_template_start in_template_any_start n refl refl
plain-start AfterBody n = found after_body_start after_body_anything n refl refl
plain-start InFrameset n = found in_frameset_start in_frameset_anything n refl refl
plain-start AfterFrameset n = found after_frameset_start after_frameset_anything n refl refl
plain-start AfterAfterBody n = found after_after_body_start after_after_body_anything n refl refl
plain-start InForeign n = refl
plain-start AfterAfterFrameset n = found after_after_frameset_start after_after_frameset_anything n refl refl

plain-end : (m : Mode) (n : Name) → plain (end_row m n) ≡ true
unfolding names_none
plain-end Initial n = refl
plain-end BeforeHtml n = found before_html_end [] n refl refl
plain-end BeforeHead n = found before_head_end [] n refl refl
plain-end InHead n = found in_head_end [] n refl refl
plain-end AfterHead n = found after_head_end [] n refl refl
plain-end InBody n = found in_body_end in_body_any_end n refl refl
plain-end InText n = found in_text_end in_text_any_end n refl refl
plain-end InTable n = found in_table_end in_table_any_end n refl refl
plain-end InTableText n = refl
plain-end InCaption n = found in_caption_end in_caption_anything n refl refl
plain-end InColumnGroup n = found in_column_group_end in_column_group_anything n refl refl
plain-end InTableBody n = found in_table_body_end in_table_body_anything n refl refl
plain-end InRow n = found in_row_end in_row_anything n refl refl
plain-end InCell n = found in_cell_end in_cell_anything n refl refl
plain-end InSelect n = found in_select_end in_select_any_end n refl refl
plain-end InSelectInTable n = found in_select_in_table_end in_select_in_table_anything n refl refl
plain-end InTemplate n = found in_template_end in_template_any_end n refl refl
plain-end AfterBody n = found after_body_end after_body_anything n refl refl
plain-end InFrameset n = found in_frameset_end in_frameset_anything n refl refl
plain-end AfterFrameset n = found after_frameset_end after_frameset_anything n refl refl
plain-end AfterAfterBody n = refl
plain-end InForeign n = found in_foreign_end in_foreign_any_end n refl refl
plain-end AfterAfterFrameset n = refl

plain-comment : (m : Mode) → plain (comment_row m) ≡ true
unfolding names_none
plain-comment Initial = refl
plain-comment _ = refl

plain-doctype : (m : Mode) → plain (doctype_row m) ≡ true
unfolding names_none
plain-doctype Initial = refl
plain-doctype _ = refl

plain-end_of_file : (m : Mode) → plain (end_of_file_row m) ≡ true
unfolding names_none
plain-end_of_file Initial = refl
plain-end_of_file _ = refl

plain-row : (m : Mode) (t : Token) → plain (row m t) ≡ true
unfolding row names_none
plain-row m (StartTag tag) = plain-start m tag.name
plain-row m (EndTag tag) = plain-end m tag.name
plain-row m (Character c) = plain-character m c
plain-row m (Comment text) = plain-comment m
plain-row m (Doctype name force) = plain-doctype m
plain-row m EndOfFile = plain-end_of_file m

-- ---- under other ids

instr-renamed : (r : NodeId → NodeId) (i : Instr) → names_none i ≡ true → rename_instr r i ≡ i
unfolding names_none
instr-renamed r (ins.TakeOff id) h = absurd (true≢false (sym h))
instr-renamed r _ h = refl

plain-renamed : (r : NodeId → NodeId) (l : List Instr) → plain l ≡ true → rename_row r l ≡ l
plain-renamed r [] h = refl
plain-renamed r (i ∷ is) h =
    let p = and_parts (names_none i) (plain is) h in
    ap (λ x. x ∷ rename_row r is) (instr-renamed r i p.0) ∙ ap (λ l. i ∷ l) (plain-renamed r is p.1)

pub row-renamed : (r : NodeId → NodeId) (m : Mode) (t : Token) → rename_row r (row m t) ≡ row m t
row-renamed r m t = plain-renamed r (row m t) (plain-row m t)

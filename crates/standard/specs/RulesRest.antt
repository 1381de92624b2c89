-- The rows of tree construction in "in select" to "in template" (13.2.6.4.16 #parsing-main-inselect
-- to 13.2.6.4.18 #parsing-main-intemplate), "in frameset" (13.2.6.4.20 #parsing-main-inframeset),
-- "after frameset" (13.2.6.4.21 #parsing-main-afterframeset) and "after after frameset"
-- (13.2.6.4.23 #the-after-after-frameset-insertion-mode): what is done at each token.
use Rattle.std.specs.Prelude.{List, [], ◌∷◌}
use Rattle.html_types.specs.declared.word.Word.{Word}
use Rattle.html_types.specs.declared.word.Word.TheVariants.{Base, Basefont, Bgsound, Caption, Col, Colgroup, Frame, Frameset, Hr, Html, Input, Keygen, Link, Meta, Noframes, Optgroup, Option, Script, Select, Style, Table, Tbody, Td, Template, Textarea, Tfoot, Th, Thead, Title, Tr}
use Rattle.html_types.specs.declared.instruction.Instr.{Instr}
use Rattle.html_types.specs.declared.instruction.Instr.TheVariants.{Need, Forbid, When, Unless, Insert, InsertAndPop, Pop, PopUntil, ClearToMarker, SwitchMode, PushTemplateMode, PopTemplateMode, ResetMode, UsingRules, Reprocess, Finish}
use Rattle.html_types.specs.declared.instruction.Test.TheVariants.{InScope, Current, OnStack, OptionInOptgroup, InFragment}
use Rattle.html_types.specs.declared.instruction.Who.TheVariants.{Own, The}
use Rattle.html_types.specs.declared.instruction.Scope.TheVariants as scope
use Rattle.html_types.specs.declared.instruction.Mode.TheVariants.{InHead, InBody, InTable, InColumnGroup, InTableBody, InRow, InSelect, AfterFrameset, AfterAfterFrameset}

-- 13.2.6.4.16 #parsing-main-inselect The "in select" insertion mode: NUL is left out, another
-- character is inserted; the end of the input goes by "in body"
abbrev pub in_select_start : List (List Word × List Instr)
in_select_start = (
  Html ∷ [],
  UsingRules InBody ∷ [],
) ∷ (
  Option ∷ [],
  When (Current (The Option)) ∷ Pop ∷ Insert ∷ [],
) ∷ (
  Optgroup ∷ [],
  When (Current (The Option)) ∷ Pop ∷ When (Current (The Optgroup)) ∷ Pop ∷ Insert ∷ [],
) ∷ (
  Hr ∷ [],
  When (Current (The Option)) ∷ Pop ∷ When (Current (The Optgroup)) ∷ Pop ∷ InsertAndPop ∷ [],
) ∷ (
  Select ∷ [],
  Need (InScope scope.Select (The Select)) ∷ PopUntil (The Select) ∷ ResetMode ∷ [],
) ∷ (
  Input ∷ Keygen ∷ Textarea ∷ [],
  Need (InScope scope.Select (The Select)) ∷ PopUntil (The Select) ∷ ResetMode ∷ Reprocess ∷ [],
) ∷ (
  Script ∷ Template ∷ [],
  UsingRules InHead ∷ [],
) ∷ []

abbrev pub in_select_any_start : List Instr
in_select_any_start = []

abbrev pub in_select_end : List (List Word × List Instr)
in_select_end = (
  Optgroup ∷ [],
  When OptionInOptgroup ∷ Pop ∷ Need (Current (The Optgroup)) ∷ Pop ∷ [],
) ∷ (
  Option ∷ [],
  Need (Current (The Option)) ∷ Pop ∷ [],
) ∷ (
  Select ∷ [],
  Need (InScope scope.Select (The Select)) ∷ PopUntil (The Select) ∷ ResetMode ∷ [],
) ∷ (
  Template ∷ [],
  UsingRules InHead ∷ [],
) ∷ []

abbrev pub in_select_any_end : List Instr
in_select_any_end = []

-- 13.2.6.4.17 #parsing-main-inselectintable The "in select in table" insertion mode
abbrev pub in_select_in_table_start : List (List Word × List Instr)
in_select_in_table_start = (
  Caption ∷ Table ∷ Tbody ∷ Tfoot ∷ Thead ∷ Tr ∷ Td ∷ Th ∷ [],
  PopUntil (The Select) ∷ ResetMode ∷ Reprocess ∷ [],
) ∷ []

abbrev pub in_select_in_table_end : List (List Word × List Instr)
in_select_in_table_end = (
  Caption ∷ Table ∷ Tbody ∷ Tfoot ∷ Thead ∷ Tr ∷ Td ∷ Th ∷ [],
  Need (InScope scope.Table Own) ∷ PopUntil (The Select) ∷ ResetMode ∷ Reprocess ∷ [],
) ∷ []

abbrev pub in_select_in_table_anything : List Instr
in_select_in_table_anything = UsingRules InSelect ∷ []

-- 13.2.6.4.18 #parsing-main-intemplate The "in template" insertion mode: characters, comments and
-- doctypes go by "in body"
abbrev pub in_template_start : List (List Word × List Instr)
in_template_start = (
  Base ∷ Basefont ∷ Bgsound ∷ Link ∷ Meta ∷ Noframes ∷ Script ∷ Style ∷ Template ∷ Title ∷ [],
  UsingRules InHead ∷ [],
) ∷ (
  Caption ∷ Colgroup ∷ Tbody ∷ Tfoot ∷ Thead ∷ [],
  PopTemplateMode ∷ PushTemplateMode InTable ∷ SwitchMode InTable ∷ Reprocess ∷ [],
) ∷ (
  Col ∷ [],
  PopTemplateMode ∷ PushTemplateMode InColumnGroup ∷ SwitchMode InColumnGroup ∷ Reprocess ∷ [],
) ∷ (
  Tr ∷ [],
  PopTemplateMode ∷ PushTemplateMode InTableBody ∷ SwitchMode InTableBody ∷ Reprocess ∷ [],
) ∷ (
  Td ∷ Th ∷ [],
  PopTemplateMode ∷ PushTemplateMode InRow ∷ SwitchMode InRow ∷ Reprocess ∷ [],
) ∷ []

abbrev pub in_template_any_start : List Instr
in_template_any_start = PopTemplateMode ∷ PushTemplateMode InBody ∷ SwitchMode InBody ∷ Reprocess ∷ []

abbrev pub in_template_end : List (List Word × List Instr)
in_template_end = (
  Template ∷ [],
  UsingRules InHead ∷ [],
) ∷ []

abbrev pub in_template_any_end : List Instr
in_template_any_end = []

abbrev pub in_template_end_of_file : List Instr
in_template_end_of_file =
    Unless (OnStack (The Template)) ∷ Finish ∷ PopUntil (The Template) ∷ ClearToMarker ∷ PopTemplateMode ∷ ResetMode ∷ Reprocess ∷ []

-- 13.2.6.4.20 #parsing-main-inframeset The "in frameset" insertion mode: white space is inserted
abbrev pub in_frameset_start : List (List Word × List Instr)
in_frameset_start = (
  Html ∷ [],
  UsingRules InBody ∷ [],
) ∷ (
  Frameset ∷ [],
  Insert ∷ [],
) ∷ (
  Frame ∷ [],
  InsertAndPop ∷ [],
) ∷ (
  Noframes ∷ [],
  UsingRules InHead ∷ [],
) ∷ []

abbrev pub in_frameset_end : List (List Word × List Instr)
in_frameset_end = (
  Frameset ∷ [],
  Forbid (Current (The Html)) ∷ Pop ∷ Forbid InFragment ∷ Unless (Current (The Frameset)) ∷ SwitchMode AfterFrameset ∷ [],
) ∷ []

abbrev pub in_frameset_anything : List Instr
in_frameset_anything = []

-- 13.2.6.4.21 #parsing-main-afterframeset The "after frameset" insertion mode: white space is
-- inserted
abbrev pub after_frameset_start : List (List Word × List Instr)
after_frameset_start = (
  Html ∷ [],
  UsingRules InBody ∷ [],
) ∷ (
  Noframes ∷ [],
  UsingRules InHead ∷ [],
) ∷ []

abbrev pub after_frameset_end : List (List Word × List Instr)
after_frameset_end = (
  Html ∷ [],
  SwitchMode AfterAfterFrameset ∷ [],
) ∷ []

abbrev pub after_frameset_anything : List Instr
after_frameset_anything = []

-- 13.2.6.4.23 #the-after-after-frameset-insertion-mode The "after after frameset" insertion mode:
-- white space goes by "in body", a comment to the Document
abbrev pub after_after_frameset_start : List (List Word × List Instr)
after_after_frameset_start = (
  Html ∷ [],
  UsingRules InBody ∷ [],
) ∷ (
  Noframes ∷ [],
  UsingRules InHead ∷ [],
) ∷ []

abbrev pub after_after_frameset_anything : List Instr
after_after_frameset_anything = []

-- The rows of tree construction from "in table" to "in cell" (13.2.6.4.9 #parsing-main-intable to
-- 13.2.6.4.15 #parsing-main-intd): what is done at each token.
use Rattle.std.specs.Prelude.{List, [], ◌∷◌}
use Rattle.html_types.specs.declared.word.Word.{Word}
use Rattle.html_types.specs.declared.word.Word.TheVariants.{Body, Caption, Col, Colgroup, Form, Html, Input, Script, Style, Table, Tbody, Td, Template, Tfoot, Th, Thead, Tr}
use Rattle.html_types.specs.declared.instruction.Instr.{Instr}
use Rattle.html_types.specs.declared.instruction.Instr.TheVariants.{Need, Forbid, Unless, Insert, InsertA, InsertAndPop, Pop, PopUntil, ClearBackTo, GenerateImplied, PushMarker, ClearToMarker, SetFormPointer, SwitchMode, SaveMode, RestoreMode, ResetMode, InsertPending, UsingRules, InBodyFostering, Reprocess}
use Rattle.html_types.specs.declared.instruction.Test.TheVariants.{InScope, Current, OnStack, InForm, HiddenInput}
use Rattle.html_types.specs.declared.instruction.Who.TheVariants.{Own, The, Any}
use Rattle.html_types.specs.declared.instruction.Group.TheVariants.{TableContext, TableBodyContext, RowContext, TableSections, Cells, TextTargets}
use Rattle.html_types.specs.declared.instruction.Scope.TheVariants as scope
use Rattle.html_types.specs.declared.instruction.Mode.TheVariants.{InHead, InBody, InTable, InTableText, InCaption, InColumnGroup, InTableBody, InRow, InCell}

-- 13.2.6.4.9 #parsing-main-intable The "in table" insertion mode: the end of the input goes by
-- "in body"
abbrev pub in_table_character : List Instr
in_table_character = Unless (Current (Any TextTargets)) ∷ InBodyFostering ∷ SaveMode ∷ SwitchMode InTableText ∷ Reprocess ∷ []

abbrev pub in_table_start : List (List Word × List Instr)
in_table_start = (
  Caption ∷ [],
  ClearBackTo TableContext ∷ PushMarker ∷ Insert ∷ SwitchMode InCaption ∷ [],
) ∷ (
  Colgroup ∷ [],
  ClearBackTo TableContext ∷ Insert ∷ SwitchMode InColumnGroup ∷ [],
) ∷ (
  Col ∷ [],
  ClearBackTo TableContext ∷ InsertA Colgroup ∷ SwitchMode InColumnGroup ∷ Reprocess ∷ [],
) ∷ (
  Tbody ∷ Tfoot ∷ Thead ∷ [],
  ClearBackTo TableContext ∷ Insert ∷ SwitchMode InTableBody ∷ [],
) ∷ (
  Td ∷ Th ∷ Tr ∷ [],
  ClearBackTo TableContext ∷ InsertA Tbody ∷ SwitchMode InTableBody ∷ Reprocess ∷ [],
) ∷ (
  Table ∷ [],
  Need (InScope scope.Table (The Table)) ∷ PopUntil (The Table) ∷ ResetMode ∷ Reprocess ∷ [],
) ∷ (
  Style ∷ Script ∷ Template ∷ [],
  UsingRules InHead ∷ [],
) ∷ (
  Input ∷ [],
  Unless HiddenInput ∷ InBodyFostering ∷ InsertAndPop ∷ [],
) ∷ (
  Form ∷ [],
  Forbid (OnStack (The Template)) ∷ Forbid InForm ∷ Insert ∷ SetFormPointer ∷ Pop ∷ [],
) ∷ []

abbrev pub in_table_any_start : List Instr
in_table_any_start = InBodyFostering ∷ []

abbrev pub in_table_end : List (List Word × List Instr)
in_table_end = (
  Table ∷ [],
  Need (InScope scope.Table (The Table)) ∷ PopUntil (The Table) ∷ ResetMode ∷ [],
) ∷ (
  Body ∷ Caption ∷ Col ∷ Colgroup ∷ Html ∷ Tbody ∷ Td ∷ Tfoot ∷ Th ∷ Thead ∷ Tr ∷ [],
  [],
) ∷ (
  Template ∷ [],
  UsingRules InHead ∷ [],
) ∷ []

abbrev pub in_table_any_end : List Instr
in_table_any_end = InBodyFostering ∷ []

-- 13.2.6.4.10 #parsing-main-intabletext The "in table text" insertion mode: NUL is left out,
-- another character is added to the pending ones
abbrev pub in_table_text_anything : List Instr
in_table_text_anything = InsertPending ∷ RestoreMode ∷ Reprocess ∷ []

-- 13.2.6.4.11 #parsing-main-incaption The "in caption" insertion mode
abbrev pub in_caption_start : List (List Word × List Instr)
in_caption_start = (
  Caption ∷ Col ∷ Colgroup ∷ Tbody ∷ Td ∷ Tfoot ∷ Th ∷ Thead ∷ Tr ∷ [],
  Need (InScope scope.Table (The Caption)) ∷ GenerateImplied ∷ PopUntil (The Caption) ∷ ClearToMarker ∷ SwitchMode InTable ∷ Reprocess ∷ [],
) ∷ []

abbrev pub in_caption_end : List (List Word × List Instr)
in_caption_end = (
  Caption ∷ [],
  Need (InScope scope.Table (The Caption)) ∷ GenerateImplied ∷ PopUntil (The Caption) ∷ ClearToMarker ∷ SwitchMode InTable ∷ [],
) ∷ (
  Table ∷ [],
  Need (InScope scope.Table (The Caption)) ∷ GenerateImplied ∷ PopUntil (The Caption) ∷ ClearToMarker ∷ SwitchMode InTable ∷ Reprocess ∷ [],
) ∷ (
  Body ∷ Col ∷ Colgroup ∷ Html ∷ Tbody ∷ Td ∷ Tfoot ∷ Th ∷ Thead ∷ Tr ∷ [],
  [],
) ∷ []

abbrev pub in_caption_anything : List Instr
in_caption_anything = UsingRules InBody ∷ []

-- 13.2.6.4.12 #parsing-main-incolgroup The "in column group" insertion mode: white space is
-- inserted, the end of the input goes by "in body"
abbrev pub in_column_group_start : List (List Word × List Instr)
in_column_group_start = (
  Html ∷ [],
  UsingRules InBody ∷ [],
) ∷ (
  Col ∷ [],
  InsertAndPop ∷ [],
) ∷ (
  Template ∷ [],
  UsingRules InHead ∷ [],
) ∷ []

abbrev pub in_column_group_end : List (List Word × List Instr)
in_column_group_end = (
  Colgroup ∷ [],
  Need (Current (The Colgroup)) ∷ Pop ∷ SwitchMode InTable ∷ [],
) ∷ (
  Col ∷ [],
  [],
) ∷ (
  Template ∷ [],
  UsingRules InHead ∷ [],
) ∷ []

abbrev pub in_column_group_anything : List Instr
in_column_group_anything = Need (Current (The Colgroup)) ∷ Pop ∷ SwitchMode InTable ∷ Reprocess ∷ []

-- 13.2.6.4.13 #parsing-main-intbody The "in table body" insertion mode
abbrev pub in_table_body_start : List (List Word × List Instr)
in_table_body_start = (
  Tr ∷ [],
  ClearBackTo TableBodyContext ∷ Insert ∷ SwitchMode InRow ∷ [],
) ∷ (
  Th ∷ Td ∷ [],
  ClearBackTo TableBodyContext ∷ InsertA Tr ∷ SwitchMode InRow ∷ Reprocess ∷ [],
) ∷ (
  Caption ∷ Col ∷ Colgroup ∷ Tbody ∷ Tfoot ∷ Thead ∷ [],
  Need (InScope scope.Table (Any TableSections)) ∷ ClearBackTo TableBodyContext ∷ Pop ∷ SwitchMode InTable ∷ Reprocess ∷ [],
) ∷ []

abbrev pub in_table_body_end : List (List Word × List Instr)
in_table_body_end = (
  Tbody ∷ Tfoot ∷ Thead ∷ [],
  Need (InScope scope.Table Own) ∷ ClearBackTo TableBodyContext ∷ Pop ∷ SwitchMode InTable ∷ [],
) ∷ (
  Table ∷ [],
  Need (InScope scope.Table (Any TableSections)) ∷ ClearBackTo TableBodyContext ∷ Pop ∷ SwitchMode InTable ∷ Reprocess ∷ [],
) ∷ (
  Body ∷ Caption ∷ Col ∷ Colgroup ∷ Html ∷ Td ∷ Th ∷ Tr ∷ [],
  [],
) ∷ []

abbrev pub in_table_body_anything : List Instr
in_table_body_anything = UsingRules InTable ∷ []

-- 13.2.6.4.14 #parsing-main-intr The "in row" insertion mode
abbrev pub in_row_start : List (List Word × List Instr)
in_row_start = (
  Th ∷ Td ∷ [],
  ClearBackTo RowContext ∷ Insert ∷ SwitchMode InCell ∷ PushMarker ∷ [],
) ∷ (
  Caption ∷ Col ∷ Colgroup ∷ Tbody ∷ Tfoot ∷ Thead ∷ Tr ∷ [],
  Need (InScope scope.Table (The Tr)) ∷ ClearBackTo RowContext ∷ Pop ∷ SwitchMode InTableBody ∷ Reprocess ∷ [],
) ∷ []

abbrev pub in_row_end : List (List Word × List Instr)
in_row_end = (
  Tr ∷ [],
  Need (InScope scope.Table (The Tr)) ∷ ClearBackTo RowContext ∷ Pop ∷ SwitchMode InTableBody ∷ [],
) ∷ (
  Table ∷ [],
  Need (InScope scope.Table (The Tr)) ∷ ClearBackTo RowContext ∷ Pop ∷ SwitchMode InTableBody ∷ Reprocess ∷ [],
) ∷ (
  Tbody ∷ Tfoot ∷ Thead ∷ [],
  Need (InScope scope.Table Own) ∷ Need (InScope scope.Table (The Tr)) ∷ ClearBackTo RowContext ∷ Pop ∷ SwitchMode InTableBody ∷ Reprocess ∷ [],
) ∷ (
  Body ∷ Caption ∷ Col ∷ Colgroup ∷ Html ∷ Td ∷ Th ∷ [],
  [],
) ∷ []

abbrev pub in_row_anything : List Instr
in_row_anything = UsingRules InTable ∷ []

-- 13.2.6.4.15 #parsing-main-intd The "in cell" insertion mode
abbrev pub in_cell_start : List (List Word × List Instr)
in_cell_start = (
  Caption ∷ Col ∷ Colgroup ∷ Tbody ∷ Td ∷ Tfoot ∷ Th ∷ Thead ∷ Tr ∷ [],
  GenerateImplied ∷ PopUntil (Any Cells) ∷ ClearToMarker ∷ SwitchMode InRow ∷ Reprocess ∷ [],
) ∷ []

abbrev pub in_cell_end : List (List Word × List Instr)
in_cell_end = (
  Td ∷ Th ∷ [],
  Need (InScope scope.Table Own) ∷ GenerateImplied ∷ PopUntil Own ∷ ClearToMarker ∷ SwitchMode InRow ∷ [],
) ∷ (
  Body ∷ Caption ∷ Col ∷ Colgroup ∷ Html ∷ [],
  [],
) ∷ (
  Table ∷ Tbody ∷ Tfoot ∷ Thead ∷ Tr ∷ [],
  Need (InScope scope.Table Own) ∷ GenerateImplied ∷ PopUntil (Any Cells) ∷ ClearToMarker ∷ SwitchMode InRow ∷ Reprocess ∷ [],
) ∷ []

abbrev pub in_cell_anything : List Instr
in_cell_anything = UsingRules InBody ∷ []

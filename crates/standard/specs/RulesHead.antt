-- The rows of tree construction from "initial" to "after head"
-- (13.2.6.4.1 #the-initial-insertion-mode to 13.2.6.4.6 #the-after-head-insertion-mode): what is
-- done at each token.
use Rattle.std.specs.Prelude.{List, [], ◌∷◌}
use Rattle.html_types.specs.declared.word.Word.{Word}
use Rattle.html_types.specs.declared.word.Word.TheVariants.{Base, Basefont, Bgsound, Body, Br, Frameset, Head, Html, Link, Meta, Noframes, Noscript, Script, Style, Template, Title}
use Rattle.html_types.specs.declared.instruction.Instr.{Instr}
use Rattle.html_types.specs.declared.instruction.Instr.TheVariants.{Need, When, Insert, InsertA, InsertRoot, InsertRootA, InsertAndPop, AppendDoctype, Pop, PopUntil, GenerateImpliedThoroughly, PushMarker, ClearToMarker, FramesetNotOk, BecomeQuirky, SetHeadPointer, PushHead, TakeHeadOff, SwitchMode, SaveMode, PushTemplateMode, PopTemplateMode, ResetMode, SwitchTokenizer, UsingRules, Reprocess}
use Rattle.html_types.specs.declared.instruction.Test.TheVariants.{OnStack, QuirkyDoctype}
use Rattle.html_types.specs.declared.instruction.Who.TheVariants.{The}
use Rattle.html_types.specs.declared.instruction.Mode.TheVariants.{BeforeHtml, BeforeHead, InHead, AfterHead, InBody, InText, InTemplate, InFrameset}
use Rattle.html_types.specs.declared.instruction.TokenizerSwitch.TheVariants.{Rcdata, Rawtext, ScriptData}

-- 13.2.6.4.1 #the-initial-insertion-mode The "initial" insertion mode: white space is left out, a
-- comment goes to the Document
abbrev pub initial_doctype : List Instr
initial_doctype = AppendDoctype ∷ When QuirkyDoctype ∷ BecomeQuirky ∷ SwitchMode BeforeHtml ∷ []

abbrev pub initial_anything : List Instr
initial_anything = BecomeQuirky ∷ SwitchMode BeforeHtml ∷ Reprocess ∷ []

-- 13.2.6.4.2 #the-before-html-insertion-mode The "before html" insertion mode: white space is
-- left out, a comment goes to the Document
abbrev pub before_html_start : List (List Word × List Instr)
before_html_start = (
  Html ∷ [],
  InsertRoot ∷ SwitchMode BeforeHead ∷ [],
) ∷ []

abbrev pub before_html_end : List (List Word × List Instr)
before_html_end = (
  Head ∷ Body ∷ Html ∷ Br ∷ [],
  InsertRootA ∷ SwitchMode BeforeHead ∷ Reprocess ∷ [],
) ∷ []

abbrev pub before_html_anything : List Instr
before_html_anything = InsertRootA ∷ SwitchMode BeforeHead ∷ Reprocess ∷ []

-- 13.2.6.4.3 #the-before-head-insertion-mode The "before head" insertion mode: white space is
-- left out
abbrev pub before_head_start : List (List Word × List Instr)
before_head_start = (
  Html ∷ [],
  UsingRules InBody ∷ [],
) ∷ (
  Head ∷ [],
  Insert ∷ SetHeadPointer ∷ SwitchMode InHead ∷ [],
) ∷ []

abbrev pub before_head_end : List (List Word × List Instr)
before_head_end = (
  Head ∷ Body ∷ Html ∷ Br ∷ [],
  InsertA Head ∷ SetHeadPointer ∷ SwitchMode InHead ∷ Reprocess ∷ [],
) ∷ []

abbrev pub before_head_anything : List Instr
before_head_anything = InsertA Head ∷ SetHeadPointer ∷ SwitchMode InHead ∷ Reprocess ∷ []

-- 13.2.6.4.4 #parsing-main-inhead The "in head" insertion mode: white space is inserted
abbrev pub in_head_start : List (List Word × List Instr)
in_head_start = (
  Html ∷ [],
  UsingRules InBody ∷ [],
) ∷ (
  Base ∷ Basefont ∷ Bgsound ∷ Link ∷ Meta ∷ [],
  InsertAndPop ∷ [],
) ∷ (
  Title ∷ [],
  Insert ∷ SaveMode ∷ SwitchMode InText ∷ SwitchTokenizer Rcdata ∷ [],
) ∷ (
  Noscript ∷ Noframes ∷ Style ∷ [],
  Insert ∷ SaveMode ∷ SwitchMode InText ∷ SwitchTokenizer Rawtext ∷ [],
) ∷ (
  Script ∷ [],
  Insert ∷ SaveMode ∷ SwitchMode InText ∷ SwitchTokenizer ScriptData ∷ [],
) ∷ (
  Template ∷ [],
  Insert ∷ PushMarker ∷ FramesetNotOk ∷ SwitchMode InTemplate ∷ PushTemplateMode InTemplate ∷ [],
) ∷ (
  Head ∷ [],
  [],
) ∷ []

abbrev pub in_head_end : List (List Word × List Instr)
in_head_end = (
  Head ∷ [],
  Pop ∷ SwitchMode AfterHead ∷ [],
) ∷ (
  Body ∷ Html ∷ Br ∷ [],
  Pop ∷ SwitchMode AfterHead ∷ Reprocess ∷ [],
) ∷ (
  Template ∷ [],
  Need (OnStack (The Template)) ∷ GenerateImpliedThoroughly ∷ PopUntil (The Template) ∷ ClearToMarker ∷ PopTemplateMode ∷ ResetMode ∷ [],
) ∷ []

abbrev pub in_head_anything : List Instr
in_head_anything = Pop ∷ SwitchMode AfterHead ∷ Reprocess ∷ []

-- 13.2.6.4.6 #the-after-head-insertion-mode The "after head" insertion mode: white space is
-- inserted
abbrev pub after_head_start : List (List Word × List Instr)
after_head_start = (
  Html ∷ [],
  UsingRules InBody ∷ [],
) ∷ (
  Body ∷ [],
  Insert ∷ FramesetNotOk ∷ SwitchMode InBody ∷ [],
) ∷ (
  Frameset ∷ [],
  Insert ∷ SwitchMode InFrameset ∷ [],
) ∷ (
  Base ∷ Basefont ∷ Bgsound ∷ Link ∷ Meta ∷ [],
  PushHead ∷ InsertAndPop ∷ TakeHeadOff ∷ [],
) ∷ (
  Title ∷ [],
  PushHead ∷ Insert ∷ TakeHeadOff ∷ SaveMode ∷ SwitchMode InText ∷ SwitchTokenizer Rcdata ∷ [],
) ∷ (
  Noframes ∷ Style ∷ [],
  PushHead ∷ Insert ∷ TakeHeadOff ∷ SaveMode ∷ SwitchMode InText ∷ SwitchTokenizer Rawtext ∷ [],
) ∷ (
  Script ∷ [],
  PushHead ∷ Insert ∷ TakeHeadOff ∷ SaveMode ∷ SwitchMode InText ∷ SwitchTokenizer ScriptData ∷ [],
) ∷ (
  Template ∷ [],
  PushHead ∷ Insert ∷ TakeHeadOff ∷ PushMarker ∷ FramesetNotOk ∷ SwitchMode InTemplate ∷ PushTemplateMode InTemplate ∷ [],
) ∷ (
  Head ∷ [],
  [],
) ∷ []

abbrev pub after_head_end : List (List Word × List Instr)
after_head_end = (
  Body ∷ Html ∷ Br ∷ [],
  InsertA Body ∷ SwitchMode InBody ∷ Reprocess ∷ [],
) ∷ (
  Template ∷ [],
  UsingRules InHead ∷ [],
) ∷ []

abbrev pub after_head_anything : List Instr
after_head_anything = InsertA Body ∷ SwitchMode InBody ∷ Reprocess ∷ []

-- The rows of tree construction in "in body" (13.2.6.4.7 #parsing-main-inbody), "text"
-- (13.2.6.4.8 #parsing-main-incdata), "after body" (13.2.6.4.19 #parsing-main-afterbody) and "after
-- after body" (13.2.6.4.22 #the-after-after-body-insertion-mode): what is done at each token.
use Rattle.std.specs.Prelude.{Bool, true, false, List, [], ◌∷◌}
use Rattle.html_types.specs.declared.word.Word.{Word}
use Rattle.html_types.specs.declared.word.Word.TheVariants.{A, Address, Applet, Area, Article, Aside, B, Base, Basefont, Bgsound, Big, Blockquote, Body, Br, Button, Caption, Center, Code, Col, Colgroup, Dd, Details, Dialog, Dir, Div, Dl, Dt, Em, Embed, Fieldset, Figcaption, Figure, Font, Footer, Form, Frame, Frameset, H1, H2, H3, H4, H5, H6, Head, Header, Hgroup, Hr, Html, I, Iframe, Image, Img, Input, Keygen, Li, Link, Listing, Main, Marquee, Math, Menu, Meta, Nav, Nobr, Noembed, Noframes, Noscript, Object, Ol, Optgroup, Option, P, Param, Plaintext, Pre, Rb, Rp, Rt, Rtc, Ruby, S, Script, Search, Section, Select, Small, Source, Strike, Strong, Style, Summary, Svg, Table, Tbody, Td, Template, Textarea, Tfoot, Th, Thead, Title, Tr, Track, Tt, U, Ul, Wbr, Xmp}
use Rattle.html_types.specs.declared.name.Space.TheVariants as space
use Rattle.html_types.specs.declared.instruction.Instr.{Instr}
use Rattle.html_types.specs.declared.instruction.Instr.TheVariants.{Need, Forbid, When, Unless, Insert, InsertA, InsertIn, InsertAndPop, InsertAndPopA, InsertAndPopAs, InsertText, Pop, PopUntil, PopToRoot, GenerateImplied, GenerateImpliedBut, Close, CloseItem, AnyOtherEnd, Reconstruct, PushMarker, ClearToMarker, TakeOff, FramesetNotOk, SkipLineFeed, SetFormPointer, EndForm, AddToFirst, AddToSecond, DetachSecond, SwitchMode, SaveMode, RestoreMode, Adopt, AdoptAnchor, AdoptNobr, SwitchTokenizer, UsingRules, Reprocess, StopAtScript, Finish}
use Rattle.html_types.specs.declared.instruction.Instr.TheVariants as ins
use Rattle.html_types.specs.declared.instruction.Then.{Then}
use Rattle.html_types.specs.declared.instruction.Then.TheVariants as behind
use Rattle.html_types.specs.declared.instruction.Test.TheVariants.{InScope, Current, OnStack, InFormatting, Quirks, SecondIsBody, FramesetOk, InForm, HiddenInput, InTemplates, InTables, SelfClosing, InFragment}
use Rattle.html_types.specs.declared.instruction.Who.TheVariants.{Own, The, Any}
use Rattle.html_types.specs.declared.instruction.Group.TheVariants.{Headings, DefinitionItems}
use Rattle.html_types.specs.declared.instruction.Scope.TheVariants as scope
use Rattle.html_types.specs.declared.instruction.Mode.TheVariants.{InHead, InBody, InText, InTable, InSelect, InSelectInTable, InTemplate, AfterBody, InFrameset, AfterAfterBody}
use Rattle.html_types.specs.declared.instruction.TokenizerSwitch.TheVariants.{Rcdata, Rawtext}
use Rattle.html_types.specs.declared.instruction.TokenizerSwitch.TheVariants as reading

-- 13.2.6.4.7 #parsing-main-inbody The "in body" insertion mode: NUL is left out
abbrev pub in_body_space : List Instr
in_body_space = Reconstruct ∷ InsertText ∷ []

abbrev pub in_body_character : List Instr
in_body_character = Reconstruct ∷ InsertText ∷ FramesetNotOk ∷ []

abbrev pub in_body_start : List (List Word × List Instr)
in_body_start = (
  Html ∷ [],
  Forbid (OnStack (The Template)) ∷ AddToFirst ∷ [],
) ∷ (
  Base ∷ Basefont ∷ Bgsound ∷ Link ∷ Meta ∷ Noframes ∷ Script ∷ Style ∷ Template ∷ Title ∷ [],
  UsingRules InHead ∷ [],
) ∷ (
  Body ∷ [],
  Need SecondIsBody ∷ Forbid (OnStack (The Template)) ∷ FramesetNotOk ∷ AddToSecond ∷ [],
) ∷ (
  Frameset ∷ [],
  Need SecondIsBody ∷ Need FramesetOk ∷ DetachSecond ∷ PopToRoot ∷ Insert ∷ SwitchMode InFrameset ∷ [],
) ∷ (
  Address ∷ Article ∷ Aside ∷ Blockquote ∷ Center ∷ Details ∷ Dialog ∷ Dir ∷ Div ∷ Dl ∷ Fieldset ∷ Figcaption ∷ Figure ∷ Footer ∷ Header ∷ Hgroup ∷ Main ∷ Menu ∷ Nav ∷ Ol ∷ P ∷ Search ∷ Section ∷ Summary ∷ Ul ∷ [],
  Close scope.Button (The P) ∷ Insert ∷ [],
) ∷ (
  H1 ∷ H2 ∷ H3 ∷ H4 ∷ H5 ∷ H6 ∷ [],
  Close scope.Button (The P) ∷ When (Current (Any Headings)) ∷ Pop ∷ Insert ∷ [],
) ∷ (
  Pre ∷ Listing ∷ [],
  Close scope.Button (The P) ∷ Insert ∷ SkipLineFeed ∷ FramesetNotOk ∷ [],
) ∷ (
  Form ∷ [],
  Forbid InForm ∷ Close scope.Button (The P) ∷ Insert ∷ Unless (OnStack (The Template)) ∷ SetFormPointer ∷ [],
) ∷ (
  Li ∷ [],
  FramesetNotOk ∷ CloseItem (The Li) ∷ Close scope.Button (The P) ∷ Insert ∷ [],
) ∷ (
  Dd ∷ Dt ∷ [],
  FramesetNotOk ∷ CloseItem (Any DefinitionItems) ∷ Close scope.Button (The P) ∷ Insert ∷ [],
) ∷ (
  Plaintext ∷ [],
  Close scope.Button (The P) ∷ Insert ∷ SwitchTokenizer reading.Plaintext ∷ [],
) ∷ (
  Button ∷ [],
  Close scope.Default (The Button) ∷ Reconstruct ∷ Insert ∷ FramesetNotOk ∷ [],
) ∷ (
  A ∷ [],
  When (InFormatting (The A)) ∷ AdoptAnchor ∷ Reconstruct ∷ Insert ∷ ins.PushFormatting ∷ [],
) ∷ (
  B ∷ Big ∷ Code ∷ Em ∷ Font ∷ I ∷ S ∷ Small ∷ Strike ∷ Strong ∷ Tt ∷ U ∷ [],
  Reconstruct ∷ Insert ∷ ins.PushFormatting ∷ [],
) ∷ (
  Nobr ∷ [],
  Reconstruct ∷ When (InScope scope.Default (The Nobr)) ∷ AdoptNobr ∷ Insert ∷ ins.PushFormatting ∷ [],
) ∷ (
  Applet ∷ Marquee ∷ Object ∷ [],
  Reconstruct ∷ Insert ∷ PushMarker ∷ FramesetNotOk ∷ [],
) ∷ (
  Table ∷ [],
  Unless Quirks ∷ Close scope.Button (The P) ∷ Insert ∷ FramesetNotOk ∷ SwitchMode InTable ∷ [],
) ∷ (
  Area ∷ Br ∷ Embed ∷ Img ∷ Keygen ∷ Wbr ∷ [],
  Reconstruct ∷ InsertAndPop ∷ FramesetNotOk ∷ [],
) ∷ (
  Input ∷ [],
  Reconstruct ∷ InsertAndPop ∷ Unless HiddenInput ∷ FramesetNotOk ∷ [],
) ∷ (
  Param ∷ Source ∷ Track ∷ [],
  InsertAndPop ∷ [],
) ∷ (
  Hr ∷ [],
  Close scope.Button (The P) ∷ InsertAndPop ∷ FramesetNotOk ∷ [],
) ∷ (
  Image ∷ [],
  Reconstruct ∷ InsertAndPopAs Img ∷ FramesetNotOk ∷ [],
) ∷ (
  Textarea ∷ [],
  Insert ∷ SkipLineFeed ∷ FramesetNotOk ∷ SaveMode ∷ SwitchMode InText ∷ SwitchTokenizer Rcdata ∷ [],
) ∷ (
  Xmp ∷ [],
  Close scope.Button (The P) ∷ Reconstruct ∷ FramesetNotOk ∷ Insert ∷ SaveMode ∷ SwitchMode InText ∷ SwitchTokenizer Rawtext ∷ [],
) ∷ (
  Iframe ∷ [],
  FramesetNotOk ∷ Insert ∷ SaveMode ∷ SwitchMode InText ∷ SwitchTokenizer Rawtext ∷ [],
) ∷ (
  Noembed ∷ Noscript ∷ [],
  Insert ∷ SaveMode ∷ SwitchMode InText ∷ SwitchTokenizer Rawtext ∷ [],
) ∷ (
  Select ∷ [],
  Reconstruct ∷ Insert ∷ FramesetNotOk ∷ Unless InTables ∷ SwitchMode InSelect ∷ When InTables ∷ SwitchMode InSelectInTable ∷ [],
) ∷ (
  Optgroup ∷ Option ∷ [],
  When (Current (The Option)) ∷ Pop ∷ Reconstruct ∷ Insert ∷ [],
) ∷ (
  Rb ∷ Rtc ∷ [],
  When (InScope scope.Default (The Ruby)) ∷ GenerateImplied ∷ Insert ∷ [],
) ∷ (
  Rp ∷ Rt ∷ [],
  When (InScope scope.Default (The Ruby)) ∷ GenerateImpliedBut (The Rtc) ∷ Insert ∷ [],
) ∷ (
  Math ∷ [],
  Reconstruct ∷ InsertIn space.MathMl ∷ When SelfClosing ∷ Pop ∷ [],
) ∷ (
  Svg ∷ [],
  Reconstruct ∷ InsertIn space.Svg ∷ When SelfClosing ∷ Pop ∷ [],
) ∷ (
  Caption ∷ Col ∷ Colgroup ∷ Frame ∷ Head ∷ Tbody ∷ Td ∷ Tfoot ∷ Th ∷ Thead ∷ Tr ∷ [],
  [],
) ∷ []

-- any other start tag
abbrev pub in_body_any_start : List Instr
in_body_any_start = Reconstruct ∷ Insert ∷ []

abbrev pub in_body_end : List (List Word × List Instr)
in_body_end = (
  Template ∷ [],
  UsingRules InHead ∷ [],
) ∷ (
  Body ∷ [],
  Need (InScope scope.Default (The Body)) ∷ SwitchMode AfterBody ∷ [],
) ∷ (
  Html ∷ [],
  Need (InScope scope.Default (The Body)) ∷ SwitchMode AfterBody ∷ Reprocess ∷ [],
) ∷ (
  Address ∷ Article ∷ Aside ∷ Blockquote ∷ Button ∷ Center ∷ Details ∷ Dialog ∷ Dir ∷ Div ∷ Dl ∷ Fieldset ∷ Figcaption ∷ Figure ∷ Footer ∷ Header ∷ Hgroup ∷ Listing ∷ Main ∷ Menu ∷ Nav ∷ Ol ∷ Pre ∷ Search ∷ Section ∷ Summary ∷ Ul ∷ [],
  Need (InScope scope.Default Own) ∷ GenerateImplied ∷ PopUntil Own ∷ [],
) ∷ (
  Form ∷ [],
  EndForm ∷ [],
) ∷ (
  P ∷ [],
  Unless (InScope scope.Button (The P)) ∷ InsertA P ∷ Close scope.Button (The P) ∷ [],
) ∷ (
  Li ∷ [],
  Need (InScope scope.ListItem (The Li)) ∷ GenerateImpliedBut (The Li) ∷ PopUntil (The Li) ∷ [],
) ∷ (
  Dd ∷ Dt ∷ [],
  Need (InScope scope.Default Own) ∷ GenerateImpliedBut Own ∷ PopUntil Own ∷ [],
) ∷ (
  H1 ∷ H2 ∷ H3 ∷ H4 ∷ H5 ∷ H6 ∷ [],
  Need (InScope scope.Default (Any Headings)) ∷ GenerateImplied ∷ PopUntil (Any Headings) ∷ [],
) ∷ (
  A ∷ B ∷ Big ∷ Code ∷ Em ∷ Font ∷ I ∷ Nobr ∷ S ∷ Small ∷ Strike ∷ Strong ∷ Tt ∷ U ∷ [],
  Adopt ∷ [],
) ∷ (
  Applet ∷ Marquee ∷ Object ∷ [],
  Need (InScope scope.Default Own) ∷ GenerateImplied ∷ PopUntil Own ∷ ClearToMarker ∷ [],
) ∷ (
  Br ∷ [],
  Reconstruct ∷ InsertAndPopA Br ∷ FramesetNotOk ∷ [],
) ∷ []

-- any other end tag
abbrev pub in_body_any_end : List Instr
in_body_any_end = AnyOtherEnd ∷ []

abbrev pub in_body_end_of_file : List Instr
in_body_end_of_file = When InTemplates ∷ UsingRules InTemplate ∷ Finish ∷ []

-- the rest of a row behind the adoption agency algorithm
abbrev pub behind_adoption : Then → List Instr
behind_adoption behind.Nothing = []
behind_adoption (behind.Link i) = TakeOff i ∷ Reconstruct ∷ Insert ∷ ins.PushFormatting ∷ []
behind_adoption behind.Nobr = Reconstruct ∷ Insert ∷ ins.PushFormatting ∷ []

-- where no entry had the name, the token goes by "any other end tag" first
abbrev pub after_adopt : Then → Bool → List Instr
after_adopt h true = AnyOtherEnd ∷ behind_adoption h
after_adopt h false = behind_adoption h

-- 13.2.6.4.8 #parsing-main-incdata The "text" insertion mode: a character is inserted
abbrev pub in_text_end_of_file : List Instr
in_text_end_of_file = Pop ∷ RestoreMode ∷ Reprocess ∷ []

abbrev pub in_text_end : List (List Word × List Instr)
in_text_end = (
  Script ∷ [],
  RestoreMode ∷ StopAtScript ∷ [],
) ∷ []

abbrev pub in_text_any_end : List Instr
in_text_any_end = Pop ∷ RestoreMode ∷ []

-- 13.2.6.4.19 #parsing-main-afterbody The "after body" insertion mode: white space goes by "in
-- body", a comment to the html element
abbrev pub after_body_start : List (List Word × List Instr)
after_body_start = (
  Html ∷ [],
  UsingRules InBody ∷ [],
) ∷ []

abbrev pub after_body_end : List (List Word × List Instr)
after_body_end = (
  Html ∷ [],
  Forbid InFragment ∷ SwitchMode AfterAfterBody ∷ [],
) ∷ []

abbrev pub after_body_anything : List Instr
after_body_anything = SwitchMode InBody ∷ Reprocess ∷ []

-- 13.2.6.4.22 #the-after-after-body-insertion-mode The "after after body" insertion mode: white
-- space goes by "in body", a comment to the Document
abbrev pub after_after_body_start : List (List Word × List Instr)
after_after_body_start = (
  Html ∷ [],
  UsingRules InBody ∷ [],
) ∷ []

abbrev pub after_after_body_anything : List Instr
after_after_body_anything = SwitchMode InBody ∷ Reprocess ∷ []

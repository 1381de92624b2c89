-- The sets of names that the rules of tree construction speak of, and where "has an element in
-- scope" stops (13.2.4.2 #the-stack-of-open-elements,
-- 13.2.6.3 #closing-elements-that-have-implied-end-tags).
use Rattle.std.specs.Prelude.{Bool, not, List, [], ◌∷◌}
use Rattle.html_types.specs.declared.word.Word.{Word}
use Rattle.html_types.specs.declared.word.Word.TheVariants.{Address, Applet, Area, Article, Aside, Base, Basefont, Bgsound, Blockquote, Body, Br, Button, Caption, Center, Col, Colgroup, Dd, Details, Dir, Div, Dl, Dt, Embed, Fieldset, Figcaption, Figure, Footer, Form, Frame, Frameset, H1, H2, H3, H4, H5, H6, Head, Header, Hgroup, Hr, Html, Iframe, Img, Input, Keygen, Li, Link, Listing, Main, Marquee, Menu, Meta, Nav, Noembed, Noframes, Noscript, Object, Ol, Optgroup, Option, P, Param, Plaintext, Pre, Rb, Rp, Rt, Rtc, Script, Search, Section, Select, Source, Style, Summary, Table, Tbody, Td, Template, Textarea, Tfoot, Th, Thead, Title, Tr, Track, Ul, Wbr, Xmp}
use Rattle.html_types.specs.declared.instruction.Group.{Group}
use Rattle.html_types.specs.declared.instruction.Group.TheVariants as group
use Rattle.html_types.specs.declared.instruction.Scope.{Scope}
use Rattle.html_types.specs.declared.instruction.Scope.TheVariants as scope
use Rattle.standard.specs.Rows.{has_word}

abbrev pub words_of : Group → List Word
words_of group.Headings =
    H1 ∷ H2 ∷ H3 ∷ H4 ∷ H5 ∷ H6 ∷ []
words_of group.DefinitionItems =
    Dd ∷ Dt ∷ []
words_of group.Special =
    Address ∷ Applet ∷ Area ∷ Article ∷ Aside ∷ Base ∷ Basefont ∷ Bgsound ∷ Blockquote ∷ Body ∷
    Br ∷ Button ∷ Caption ∷ Center ∷ Col ∷ Colgroup ∷ Dd ∷ Details ∷ Dir ∷ Div ∷ Dl ∷ Dt ∷ Embed ∷
    Fieldset ∷ Figcaption ∷ Figure ∷ Footer ∷ Form ∷ Frame ∷ Frameset ∷ H1 ∷ H2 ∷ H3 ∷ H4 ∷ H5 ∷
    H6 ∷ Head ∷ Header ∷ Hgroup ∷ Hr ∷ Html ∷ Iframe ∷ Img ∷ Input ∷ Keygen ∷ Li ∷ Link ∷ Listing ∷
    Main ∷ Marquee ∷ Menu ∷ Meta ∷ Nav ∷ Noembed ∷ Noframes ∷ Noscript ∷ Object ∷ Ol ∷ P ∷ Param ∷
    Plaintext ∷ Pre ∷ Script ∷ Search ∷ Section ∷ Select ∷ Source ∷ Style ∷ Summary ∷ Table ∷
    Tbody ∷ Td ∷ Template ∷ Textarea ∷ Tfoot ∷ Th ∷ Thead ∷ Title ∷ Tr ∷ Track ∷ Ul ∷ Wbr ∷ Xmp ∷ []
words_of group.ClosedImplicitly =
    Dd ∷ Dt ∷ Li ∷ Optgroup ∷ Option ∷ P ∷ Rb ∷ Rp ∷ Rt ∷ Rtc ∷ []
words_of group.ClosedThoroughly =
    Caption ∷ Colgroup ∷ Dd ∷ Dt ∷ Li ∷ Optgroup ∷ Option ∷ P ∷ Rb ∷ Rp ∷ Rt ∷ Rtc ∷ Tbody ∷ Td ∷ Tfoot ∷ Th ∷ Thead ∷ Tr ∷ []
words_of group.TableContext =
    Table ∷ Template ∷ Html ∷ []
words_of group.TableBodyContext =
    Tbody ∷ Tfoot ∷ Thead ∷ Template ∷ Html ∷ []
words_of group.RowContext =
    Tr ∷ Template ∷ Html ∷ []
words_of group.TableSections =
    Tbody ∷ Tfoot ∷ Thead ∷ []
words_of group.Cells =
    Td ∷ Th ∷ []
words_of group.TextTargets =
    Table ∷ Tbody ∷ Template ∷ Tfoot ∷ Thead ∷ Tr ∷ []
words_of group.FosterTargets =
    Table ∷ Tbody ∷ Tfoot ∷ Thead ∷ Tr ∷ []
words_of group.PassedItems =
    Address ∷ Div ∷ P ∷ []

abbrev pub in_group : Group → Word → Bool
in_group g w = has_word (words_of g) w

abbrev pub stops : Scope → Word → Bool
stops scope.Default w = has_word (Applet ∷ Caption ∷ Html ∷ Table ∷ Td ∷ Th ∷ Marquee ∷ Object ∷ Template ∷ []) w
stops scope.ListItem w = has_word (Applet ∷ Caption ∷ Html ∷ Table ∷ Td ∷ Th ∷ Marquee ∷ Object ∷ Template ∷ Ol ∷ Ul ∷ []) w
stops scope.Button w = has_word (Applet ∷ Caption ∷ Html ∷ Table ∷ Td ∷ Th ∷ Marquee ∷ Object ∷ Template ∷ Button ∷ []) w
stops scope.Table w = has_word (Html ∷ Table ∷ Template ∷ []) w
stops scope.Select w = not (has_word (Optgroup ∷ Option ∷ []) w)

-- Texts, tokenized: worked examples.
use Rattle.std.specs.Prelude.{◌≡◌, ℕ, List, [], ◌∷◌, ◌++◌, map, refl, codes, true, false, Some, None}
use Rattle.html_types.specs.declared.word.Word.TheVariants as word
use Rattle.html_types.specs.declared.name.Space.TheVariants.{Html}
use Rattle.html_types.specs.declared.name.Name.TheVariants.{Known, Other}
use Rattle.html_types.specs.declared.state.RawText.TheVariants.{Rcdata, Rawtext, ScriptData}
use Rattle.html_types.specs.declared.state.TextState.TheVariants.{Raw, Plaintext}
use Rattle.html_types.specs.declared.token.TagKind.TheVariants.{Start}
use Rattle.html_types.specs.declared.token.Token.{Token}
use Rattle.html_types.specs.declared.token.Token.TheVariants.{StartTag, EndTag, Character, Comment, Doctype, EndOfFile}
use Rattle.html_types.specs.declared.state.TagState.TheVariants.{TagName}
use Rattle.html_types.specs.declared.reference_state.ReturnState.TheVariants as back
use Rattle.html_types.specs.declared.reference_state.ReferenceState.TheVariants.{Named}
use Rattle.html_types.specs.declared.mark_state.CdataState.TheVariants.{Section, Bracket, End}
use Rattle.html_types.specs.declared.state.TokState.{TokState}
use Rattle.standard.specs.Entities.{Entities}
use Rattle.standard.specs.Step.{in_text, in_tag, in_reference, data_state}
use Rattle.standard.specs.CdataStates.{in_cdata}
use Rattle.standard.specs.Tokenizer.{feed, settle, read_end, onward}

-- a start tag with an attribute, and a character
attribute : (es : Entities) → feed es false data_state (codes "<p a=1>x")
    ≡ record {
      tokens = StartTag (record { name = Known word.P; attributes = record { name = codes "a"; value = codes "1" } ∷ []; self_closing = false }) ∷ Character 120 ∷ [];
      state = data_state;
    }
unfolding feed settle
attribute es = refl

-- a second attribute of one name is dropped; the tag closes itself
second_attribute : (es : Entities) → (feed es false data_state (codes "<BR a='1' A=\"2\" b/>")).tokens
    ≡ StartTag (record { name = Known word.Br; attributes = record { name = codes "a"; value = codes "1" } ∷ record { name = codes "b"; value = [] } ∷ []; self_closing = true }) ∷ []
unfolding feed settle
second_attribute es = refl

-- in script data only its own end tag ends it
script_data : (es : Entities) → (feed es false (in_text (Raw ScriptData (Some word.Script))) (codes "a</b></script>")).tokens
    ≡ map Character (codes "a</b>") ++ EndTag (record { name = Known word.Script; attributes = []; self_closing = false }) ∷ []
unfolding feed settle
script_data es = refl

-- RCDATA, its end tag in upper case and with an attribute
rcdata : (es : Entities) → (feed es false (in_text (Raw Rcdata (Some word.Title))) (codes "</titl></TITLE x>")).tokens
    ≡ map Character (codes "</titl>") ++ EndTag (record { name = Known word.Title; attributes = record { name = codes "x"; value = [] } ∷ []; self_closing = false }) ∷ []
unfolding feed settle
rcdata es = refl

-- with no last start tag every end tag is text
no_last_start_tag : (es : Entities) → feed es false (in_text (Raw Rawtext None)) (codes "</style>")
    ≡ record { tokens = map Character (codes "</style>"); state = in_text (Raw Rawtext None) }
unfolding feed settle
no_last_start_tag es = refl

-- PLAINTEXT has no end tag
plaintext : (es : Entities) → (feed es false (in_text Plaintext) (codes "<p>")).tokens ≡ map Character (codes "<p>")
unfolding feed settle
plaintext es = refl

-- a tag in which the input ends is lost
lost_tag : (es : Entities) → feed es false data_state (codes "x<p")
    ≡ record { tokens = Character 120 ∷ []; state = in_tag (TagName (record { kind = Start; name = codes "p"; attributes = [] })) }
unfolding feed settle
lost_tag es = refl

lost_tag_ends : (es : Entities) → (read_end es false (in_tag (TagName (record { kind = Start; name = codes "p"; attributes = [] })))).tokens ≡ EndOfFile ∷ []
unfolding settle
lost_tag_ends es = refl

-- NUL stays in data, and is U+FFFD elsewhere
nul_in_data : (es : Entities) → (feed es false data_state (60 ∷ 0 ∷ [])).tokens ≡ Character 60 ∷ Character 0 ∷ []
unfolding feed settle
nul_in_data es = refl

nul_in_names : (es : Entities) → (feed es false data_state (60 ∷ 80 ∷ 0 ∷ 32 ∷ 0 ∷ 61 ∷ 0 ∷ 62 ∷ [])).tokens
    ≡ StartTag (record { name = Other Html (112 ∷ 0xFFFD ∷ []); attributes = record { name = 0xFFFD ∷ []; value = 0xFFFD ∷ [] } ∷ []; self_closing = false }) ∷ []
unfolding feed settle
nul_in_names es = refl

-- a slash among attributes closes nothing
slash_inside : (es : Entities) → (feed es false data_state (codes "<a/ b>")).tokens
    ≡ StartTag (record { name = Known word.A; attributes = record { name = codes "b"; value = [] } ∷ []; self_closing = false }) ∷ []
unfolding feed settle
slash_inside es = refl

-- a name may begin with `=`
equals_first : (es : Entities) → (feed es false data_state (codes "<a =b>")).tokens
    ≡ StartTag (record { name = Known word.A; attributes = record { name = codes "=b"; value = [] } ∷ []; self_closing = false }) ∷ []
unfolding feed settle
equals_first es = refl

-- an end tag with no name is nothing
no_name : (es : Entities) → feed es false data_state (codes "</>") ≡ record { tokens = []; state = data_state }
unfolding feed settle
no_name es = refl

-- ---- comments (13.2.5.43 #comment-start-state to 13.2.5.52 #comment-end-bang-state)

-- a comment, and a character
comment : (es : Entities) → feed es false data_state (codes "<!--a-->b") ≡ record { tokens = Comment (codes "a") ∷ Character 98 ∷ []; state = data_state }
unfolding feed settle
comment es = refl

-- the shortest comments are not whole
short_comments : (es : Entities) → (feed es false data_state (codes "<!--><!--->")).tokens ≡ Comment [] ∷ Comment [] ∷ []
unfolding feed settle
short_comments es = refl

-- `--!>` ends a comment too
bang_ends : (es : Entities) → (feed es false data_state (codes "<!--x--!>y")).tokens ≡ Comment (codes "x") ∷ Character 121 ∷ []
unfolding feed settle
bang_ends es = refl

-- a comment has no comment in it
no_comment_inside : (es : Entities) → (feed es false data_state (codes "<!--<!-- x -->")).tokens ≡ Comment (codes "<!-- x ") ∷ []
unfolding feed settle
no_comment_inside es = refl

less_than_bang : (es : Entities) → (feed es false data_state (codes "<!--<!--><!--<!-->")).tokens ≡ Comment (codes "<!") ∷ Comment (codes "<!") ∷ []
unfolding feed settle
less_than_bang es = refl

-- dashes that end nothing
dashes : (es : Entities) → (feed es false data_state (codes "<!--a--b---c--!d--!--><!--a-b<-->")).tokens ≡ Comment (codes "a--b---c--!d--!") ∷ Comment (codes "a-b<") ∷ []
unfolding feed settle
dashes es = refl

-- NUL is U+FFFD
nul_in_a_comment : (es : Entities) → (feed es false data_state (codes "<!--" ++ 0 ∷ codes "-->")).tokens ≡ Comment (0xFFFD ∷ []) ∷ []
unfolding feed settle
nul_in_a_comment es = refl

-- the input ends in a comment: dashes that might end it are no part of it
comment_cut : (es : Entities) → (read_end es false (feed es false data_state (codes "<!--a--")).state).tokens ≡ Comment (codes "a") ∷ EndOfFile ∷ []
unfolding feed settle
comment_cut es = refl

-- ---- markup declarations and bogus comments (13.2.5.41 #bogus-comment-state,
-- 13.2.5.42 #markup-declaration-open-state)

-- what was held is part of the comment
docx : (es : Entities) → (feed es false data_state (codes "<!docx><!-x><!>")).tokens ≡ Comment (codes "docx") ∷ Comment (codes "-x") ∷ Comment [] ∷ []
unfolding feed settle
docx es = refl

-- there is no CDATA section among HTML elements
cdata_outside : (es : Entities) → (feed es false data_state (codes "<![CDATA[x]]>")).tokens ≡ Comment (codes "[CDATA[x]]") ∷ []
unfolding feed settle
cdata_outside es = refl

bogus_comments : (es : Entities) → (feed es false data_state (codes "<?php ?></1 a>")).tokens ≡ Comment (codes "?php ?") ∷ Comment (codes "1 a") ∷ []
unfolding feed settle
bogus_comments es = refl

nul_in_bogus_comments : (es : Entities) → (feed es false data_state (codes "<!" ++ 0 ∷ codes "></" ++ 0 ∷ codes ">")).tokens ≡ Comment (0xFFFD ∷ []) ∷ Comment (0xFFFD ∷ []) ∷ []
unfolding feed settle
nul_in_bogus_comments es = refl

-- the input ends in the word
declaration_cut : (es : Entities) → (read_end es false (feed es false data_state (codes "<!DOC")).state).tokens ≡ Comment (codes "DOC") ∷ EndOfFile ∷ []
unfolding feed settle
declaration_cut es = refl

-- ---- doctypes (13.2.5.53 #doctype-state to 13.2.5.68 #bogus-doctype-state)

doctype : (es : Entities) → (feed es false data_state (codes "<!DOCTYPE html>")).tokens ≡ Doctype (codes "html") false ∷ []
unfolding feed settle
doctype es = refl

-- with no name it forces quirks
no_doctype_name : (es : Entities) → (feed es false data_state (codes "<!DOCTYPE><!DOCTYPE >")).tokens ≡ Doctype [] true ∷ Doctype [] true ∷ []
unfolding feed settle
no_doctype_name es = refl

-- identifiers are read and dropped
identifiers : (es : Entities) → (feed es false data_state (codes "<!doctype HTML PUBLIC \"a\" 'b'><!DOCTYPEhtml system'c'>")).tokens ≡ Doctype (codes "html") false ∷ Doctype (codes "html") false ∷ []
unfolding feed settle
identifiers es = refl

-- a `>` ends them
identifier_cut : (es : Entities) → (feed es false data_state (codes "<!DOCTYPE x PUBLIC \"a>b<!DOCTYPE x PUBLIC>")).tokens ≡ Doctype (codes "x") true ∷ Character 98 ∷ Doctype (codes "x") true ∷ []
unfolding feed settle
identifier_cut es = refl

-- neither `public` nor `system`
no_keyword : (es : Entities) → (feed es false data_state (codes "<!DOCTYPE x y \"a\"><!DOCTYPE x PUBx><!DOCTYPE x SYSTEMx>")).tokens ≡ Doctype (codes "x") true ∷ Doctype (codes "x") true ∷ Doctype (codes "x") true ∷ []
unfolding feed settle
no_keyword es = refl

-- what stands behind a system identifier forces no quirks
behind_identifiers : (es : Entities) → (feed es false data_state (codes "<!DOCTYPE x SYSTEM \"a\" b><!DOCTYPE x PUBLIC \"a\" b>")).tokens ≡ Doctype (codes "x") false ∷ Doctype (codes "x") true ∷ []
unfolding feed settle
behind_identifiers es = refl

nul_in_a_doctype : (es : Entities) → (feed es false data_state (codes "<!DOCTYPE A" ++ 0 ∷ codes ">")).tokens ≡ Doctype (97 ∷ 0xFFFD ∷ []) false ∷ []
unfolding feed settle
nul_in_a_doctype es = refl

-- the input ends in a doctype
doctype_cut : (es : Entities) → (read_end es false (feed es false data_state (codes "<!DOCTYPE x SYSTEM")).state).tokens ≡ Doctype (codes "x") true ∷ EndOfFile ∷ []
unfolding feed settle
doctype_cut es = refl

bogus_doctype_cut : (es : Entities) → (read_end es false (feed es false data_state (codes "<!DOCTYPE x SYSTEM 'a' b")).state).tokens ≡ Doctype (codes "x") false ∷ EndOfFile ∷ []
unfolding feed settle
bogus_doctype_cut es = refl

-- ---- script escapes (13.2.5.18 #script-data-escape-start-state to
-- 13.2.5.31 #script-data-double-escape-end-state)

abbrev script_end : Token
script_end = EndTag (record { name = Known word.Script; attributes = []; self_closing = false })

abbrev script_data_state : TokState
script_data_state = in_text (Raw ScriptData (Some word.Script))

-- a script element inside `<!--` and `-->` does not end the script
double_escape : (es : Entities) → (feed es false script_data_state (codes "<!--<script></script>--></script>")).tokens ≡ map Character (codes "<!--<script></script>-->") ++ script_end ∷ []
unfolding feed settle
double_escape es = refl

-- any other does
escape : (es : Entities) → (feed es false script_data_state (codes "<!--<scrip></script>")).tokens ≡ map Character (codes "<!--<scrip>") ++ script_end ∷ []
unfolding feed settle
escape es = refl

-- behind `-->` no script element is sought
escape_ends : (es : Entities) → (feed es false script_data_state (codes "<!--x--><script></script>")).tokens ≡ map Character (codes "<!--x--><script>") ++ script_end ∷ []
unfolding feed settle
escape_ends es = refl

-- inside a script element `-->` ends both
double_escape_ends : (es : Entities) → (feed es false script_data_state (codes "<!--<SCRIPT --></script>")).tokens ≡ map Character (codes "<!--<SCRIPT -->") ++ script_end ∷ []
unfolding feed settle
double_escape_ends es = refl

no_escape : (es : Entities) → (feed es false script_data_state (codes "<!-<script></script>")).tokens ≡ map Character (codes "<!-<script>") ++ script_end ∷ []
unfolding feed settle
no_escape es = refl

nul_in_escapes : (es : Entities) → (feed es false script_data_state (codes "<!--" ++ 0 ∷ codes "<script " ++ 0 ∷ [])).tokens ≡ map Character (codes "<!--" ++ 0xFFFD ∷ codes "<script " ++ 0xFFFD ∷ [])
unfolding feed settle
nul_in_escapes es = refl

-- ---- character references (13.2.5.72 #character-reference-state to
-- 13.2.5.80 #numeric-character-reference-end-state)

-- some names
abbrev pub some_names : Entities
some_names =
    record { name = codes "&acE;"; characters = 8766 ∷ 819 ∷ [] }
    ∷ record { name = codes "&amp"; characters = 38 ∷ [] }
    ∷ record { name = codes "&amp;"; characters = 38 ∷ [] }
    ∷ record { name = codes "&lt"; characters = 60 ∷ [] }
    ∷ record { name = codes "&lt;"; characters = 60 ∷ [] }
    ∷ record { name = codes "&not"; characters = 172 ∷ [] }
    ∷ record { name = codes "&not;"; characters = 172 ∷ [] }
    ∷ record { name = codes "&notin;"; characters = 8713 ∷ [] }
    ∷ []

-- a `p` with one attribute, of this value
abbrev p_with : List ℕ → Token
p_with value = StartTag (record { name = Known word.P; attributes = record { name = codes "a"; value = value } ∷ []; self_closing = false })

-- the longest name
longest_name : (feed some_names false data_state (codes "&notin;&not;&notit;&acE;<")).tokens ≡ map Character (8713 ∷ 172 ∷ 172 ∷ codes "it;" ++ 8766 ∷ 819 ∷ [])
unfolding feed settle
longest_name = refl

-- a name is taken at the character behind it, or at the end of the input
name_waits : feed some_names false data_state (codes "&amp;") ≡ record { tokens = []; state = in_reference (Named back.Data (codes "&amp;")) }
unfolding feed settle
name_waits = refl

name_waits_no_more : (read_end some_names false (in_reference (Named back.Data (codes "&amp;")))).tokens ≡ Character 38 ∷ EndOfFile ∷ []
unfolding settle
name_waits_no_more = refl

-- no name
no_reference : (feed some_names false data_state (codes "&;&no&x &")).tokens ≡ map Character (codes "&;&no&x ")
unfolding feed settle
no_reference = refl

-- in an attribute a letter, a digit or `=` behind a name with no `;` keeps it
name_in_an_attribute : (feed some_names false data_state (codes "<p a=\"&notit;&amp;x\"><p a='&amp=1&amp'><p a=&amp&amp9&no>")).tokens ≡ p_with (codes "&notit;&x") ∷ p_with (codes "&amp=1&") ∷ p_with (codes "&&amp9&no") ∷ []
unfolding feed settle
name_in_an_attribute = refl

-- of a name the last character may be the one that is next
name_and_equals : (feed some_names false data_state (codes "<p a='&noti='>")).tokens ≡ p_with (codes "&noti=") ∷ []
unfolding feed settle
name_and_equals = refl

-- the value of an attribute that is dropped
dropped_value : (feed some_names false data_state (codes "<p a=1 a=&lt;2>")).tokens ≡ p_with (codes "1") ∷ []
unfolding feed settle
dropped_value = refl

-- the input ends in a name
name_cut : (feed some_names false data_state (codes "&am")).tokens ++ (read_end some_names false (feed some_names false data_state (codes "&am")).state).tokens ≡ map Character (codes "&am") ++ EndOfFile ∷ []
unfolding feed settle
name_cut = refl

whole_name_cut : (read_end some_names false (feed some_names false data_state (codes "&noti")).state).tokens ≡ Character 172 ∷ Character 105 ∷ EndOfFile ∷ []
unfolding feed settle
whole_name_cut = refl

-- a name that comes in two parts
name_in_parts : (onward some_names false (feed some_names false data_state (codes "&am")) (codes "p;x")).tokens ≡ Character 38 ∷ Character 120 ∷ []
unfolding feed settle
name_in_parts = refl

-- a name makes no tag, and RCDATA goes on behind it
reference_in_rcdata : (feed some_names false (in_text (Raw Rcdata (Some word.Title))) (codes "&lt;/title></title>")).tokens ≡ map Character (codes "</title>") ++ EndTag (record { name = Known word.Title; attributes = []; self_closing = false }) ∷ []
unfolding feed settle
reference_in_rcdata = refl

-- the NUL that ends a name stays in data
nul_behind_a_name : (feed some_names false data_state (codes "&not" ++ 0 ∷ codes "&" ++ 0 ∷ [])).tokens ≡ Character 172 ∷ Character 0 ∷ Character 38 ∷ Character 0 ∷ []
unfolding feed settle
nul_behind_a_name = refl

-- numbers, with and without a `;`
numbers : (es : Entities) → (feed es false data_state (codes "&#65;&#x1F600;&#X41a&#65a")).tokens ≡ map Character (65 ∷ 0x1F600 ∷ 0x41A ∷ 65 ∷ 97 ∷ [])
unfolding feed settle
numbers es = refl

-- codes of Windows
windows : (es : Entities) → (feed es false data_state (codes "&#128;&#x9f;&#x81;")).tokens ≡ map Character (0x20AC ∷ 0x178 ∷ 0x81 ∷ [])
unfolding feed settle
windows es = refl

-- codes that are no characters
no_characters : (es : Entities) → (feed es false data_state (codes "&#0;&#xD800;&#xDFFF;&#x110000;&#99999999999999999999;&#x10FFFF;")).tokens ≡ map Character (0xFFFD ∷ 0xFFFD ∷ 0xFFFD ∷ 0xFFFD ∷ 0xFFFD ∷ 0x10FFFF ∷ [])
unfolding feed settle
no_characters es = refl

-- numbers with no digit
no_digits : (es : Entities) → (feed es false data_state (codes "&#;&#x;&#Xg&#x&")).tokens ≡ map Character (codes "&#;&#x;&#Xg&#x")
unfolding feed settle
no_digits es = refl

-- the input ends in a number
number_cut : (es : Entities) → (read_end es false (feed es false data_state (codes "&#0")).state).tokens ≡ Character 0xFFFD ∷ EndOfFile ∷ []
unfolding feed settle
number_cut es = refl

no_digits_cut : (es : Entities) → (read_end es false (feed es false data_state (codes "&#X")).state).tokens ≡ map Character (codes "&#X") ++ EndOfFile ∷ []
unfolding feed settle
no_digits_cut es = refl

-- a number in an attribute
number_in_an_attribute : (es : Entities) → (feed es false data_state (codes "<p a=x&#x41;&#0>")).tokens ≡ p_with (codes "xA" ++ 0xFFFD ∷ []) ∷ []
unfolding feed settle
number_in_an_attribute es = refl

-- ---- CDATA sections (13.2.5.69 #cdata-section-state to 13.2.5.71 #cdata-section-end-state), in
-- foreign content

-- nothing in one is a tag or a reference
cdata : feed some_names true data_state (codes "<![CDATA[<p>&amp;]]>") ≡ record { tokens = map Character (codes "<p>&amp;"); state = data_state }
unfolding feed settle
cdata = refl

empty_cdata : (es : Entities) → feed es true data_state (codes "<![CDATA[]]>") ≡ record { tokens = []; state = data_state }
unfolding feed settle
empty_cdata es = refl

-- one bracket, two brackets with no `>` behind them, a `>` alone
brackets : (es : Entities) → (feed es true data_state (codes "<![CDATA[]a]>]]b]]>c")).tokens ≡ map Character (codes "]a]>]]bc")
unfolding feed settle
brackets es = refl

-- of three brackets or more the last two end it
brackets_at_its_end : (es : Entities) → feed es true data_state (codes "<![CDATA[]]]]>") ≡ record { tokens = map Character (codes "]]"); state = data_state }
unfolding feed settle
brackets_at_its_end es = refl

-- what is held of its end
two_held : (es : Entities) → feed es true data_state (codes "<![CDATA[x]]") ≡ record { tokens = Character 120 ∷ []; state = in_cdata End }
unfolding feed settle
two_held es = refl

-- NUL stays
nul_in_cdata : (es : Entities) → (feed es true (in_cdata Section) (0 ∷ codes "]" ++ 0 ∷ codes "]]" ++ 0 ∷ [])).tokens ≡ map Character (0 ∷ codes "]" ++ 0 ∷ codes "]]" ++ 0 ∷ [])
unfolding feed settle
nul_in_cdata es = refl

-- the input ends in it, in each of its states
cdata_cut : (es : Entities) → (read_end es true (in_cdata Section)).tokens ≡ EndOfFile ∷ []
unfolding settle
cdata_cut es = refl

cdata_cut_at_a_bracket : (es : Entities) → (read_end es true (in_cdata Bracket)).tokens ≡ Character 93 ∷ EndOfFile ∷ []
unfolding settle
cdata_cut_at_a_bracket es = refl

cdata_cut_at_two : (es : Entities) → (read_end es true (in_cdata End)).tokens ≡ Character 93 ∷ Character 93 ∷ EndOfFile ∷ []
unfolding settle
cdata_cut_at_two es = refl

-- the flag is asked only where a section begins
cdata_goes_on : (es : Entities) → (feed es false (in_cdata Section) (codes "<a]]><b>")).tokens
    ≡ map Character (codes "<a") ++ StartTag (record { name = Known word.B; attributes = []; self_closing = false }) ∷ []
unfolding feed settle
cdata_goes_on es = refl

-- only in capital letters
cdata_in_small_letters : (es : Entities) → (feed es true data_state (codes "<![cdata[x]]>")).tokens ≡ Comment (codes "[cdata[x]]") ∷ []
unfolding feed settle
cdata_in_small_letters es = refl

-- what was held is part of the comment, and the input may end in it
no_cdata : (es : Entities) → (feed es true data_state (codes "<![CDATA><![>")).tokens ≡ Comment (codes "[CDATA") ∷ Comment (codes "[") ∷ []
unfolding feed settle
no_cdata es = refl

cdata_word_cut : (es : Entities) → (read_end es true (feed es true data_state (codes "<![CDATA")).state).tokens ≡ Comment (codes "[CDATA") ∷ EndOfFile ∷ []
unfolding feed settle
cdata_word_cut es = refl

-- comments and doctypes are what they are among HTML elements
marks_in_foreign_content : (es : Entities) → (feed es true data_state (codes "<!--a--><!doctype x>")).tokens ≡ Comment (codes "a") ∷ Doctype (codes "x") false ∷ []
unfolding feed settle
marks_in_foreign_content es = refl

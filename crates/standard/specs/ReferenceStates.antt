-- The states of character references (13.2.5.72 #character-reference-state to
-- 13.2.5.80 #numeric-character-reference-end-state).
use Rattle.std.specs.Prelude.{ℕ, ◌+◌, ◌*◌, ◌==◌, nat_le, min, Bool, true, false, not, ◌&&◌, ◌||◌, if◌then◌else◌, List, [], ◌∷◌, ◌++◌, map, length, drop, Option, Some, None}
use Rattle.std.specs.Char.{digit_value, is_digit}
use Rattle.html_types.specs.declared.attributes.Attribute.{Attribute}
use Rattle.html_types.specs.declared.token.Token.TheVariants.{Character}
use Rattle.html_types.specs.declared.state.RawText.TheVariants as raw
use Rattle.html_types.specs.declared.state.TextState.TheVariants.{Raw}
use Rattle.html_types.specs.declared.state.TagState.TheVariants as tag_state
use Rattle.html_types.specs.declared.state.TokState.{TokState}
use Rattle.html_types.specs.declared.reference_state.ReturnState.{ReturnState}
use Rattle.html_types.specs.declared.reference_state.ReturnState.TheVariants.{Data, Rcdata, AttributeValueQuoted, AttributeValueUnquoted}
use Rattle.html_types.specs.declared.reference_state.ReferenceState.{ReferenceState}
use Rattle.html_types.specs.declared.reference_state.ReferenceState.TheVariants.{Ampersand, Named, Numeric, HexadecimalStart, Hexadecimal, Decimal}
use Rattle.html_types.specs.declared.class.Class.{Class}
use Rattle.html_types.specs.declared.class.Class.TheVariants as class
use Rattle.standard.specs.Class.{class_of}
use Rattle.standard.specs.Entities.{Entity, Entities, begins_some, longest, ends_in_semicolon}
use Rattle.standard.specs.Step.{Step, in_text, in_tag, in_reference, data_state, to, again}

-- ---- the return state

abbrev pub return_state : ReturnState → TokState
return_state Data = data_state
return_state (Rcdata last) = in_text (Raw raw.Rcdata last)
return_state (AttributeValueQuoted tag held quote) = in_tag (tag_state.AttributeValueQuoted tag held quote)
return_state (AttributeValueUnquoted tag held) = in_tag (tag_state.AttributeValueUnquoted tag held)

-- the reference is part of an attribute
abbrev pub is_in_attribute : ReturnState → Bool
is_in_attribute Data = false
is_in_attribute (Rcdata last) = false
is_in_attribute (AttributeValueQuoted tag held quote) = true
is_in_attribute (AttributeValueUnquoted tag held) = true

-- these characters behind a held value
abbrev pub value_with : Option Attribute → List ℕ → Option Attribute
value_with None cs = None
value_with (Some a) cs = Some (record a { value = a.value ++ cs })

-- Into the return state, with these characters as they stand: emitted, or in an attribute behind its value. The flag says
-- whether the character at hand is read again there.
abbrev pub literally : ReturnState → List ℕ → Bool → Step
literally Data cs more = record { tokens = map Character cs; state = data_state; again = more }
literally (Rcdata last) cs more = record { tokens = map Character cs; state = in_text (Raw raw.Rcdata last); again = more }
literally (AttributeValueQuoted tag held quote) cs more = record { tokens = []; state = in_tag (tag_state.AttributeValueQuoted tag (value_with held cs) quote); again = more }
literally (AttributeValueUnquoted tag held) cs more = record { tokens = []; state = in_tag (tag_state.AttributeValueUnquoted tag (value_with held cs)); again = more }

-- ---- names. `&` is 38

-- 13.2.5.72 #character-reference-state Character reference state
abbrev pub ampersand_row : ReturnState → Class → ℕ → Step
ampersand_row back class.Alpha c = again (in_reference (Named back (38 ∷ [])))
ampersand_row back class.Digit c = again (in_reference (Named back (38 ∷ [])))
ampersand_row back class.Hash c = to (in_reference (Numeric back))
ampersand_row back _ c = literally back (38 ∷ []) true

-- `=`, an ASCII letter or a digit
abbrev pub goes_on : Class → Bool
goes_on class.Equals = true
goes_on class.Alpha = true
goes_on class.Digit = true
goes_on _ = false

-- the class of the character next behind a name: of the first that was held beyond it, or of the one at hand
abbrev pub class_behind : List ℕ → Class → Class
class_behind [] k = k
class_behind (c ∷ cs) k = class_of c

-- for historical reasons nothing is replaced in an attribute where the name has no `;` and what is behind it goes on
abbrev pub is_kept : ReturnState → Entity → List ℕ → Class → Bool
is_kept back e beyond k = is_in_attribute back && (not (ends_in_semicolon e.name) && goes_on (class_behind beyond k))

-- what was held, where that is the longest name in it
abbrev pub named_step : ReturnState → List ℕ → Option Entity → Class → Step
named_step back held None k = literally back held true
named_step back held (Some e) k =
    let beyond = drop (length e.name) held in
    if is_kept back e beyond k then literally back held true else literally back (e.characters ++ beyond) true

-- 13.2.5.73 #named-character-reference-state Named character reference state
abbrev pub named_row : Entities → ReturnState → List ℕ → Class → ℕ → Step
named_row es back held class.InputEnd c = named_step back held (longest held es) class.InputEnd
named_row es back held k c =
    if begins_some (held ++ c ∷ []) es then to (in_reference (Named back (held ++ c ∷ []))) else named_step back held (longest held es) k

-- ---- numbers. `#` is 35

-- what stands for a code of 80 to 9F
abbrev pub windows_1252 : ℕ → ℕ
windows_1252 code =
    if code == 0x80 then 0x20AC
    else (if code == 0x82 then 0x201A
    else (if code == 0x83 then 0x0192
    else (if code == 0x84 then 0x201E
    else (if code == 0x85 then 0x2026
    else (if code == 0x86 then 0x2020
    else (if code == 0x87 then 0x2021
    else (if code == 0x88 then 0x02C6
    else (if code == 0x89 then 0x2030
    else (if code == 0x8A then 0x0160
    else (if code == 0x8B then 0x2039
    else (if code == 0x8C then 0x0152
    else (if code == 0x8E then 0x017D
    else (if code == 0x91 then 0x2018
    else (if code == 0x92 then 0x2019
    else (if code == 0x93 then 0x201C
    else (if code == 0x94 then 0x201D
    else (if code == 0x95 then 0x2022
    else (if code == 0x96 then 0x2013
    else (if code == 0x97 then 0x2014
    else (if code == 0x98 then 0x02DC
    else (if code == 0x99 then 0x2122
    else (if code == 0x9A then 0x0161
    else (if code == 0x9B then 0x203A
    else (if code == 0x9C then 0x0153
    else (if code == 0x9E then 0x017E
    else (if code == 0x9F then 0x0178
    else code))))))))))))))))))))))))))

-- 13.2.5.80 #numeric-character-reference-end-state Numeric character reference end state: the
-- character of a code. No code of 0, of a surrogate, or beyond 10FFFF has one; U+FFFD stands for
-- it.
abbrev pub character_of : ℕ → ℕ
character_of code =
    if code == 0 || (nat_le 0xD800 code && nat_le code 0xDFFF) || nat_le 0x11_0000 code then 0xFFFD
    else windows_1252 code

abbrev pub referred : ReturnState → ℕ → Bool → Step
referred back code more = literally back (character_of code ∷ []) more

-- one more digit in a code, where 110000 stands for all codes beyond
abbrev pub longer_code : ℕ → ℕ → ℕ → ℕ
longer_code radix code c = min (code * radix + digit_value c) 0x11_0000

-- 13.2.5.75 #numeric-character-reference-state Numeric character reference state,
-- 13.2.5.77 #decimal-character-reference-start-state Decimal character reference start state
abbrev pub numeric_row : ReturnState → Class → ℕ → Step
numeric_row back class.Alpha c = if c == 120 || c == 88 then to (in_reference (HexadecimalStart back c)) else literally back (38 ∷ 35 ∷ []) true
numeric_row back class.Digit c = again (in_reference (Decimal back 0))
numeric_row back _ c = literally back (38 ∷ 35 ∷ []) true

-- 13.2.5.76 #hexadecimal-character-reference-start-state Hexadecimal character reference start
-- state
abbrev pub hexadecimal_start_row : ReturnState → ℕ → Class → ℕ → Step
hexadecimal_start_row back x class.InputEnd c = literally back (38 ∷ 35 ∷ x ∷ []) true
hexadecimal_start_row back x _ c = if is_digit c 16 then again (in_reference (Hexadecimal back 0)) else literally back (38 ∷ 35 ∷ x ∷ []) true

-- 13.2.5.78 #hexadecimal-character-reference-state Hexadecimal character reference state
abbrev pub hexadecimal_row : ReturnState → ℕ → Class → ℕ → Step
hexadecimal_row back code class.Semicolon c = referred back code false
hexadecimal_row back code class.InputEnd c = referred back code true
hexadecimal_row back code _ c = if is_digit c 16 then to (in_reference (Hexadecimal back (longer_code 16 code c))) else referred back code true

-- 13.2.5.79 #decimal-character-reference-state Decimal character reference state
abbrev pub decimal_row : ReturnState → ℕ → Class → ℕ → Step
decimal_row back code class.Semicolon c = referred back code false
decimal_row back code class.InputEnd c = referred back code true
decimal_row back code _ c = if is_digit c 10 then to (in_reference (Decimal back (longer_code 10 code c))) else referred back code true

-- the rows of these states
abbrev pub reference_row : Entities → ReferenceState → Class → ℕ → Step
reference_row es (Ampersand back) k c = ampersand_row back k c
reference_row es (Named back held) k c = named_row es back held k c
reference_row es (Numeric back) k c = numeric_row back k c
reference_row es (HexadecimalStart back x) k c = hexadecimal_start_row back x k c
reference_row es (Hexadecimal back code) k c = hexadecimal_row back code k c
reference_row es (Decimal back code) k c = decimal_row back code k c

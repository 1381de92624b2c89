-- The classes of characters that the rows of the tokenizer (13.2.5 #tokenization) tell apart.
use Rattle.std.specs.Prelude.{ℕ, Bool, List, if◌then◌else◌, ◌==◌, ◌||◌, ◌&&◌, nat_le}
use Rattle.std.specs.List.{position_or_len}
use Rattle.std.specs.Char.{is_ascii_alphabetic, to_ascii_lowercase}
use Rattle.html_types.specs.declared.class.Class.{Class}
use Rattle.html_types.specs.declared.class.Class.TheVariants.{Nul, Space, Bang, DoubleQuote, Hash, Ampersand, SingleQuote, Hyphen, Slash, Digit, Semicolon, Less, Equals, Greater, Question, Alpha, LeftBracket, RightBracket, Other}

-- the class of a character
abbrev pub class_of : ℕ → Class
class_of c =
    if c == 0 then Nul
    else (if c == 9 || c == 10 || c == 12 || c == 32 then Space
    else (if c == 33 then Bang
    else (if c == 34 then DoubleQuote
    else (if c == 35 then Hash
    else (if c == 38 then Ampersand
    else (if c == 39 then SingleQuote
    else (if c == 45 then Hyphen
    else (if c == 47 then Slash
    else (if nat_le 48 c && nat_le c 57 then Digit
    else (if c == 59 then Semicolon
    else (if c == 60 then Less
    else (if c == 61 then Equals
    else (if c == 62 then Greater
    else (if c == 63 then Question
    else (if is_ascii_alphabetic c then Alpha
    else (if c == 91 then LeftBracket
    else (if c == 93 then RightBracket
    else Other)))))))))))))))))

-- U+FFFD for NUL
abbrev pub shown : ℕ → ℕ
shown c = if c == 0 then 0xFFFD else c

-- and in lower case
abbrev pub name_char : ℕ → ℕ
name_char c = to_ascii_lowercase (shown c)

-- the bytes at which a run of plain text ends: NUL, CR, `&` and `<`
abbrev pub is_mark : ℕ → Bool
is_mark b = b == 0 || b == 13 || b == 38 || b == 60

-- the place of the first of them, or the length
abbrev pub first_mark : List ℕ → ℕ
first_mark bytes = position_or_len is_mark bytes

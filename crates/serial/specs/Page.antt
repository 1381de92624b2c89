-- The text and the ending of a page's bytes (13.2.3 #the-input-byte-stream The input byte stream).
-- The encoding is UTF-8, as the Encoding standard's "UTF-8 decode" reads it: one byte order mark at
-- the front is dropped. In place of U+FFFD, bytes that aren't UTF-8 end the page. So does the
-- limit, and a read that failed.
use Rattle.std.specs.Prelude.{ℕ, ◌+◌, List, [], ◌∷◌, ◌==◌, Bool, is_none, length, take, drop, nat_lt, if◌then◌else◌, Option, Some, None, unwrap_or}
use Rattle.std.specs.Str.{chars}
use Rattle.std.specs.Str.Lossy.{utf8_valid_len, utf8_error_len}
use Rattle.html_types.specs.declared.ending.Ending.{Ending}
use Rattle.html_types.specs.declared.ending.Ending.TheVariants.{End, Bad, Long, Fault}

-- the longest front that is UTF-8
abbrev pub front : List ℕ → List ℕ
front bytes = take (utf8_valid_len bytes) bytes

-- characters without one byte order mark at the front
abbrev pub without_mark : List ℕ → List ℕ
without_mark [] = []
without_mark (c ∷ cs) = if c == 0xFEFF then cs else c ∷ cs

-- the page's text: the characters of the longest UTF-8 front of the first bytes, as many as the limit
abbrev pub text_of : ℕ → List ℕ → List ℕ
text_of limit bytes = without_mark (chars (front (take limit bytes)))

-- behind their longest UTF-8 front the bytes end, or are the beginning of a character
abbrev pub is_text_so_far : List ℕ → Bool
is_text_so_far bytes = is_none (utf8_error_len (drop (utf8_valid_len bytes) bytes))

-- The ending that the bytes show, however they go on. One byte past the limit is looked at, and bad bytes come before
-- the limit.
abbrev pub shown : ℕ → List ℕ → Option Ending
shown limit bytes = if is_text_so_far (take (limit + 1) bytes)
    then (if nat_lt limit (length bytes) then Some Long else None) else Some Bad

-- The ending, where the bytes go on no further: because a read failed, or at the file's end, which may stand inside a
-- character.
abbrev pub ending_of : ℕ → List ℕ → Bool → Ending
ending_of limit bytes fault = unwrap_or (shown limit bytes)
    (if fault then Fault else (if utf8_valid_len bytes == length bytes then End else Bad))

-- a page as the parse reads it
pub record Page : Type 0 where
  pub text : List ℕ
  pub ending : Ending

-- the page of these bytes, behind which a read failed or the file ended
abbrev pub page_of : ℕ → List ℕ → Bool → Page
page_of limit bytes fault = record { text = text_of limit bytes; ending = ending_of limit bytes fault }

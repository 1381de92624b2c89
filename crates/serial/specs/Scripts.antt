-- The files of external scripts: their names, and what stands in one.
use Rattle.std.specs.Prelude.{ℕ, nat_le, Bool, true, false, not, ◌==◌, ◌&&◌, ◌||◌, List, [], ◌∷◌, length, Option, None}
use Rattle.std.specs.Char.{is_ascii_alphanumeric}
use Rattle.std.specs.List.{list_all}
use Rattle.std.specs.Str.{chars, is_utf8}
use Rattle.serial.specs.declared.script.Statement.{Statement}
use Rattle.serial.specs.Page.{without_mark}
use Rattle.serial.specs.Statements.{statements}

-- what fetching a script gives
pub data Fetched : Type 0 where
  -- the file's bytes
  got : List ℕ → Fetched
  missing : Fetched
  -- a read of it failed
  faulted : Fetched

abbrev pub is_name_character : ℕ → Bool
is_name_character c = is_ascii_alphanumeric c || c == 46 || c == 95 || c == 45

-- 1 to 100 letters, digits, `.`, `_` and `-`, with no dot at the front
unfoldable pub is_lawful : List ℕ → Bool
is_lawful [] = false
is_lawful (c ∷ cs) = not (c == 46) && list_all is_name_character (c ∷ cs) && nat_le (length (c ∷ cs)) 100

-- the bytes that a script's file may have
abbrev pub script_limit : ℕ
script_limit = 1048576

-- whether a file is short enough and UTF-8
abbrev pub is_text : List ℕ → Bool
is_text bytes = nat_le (length bytes) script_limit && is_utf8 bytes

-- the statements of a file's characters, where it is a text
abbrev pub statements_if : Bool → List ℕ → Option (List Statement)
statements_if false text = None
statements_if true text = statements text

-- the statements of a file; none where it is too long, isn't UTF-8 or isn't in the language
unfoldable pub file_statements : List ℕ → Option (List Statement)
file_statements bytes = statements_if (is_text bytes) (without_mark (chars bytes))

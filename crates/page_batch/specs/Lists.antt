-- A list of pages: their paths, a line each.
use Rattle.std.specs.Prelude.{ℕ, Bool, true, false, List, [], ◌∷◌, length, nat_le, ◌==◌, ◌&&◌, not, Option, Some, None, if◌then◌else◌}
use Rattle.std.specs.Str.Lossy.{utf8_valid_len}
use Rattle.page_batch.specs.declared.list.TheConstants.{LIST_LIMIT}

-- the first line, with a character more in front
abbrev pub with_first : ℕ → List (List ℕ) → List (List ℕ)
with_first c [] = (c ∷ []) ∷ []
with_first c (line ∷ lines) = (c ∷ line) ∷ lines

-- Each LF ends a line, and is no part of it. What stands behind the last one is a line where it isn't empty.
abbrev pub lines_of : List ℕ → List (List ℕ)
lines_of [] = []
lines_of (c ∷ cs) = if c == 10 then [] ∷ lines_of cs else with_first c (lines_of cs)

abbrev pub has_empty : List (List ℕ) → Bool
has_empty [] = false
has_empty ([] ∷ lines) = true
has_empty ((c ∷ cs) ∷ lines) = has_empty lines

abbrev pub is_utf8 : List ℕ → Bool
is_utf8 bytes = utf8_valid_len bytes == length bytes

-- they aren't too many, are UTF-8, and have no empty line
abbrev pub is_list : List ℕ → Bool
is_list bytes = nat_le (length bytes) LIST_LIMIT && (is_utf8 bytes && not (has_empty (lines_of bytes)))

-- The paths of the bytes of a list. There are none where the bytes are no list.
abbrev pub paths_in : List ℕ → Option (List (List ℕ))
paths_in bytes = if is_list bytes then Some (lines_of bytes) else None

-- Runs of characters that are written as they are.
use Rattle.std.specs.Prelude.{ℕ, Bool, List, if◌then◌else◌, ◌==◌, ◌||◌}
use Rattle.std.specs.List.{position_or_len}
use Rattle.standard.specs.Outer.{escaped, escaped_in_value}

-- what stands for a character in an attribute's value, or in a text
abbrev pub escaped_for : Bool → ℕ → List ℕ
escaped_for in_value c = if in_value then escaped_in_value c else escaped c

-- the first bytes of the characters that may be written otherwise: those of `"`, `&`, `<` and `>`, and that of U+00A0
abbrev pub is_stop : ℕ → Bool
is_stop b = b == 34 || b == 38 || b == 60 || b == 62 || b == 194

-- how many bytes stand before the first of them
abbrev pub plain_len : List ℕ → ℕ
plain_len bytes = position_or_len is_stop bytes

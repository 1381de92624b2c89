use Rattle.std.proofs.Common.{◌≡◌, map}
use Rattle.std.specs.Char.{to_ascii_lowercase}
use Rattle.std.specs.Str.{chars, IsUtf8}
use Rattle.std.specs.Str.Iter.{chars_rest}
use Rattle.html_types.specs.Text.{same_text}
use Rattle.foreign_tables.proofs.names.is_lower_of.Given as goal

-- what is read of both is the same
abbrev pub invariant-loop-c : goal.invariant-loop-c
invariant-loop-c l =
    IsUtf8 (chars_rest l.c-iterator) × IsUtf8 (chars_rest l.rest)
    × (same_text (map to_ascii_lowercase (chars (chars_rest l.c-iterator))) (chars (chars_rest l.rest))
    ≡ same_text (map to_ascii_lowercase (chars l.fn.name)) (chars l.fn.lower))

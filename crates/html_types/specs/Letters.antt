-- The bytes of a text, wherever they lie.
use Rattle.std.specs.Prelude.{ℕ, List, string_bytes}
use Rattle.html_types.specs.declared.letters.Letters.{Letters}
use Rattle.html_types.specs.declared.letters.Letters.TheVariants.{Short, Long}

abbrev pub letter_bytes : Letters → List ℕ
letter_bytes (Short s) = s.bytes
letter_bytes (Long s) = string_bytes s

-- White space among characters, as the rules of tree construction name it
-- (13.2.6.4 #parsing-main-inhtml).
use Rattle.std.specs.Prelude.{ℕ, Bool, ◌==◌, ◌||◌}

-- TAB, LF, FF, CR, SPACE
abbrev pub is_space : ℕ → Bool
is_space c = c == 9 || c == 10 || c == 12 || c == 13 || c == 32

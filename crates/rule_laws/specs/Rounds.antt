-- Processing a token again, or by the rules of another mode, comes to an end within the number of rounds that is allowed.
use Rattle.std.specs.Prelude.{◌≡◌, ◌≤◌, ℕ, ◌+◌, Bool, true, false, IsTrue, List, length, Option, Some, None}
use Rattle.std.specs.List.{list_all}
use Rattle.html_types.specs.declared.instruction.Mode.{Mode}
use Rattle.html_types.specs.declared.instruction.Mode.TheVariants.{InForeign}
use Rattle.html_types.specs.declared.instruction.Next.{Next}
use Rattle.html_types.specs.declared.instruction.Next.TheVariants as next
use Rattle.html_types.specs.declared.token.Token.{Token}
use Rattle.html_types.specs.declared.operation.Op.{Op}
use Rattle.html_types.specs.declared.open.Open.{Open}
use Rattle.standard.specs.Rules.{process, rounds}
use Rattle.rule_laws.specs.Proper.{IsProper}

-- the rules for foreign content are no insertion mode
abbrev pub is_insertion_mode : Mode → Bool
is_insertion_mode InForeign = false
is_insertion_mode _ = true

abbrev pub is_insertion_mode_if_any : Option Mode → Bool
is_insertion_mode_if_any None = true
is_insertion_mode_if_any (Some m) = is_insertion_mode m

-- each mode that an open state holds is an insertion mode, as those of a proper one are
pub record AreModes (m : Mode) (m0 : Option Mode) (ms : List Mode) : Type 0 where
  pub mode : IsTrue (is_insertion_mode m)
  pub original : IsTrue (is_insertion_mode_if_any m0)
  pub templates : IsTrue (list_all is_insertion_mode ms)

abbrev pub HasModes : Open → Type 0
HasModes b = AreModes b.mode b.original b.template_modes

-- whatever is allowed beyond it makes no difference
abbrev pub RoundsSuffice : Type 0
RoundsSuffice =
    (n : ℕ) (m : Mode) (t : Token) (b : Open) (o : List Op) → length b.stack ≤ 512 → HasModes b → process (rounds + n) m t b o ≡ process rounds m t b o

-- no more of the rules is asked for, as it would be where the rounds were used up: the token is done, the tokenizer is to
-- read on in another way, or parsing stops
abbrev pub is_answer : Next → Bool
is_answer next.Reprocess = false
is_answer (next.UsingRules m) = false
is_answer next.InBodyFostering = false
is_answer (next.Adopt w h) = false
is_answer _ = true

abbrev pub RoundsAnswer : Type 0
RoundsAnswer = (m : Mode) (t : Token) (b : Open) (o : List Op) → length b.stack ≤ 512 → HasModes b → is_answer (process rounds m t b o).next ≡ true

abbrev pub ProperHasModes : Type 0
ProperHasModes = (b : Open) → IsProper b → HasModes b

-- How far a script that is in hand runs: until it has ended and all that was written is used, or another script is awaited.
use Rattle.std.specs.Prelude.{◌≡◌, ℕ, Bool, true, false, List, [], ◌∷◌, Some}
use Rattle.html_types.specs.declared.ending.Ending.{Ending}
use Rattle.html_types.specs.declared.ending.Ending.TheVariants as ending
use Rattle.serial.specs.Serial.{World, Moment, reading, tag_ended, awaits, over, moment_after}

abbrev pub is_empty : {A : Type 0} → List A → Bool
is_empty [] = true
is_empty (a ∷ rest) = false

-- Of a parse whose input is written text alone: all of it is used, or a script is awaited, or the parse is over.
abbrev pub is_settled : Moment → Bool
is_settled (reading s) = is_empty s.input
is_settled (tag_ended i s) = false
is_settled (awaits name s) = true
is_settled (over o) = true

-- from a moment to another, of which none before the last is settled
pub data Through (e : Ending) (w : World) : Moment → Moment → Type 0 where
  here : (m : Moment) → Through e w m m
  onward : (n : ℕ) (m m1 m' : Moment) → is_settled m ≡ false → moment_after n e w m ≡ Some m1 → Through e w m1 m' → Through e w m m'

-- From a moment to the first one behind it that is settled. Until then the page's ending isn't looked at.
pub record Settles (w : World) (m m' : Moment) : Type 0 where
  pub fuel : ℕ
  pub next : Moment
  pub first : moment_after fuel ending.End w m ≡ Some next
  pub through : Through ending.End w next m'
  pub settled : is_settled m' ≡ true

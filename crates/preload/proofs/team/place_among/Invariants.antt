use Rattle.std.proofs.Common.{◌≡◌, ◌<◌, ℕ, false, List, Some, slice_get}
use Rattle.std.specs.Str.{chars}
use Rattle.html_types.specs.Text.{same_text}
use Rattle.preload.proofs.team.place_among.Given as goal

-- none that is passed is the name
abbrev pub invariant-loop-k : goal.invariant-loop-k
invariant-loop-k l = (k : ℕ) (n : List ℕ) → k < l.k → slice_get l.names k ≡ Some n → same_text n (chars l.name) ≡ false

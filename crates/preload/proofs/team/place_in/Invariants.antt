use Rattle.std.proofs.Common.{◌≡◌, ◌<◌, ℕ, Some, slice_get}
use Rattle.std.specs.Str.{chars}
use Rattle.preload.specs.Teams.{IsUnasked}
use Rattle.preload.proofs.team.place_in.Given as goal

-- none that is passed was asked for the name
abbrev pub invariant-loop-who : goal.invariant-loop-who
invariant-loop-who g l = (k : ℕ) (m : _) → k < l.who → slice_get l.members k ≡ Some m → IsUnasked (chars l.name) m

use Rattle.std.proofs.Common.{◌≡◌, map, drop}
use Rattle.std.specs.Str.{chars}
use Rattle.standard.specs.ForeignNames.{respelled}
use Rattle.foreign_tables.proofs.names.respelled.Given as goal

-- none that is passed is it
abbrev pub invariant-loop-name : goal.invariant-loop-name
invariant-loop-name l = respelled (map (λ name. chars name.now) l.fn.names) (chars l.lower)
    ≡ respelled (map (λ name. chars name.now) (drop l.name-index l.names)) (chars l.lower)

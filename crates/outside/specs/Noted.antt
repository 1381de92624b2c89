-- The paths that an outside in memory has noted.
use Rattle.std.specs.Prelude.{map, Some, None, if◌then◌else◌}
use Rattle.std.specs.String.{string_bytes}
use Rattle.outside.specs.Outside.{Paths}
use Rattle.outside.specs.declared.traits.Port.{Port}
use Rattle.outside.specs.declared.traits.Port.TheVariants.{Entities, List, Page, Script}
use Rattle.outside.specs.declared.noted.NotedPaths.{NotedPaths}
use Rattle.outside.specs.declared.noted.Noted.{Noted}

-- all of them, or none once memory ran out
abbrev pub told : NotedPaths → Paths
told noted = if noted.is_whole then Some (map string_bytes noted.texts.items) else None

abbrev pub noted_at : Noted → Port → Paths
noted_at all Entities = told all.entities
noted_at all List = told all.list
noted_at all Page = told all.page
noted_at all Script = told all.script

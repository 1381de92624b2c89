-- The entities that a call is given.
use Rattle.std.specs.Prelude.{◌≡◌, ℕ, ◌==◌, Bool, false, ◌||◌, if◌then◌else◌, List, [], ◌∷◌, Option, Some}
use Rattle.standard.specs.Entities.{Entities, entities_of}
use Rattle.entity_table.specs.Prepared.{loaded}

-- the bytes begin as JSON does, with white space or `{`
abbrev pub begins_json : List ℕ → Bool
begins_json [] = false
begins_json (b ∷ bytes) = (b == 123) || ((b == 32) || ((b == 10) || ((b == 13) || (b == 9))))

-- the entities that the bytes list, which are the JSON file or what sp_entities made of it
unfoldable pub entities_in : List ℕ → Option Entities
entities_in bytes = if begins_json bytes then entities_of bytes else loaded bytes

-- prepared bytes list what those given do, also for a call that is given them in their place
pub record ArePrepared (given bytes : List ℕ) : Type 0 where
  pub es : Entities
  pub given_are : entities_in given ≡ Some es
  pub listed : loaded bytes ≡ Some es
  pub taken : entities_in bytes ≡ Some es

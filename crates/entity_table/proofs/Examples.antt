-- Worked examples of the definitions.
use Rattle.std.proofs.Common.{◌≡◌, [], ◌∷◌, Some, None, true, false, refl}
use Rattle.std.specs.Prelude.{codes}
use Rattle.std.specs.Str.{chars, is_utf8}
use Rattle.std.specs.Char.{encode_utf8}
use Rattle.serde_json.proofs.OnLiterals.{serde_json_on_literals}
use Rattle.standard.specs.Entities.{Entities, is_name, begins_some, longest, entities_of}

some_names : Entities
some_names =
    record { name = codes "&not"; characters = 172 ∷ [] }
    ∷ record { name = codes "&not;"; characters = 172 ∷ [] }
    ∷ record { name = codes "&notin;"; characters = 8713 ∷ [] }
    ∷ []

more : begins_some (codes "&noti") some_names ≡ true
unfolding some_names
more = refl

no_more : begins_some (codes "&notit") some_names ≡ false
unfolding some_names
no_more = refl

shorter : longest (codes "&notit;") some_names ≡ Some (record { name = codes "&not"; characters = 172 ∷ [] })
unfolding some_names
shorter = refl

whole : longest (codes "&notin;") some_names ≡ Some (record { name = codes "&notin;"; characters = 8713 ∷ [] })
unfolding some_names
whole = refl

no_letters : is_name (codes "&;") ≡ false
no_letters = refl

file : entities_of (codes "{\"&gt\": {\"codepoints\": [62], \"characters\": \">\"}, \"&acE;\": {\"codepoints\": [8766, 819]}}")
    ≡ Some (record { name = codes "&acE;"; characters = 8766 ∷ 819 ∷ [] } ∷ record { name = codes "&gt"; characters = 62 ∷ [] } ∷ [])
unfolding entities_of is_utf8 chars encode_utf8 serde_json_on_literals
file = refl

three : entities_of (codes "{\"&gt\": {\"codepoints\": [62, 62, 62]}}") ≡ None
unfolding entities_of is_utf8 chars encode_utf8 serde_json_on_literals
three = refl

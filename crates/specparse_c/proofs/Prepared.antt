-- Prepared entities are given to a call in the JSON file's place.
use Rattle.std.proofs.Common.{◌≡◌, ℕ, ◌==◌, Bool, true, false, cond, List, [], ◌∷◌, Option, Some, None, option_and_then, refl, sym, subst}
use Rattle.std.proofs.lemmas.Bool.{eqb-true}
use Rattle.standard.specs.Entities.{Entities}
use Rattle.entity_table.specs.Prepared.{take_number, entities_above, take_count, loaded}
use Rattle.specparse_c.specs.Entities.{begins_json, entities_in, ArePrepared}

form_is : (b : Bool) (o : Option (ℕ × List ℕ)) (es : Entities) → option_and_then (λ (count : ℕ × List ℕ). entities_above [] count.0 count.1) (cond b o None) ≡ Some es → b ≡ true
form_is true o es h = refl
form_is false o es h = cc

-- they begin with a 1
begins-loaded : (bytes : List ℕ) (es : Entities) → loaded bytes ≡ Some es → begins_json bytes ≡ false
unfolding loaded take_count
begins-loaded [] es h = refl
begins-loaded (form ∷ bytes) es h =
    subst (λ (f : ℕ). begins_json (f ∷ bytes) ≡ false) (sym (eqb-true form 1 (form_is (form == 1) (take_number bytes) es h))) refl

pub are-prepared : (given bytes : List ℕ) (es : Entities) → entities_in given ≡ Some es → loaded bytes ≡ Some es → ArePrepared given bytes
unfolding entities_in
are-prepared given bytes es is h = record { es = es; given_are = is; listed = h; taken = rw (begins-loaded bytes es h) h }

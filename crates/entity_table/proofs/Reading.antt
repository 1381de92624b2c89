-- What a file's members make of its table.
use Rattle.std.proofs.Common.{◌≡◌, ℕ, ◌≤◌, length, arith, Bool, true, false, List, [], ◌∷◌, ◌++◌, Option, Some, None, option_map, option_and_then, refl, sym, ap, ◌∙◌, append_assoc, cond}
use Rattle.std.proofs.lemmas.List.{map-append}
use Rattle.std.proofs.Common.{Less, nat_cmp, string_cmp, map, subst}
use Rattle.std.specs.List.{AllByRecursion, list_all}
use Rattle.std.proofs.lemmas.Bool.{and_from}
use Rattle.std.specs.List.Sorted.{IsStrictlySortedBy}
use Rattle.std.specs.Map.{keys_of}
use Rattle.std.specs.Cmp.Lexicographic.{slice_cmp}
use Rattle.entity_table.specs.Order.{names_of, AreInOrder, AreNames}
use Rattle.entity_table.specs.Parts.{row_names}
use Rattle.std.specs.Str.{IsUtf8, is_utf8}
use Rattle.std.proofs.lemmas.Str.{IsUtf8-from_is_utf8, is_utf8-from_IsUtf8}
use Rattle.serde_json.specs.Data.{Data}
use Rattle.serde_json.specs.Find.{as_object}
use Rattle.serde_json.specs.Read.{read}
use Rattle.standard.specs.Entities.{Entity, Entities, is_name, characters_of, one_or_two, entity_of, entities_in, entities_of}
use Rattle.serde_json.specs.View.{view, items_view, members_view}
use Rattle.std.proofs.Common.{String, Global, string_bytes}
use Rattle.entity_table.specs.View.{entity_in, rows_in}
use Rattle.entity_table.specs.declared.row.Row.{Row}
use Rattle.serde_json.specs.declared.value.Value.{Value}

-- one more entity, before the others
pub one_more : (done : Entities) (e : Entity) (rest : Option Entities) → option_map (λ es. (done ++ e ∷ []) ++ es) rest ≡ option_map (λ es. done ++ es) (option_map (λ es. e ∷ es) rest)
one_more done e None = refl
one_more done e (Some es) = ap Some (append_assoc done (e ∷ []) es)

pub entities_of-json : (bytes : List ℕ) (d : Data) → IsUtf8 bytes → read bytes ≡ Some d → entities_of bytes ≡ option_and_then entities_in (as_object d)
unfolding entities_of
entities_of-json bytes d u e = rw (is_utf8-from_IsUtf8 bytes u, e)

no_json_at : (bytes : List ℕ) (utf8 : Bool) → is_utf8 bytes ≡ utf8 → (IsUtf8 bytes → read bytes ≡ None) → cond utf8 (option_and_then entities_in (option_and_then as_object (read bytes))) None ≡ None
no_json_at bytes true e h = rw (h (IsUtf8-from_is_utf8 bytes e))
no_json_at bytes false e h = refl

pub entities_of-no_json : (bytes : List ℕ) → (IsUtf8 bytes → read bytes ≡ None) → entities_of bytes ≡ None
unfolding entities_of
entities_of-no_json bytes h = no_json_at bytes (is_utf8 bytes) refl h

-- more than two code points
pub one_or_two-many : (vs : List Value) → 3 ≤ length vs → one_or_two (items_view vs) ≡ None
one_or_two-many [] h = absurd (omega arith)
one_or_two-many (a ∷ []) h = absurd (omega arith)
one_or_two-many (a ∷ b ∷ []) h = absurd (omega arith)
one_or_two-many (a ∷ b ∷ c ∷ rest) h = refl

abbrev Entry : Type 0
Entry = String Global × Value

-- the loop's step: one more row, of the member that comes next
pub one_more_row : (rows : List Row) (row : Row) (name : String Global) (value : Value) (left rest : List Entry) → left ≡ (name, value) ∷ rest → Some (entity_in row) ≡ entity_of (string_bytes name) (view value)
    → option_map (λ (es : Entities). rows_in (rows ++ row ∷ []) ++ es) (entities_in (members_view rest)) ≡ option_map (λ (es : Entities). rows_in rows ++ es) (entities_in (members_view left))
one_more_row rows row name value left rest e is =
    ap (λ (xs : Entities). option_map (λ (es : Entities). xs ++ es) (entities_in (members_view rest))) (map-append entity_in rows (row ∷ []))
    ∙ one_more (rows_in rows) (entity_in row) (entities_in (members_view rest))
    ∙ ap (λ (o : Option Entity). option_map (λ (es : Entities). rows_in rows ++ es) (option_and_then (λ e. option_map (λ es. e ∷ es) (entities_in (members_view rest))) o)) is
    ∙ ap (λ (l : List Entry). option_map (λ (es : Entities). rows_in rows ++ es) (entities_in (members_view l))) (sym e)

-- ---- the rows are in the order of the members

name_of_entity : (b : Bool) (key : List ℕ) (cs : Option (List ℕ)) (e : Entity) → cond b (option_map (λ cs. record { name = key; characters = cs }) cs) None ≡ Some e → key ≡ e.name
name_of_entity true key (Some cs) e h = cc
name_of_entity true key None e h = cc
name_of_entity false key cs e h = cc

named_entity : (b : Bool) (key : List ℕ) (cs : Option (List ℕ)) (e : Entity) → cond b (option_map (λ cs. record { name = key; characters = cs }) cs) None ≡ Some e → b ≡ true
named_entity true key cs e h = refl
named_entity false key cs e h = cc

-- what a member and the others make, where together they make a table
pub record Made (o : Option Entity) (r : Option Entities) (xs : Entities) : Type 0 where
  pub first : Entity
  pub others : Entities
  pub first_is : o ≡ Some first
  pub others_are : r ≡ Some others
  pub all : xs ≡ first ∷ others

made : (o : Option Entity) (r : Option Entities) (xs : Entities) → option_and_then (λ e. option_map (λ es. e ∷ es) r) o ≡ Some xs → Made o r xs
made None r xs h = cc
made (Some e) None xs h = cc
made (Some e) (Some es) xs h = record { first = e; others = es; first_is = refl; others_are = refl; all = cc }

names_of-members : (es : List Entry) (xs : Entities) → entities_in (members_view es) ≡ Some xs → names_of xs ≡ map string_bytes (keys_of es)
names_of-members [] xs h = let is : [] ≡ xs = cc in ap names_of (sym is)
names_of-members (m ∷ ms) xs h =
    let key = string_bytes m.0 in
    let parts = made (entity_of key (view m.1)) (entities_in (members_view ms)) xs h in
    ap names_of parts.all
    ∙ ap (λ n. n ∷ names_of parts.others) (sym (name_of_entity (is_name key) key (characters_of (view m.1)) parts.first parts.first_is))
    ∙ ap (λ ns. key ∷ ns) (names_of-members ms parts.others parts.others_are)

named-members : (es : List Entry) (xs : Entities) → entities_in (members_view es) ≡ Some xs → list_all is_name (map string_bytes (keys_of es)) ≡ true
named-members [] xs h = refl
named-members (m ∷ ms) xs h =
    let key = string_bytes m.0 in
    let parts = made (entity_of key (view m.1)) (entities_in (members_view ms)) xs h in
    and_from (is_name key) _ (named_entity (is_name key) key (characters_of (view m.1)) parts.first parts.first_is) (named-members ms parts.others parts.others_are)

less_than_all : (k : String Global) (ks : List (String Global)) → AllByRecursion (λ y. string_cmp k y ≡ Less) ks → AllByRecursion (λ y. slice_cmp nat_cmp (string_bytes k) y ≡ Less) (map string_bytes ks)
less_than_all k [] h = h
less_than_all k (x ∷ ks) h = (h.0, less_than_all k ks h.1)

AreInOrder-keys : (ks : List (String Global)) → IsStrictlySortedBy string_cmp ks → AreInOrder (map string_bytes ks)
unfolding IsStrictlySortedBy
AreInOrder-keys [] h = h
AreInOrder-keys (k ∷ ks) h = (less_than_all k ks h.0, AreInOrder-keys ks h.1)

pub names_of-rows : (rows : List Row) → names_of (rows_in rows) ≡ row_names rows
names_of-rows [] = refl
names_of-rows (r ∷ rows) = ap (λ ns. string_bytes r.name ∷ ns) (names_of-rows rows)

pub AreNames-rows : (es : List Entry) (rows : List Row) → entities_in (members_view es) ≡ Some (rows_in rows) → IsStrictlySortedBy string_cmp (keys_of es) → AreNames (row_names rows)
AreNames-rows es rows all order =
    let names : row_names rows ≡ map string_bytes (keys_of es) = sym (names_of-rows rows) ∙ names_of-members es (rows_in rows) all in
    let keys : AreNames (map string_bytes (keys_of es)) = record { order = AreInOrder-keys (keys_of es) order; named = named-members es (rows_in rows) all } in
    subst AreNames (sym names) keys

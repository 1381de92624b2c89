-- What prepared bytes list: as they are read, entity by entity, and as they are written.
use Rattle.std.proofs.Common.{◌≡◌, ℕ, zero, suc, ◌<◌, ◌≤◌, ◌^◌, ◌==◌, Bool, true, false, cond, List, [], ◌∷◌, ◌++◌, length, Option, Some, None, option_map, option_and_then, Less, Ordering, Equal, Greater, is_lt, nat_cmp, string_bytes, refl, sym, ap, ◌∙◌, subst, append_assoc, append-nil, arith, inl, inr, lit<}
use Rattle.std.specs.Char.{IsScalar}
use Rattle.std.specs.Cmp.Lexicographic.{slice_cmp}
use Rattle.std.specs.Int.{w32, from_le_bytes, to_le_bytes}
use Rattle.std.specs.List.{AllByRecursion, list_all, flat_map}
use Rattle.std.specs.List.Sorted.{IsStrictlySortedBy}
use Rattle.std.specs.Option.{option_to_list}
use Rattle.std.proofs.Math.Seq.{take-append_seam, drop-append_seam}
use Rattle.std.proofs.Math.Utf8.{scalar_cases, scalar_fits}
use Rattle.std.proofs.lemmas.Bool.{and_parts, and_from, le-ltb, ne_eqb}
use Rattle.std.proofs.lemmas.Cmp.{nat_list_cmp_total}
use Rattle.std.proofs.lemmas.Grind.{flat_map-append}
use Rattle.std.proofs.lemmas.List.{map-append, length-append}
use Rattle.std.proofs.lemmas.Map.Keys.{sorted_head, sorted_tail}
use Rattle.std.proofs.lemmas.Nat.{from_le_bytes-to_le_bytes_4}
use Rattle.standard.specs.Entities.{Entity, Entities, is_name}
use Rattle.entity_table.specs.Order.{names_of, AreNames, precedes}
use Rattle.entity_table.specs.Parts.{row_names}
use Rattle.entity_table.specs.Prepared.{take_bytes, take_number, characters_at, take_characters, entity_with, take_entity, take_above, entities_above, take_count, loaded}
use Rattle.entity_table.specs.View.{characters_in, entity_in, rows_in}
use Rattle.entity_table.specs.Written.{number_bytes, number_of, characters_bytes, row_bytes, IsCharacter, IsWritable, AreWritable}
use Rattle.entity_table.specs.declared.row.Characters.{Characters}
use Rattle.entity_table.specs.declared.row.Row.{Row}
use Rattle.entity_table.proofs.Reading.{one_more, names_of-rows}
use Rattle.entity_table.proofs.Spelling.{spelling}

-- ---- reading

above-more : (before : List ℕ) (n : ℕ) (bytes : List ℕ) (e : Entity) (behind : List ℕ) → Some (e, behind) ≡ take_above before bytes
    → option_map (λ (es : Entities). e ∷ es) (entities_above e.name n behind) ≡ entities_above before (suc n) bytes
unfolding entities_above
above-more before n bytes e behind h = ap (option_and_then (λ (next : Entity × List ℕ). option_map (λ (es : Entities). next.0 ∷ es) (entities_above next.0.name n next.1))) h

above-none : (before : List ℕ) (n : ℕ) (bytes : List ℕ) → None ≡ take_above before bytes → None ≡ entities_above before (suc n) bytes
unfolding entities_above
above-none before n bytes h = ap (option_and_then (λ (next : Entity × List ℕ). option_map (λ (es : Entities). next.0 ∷ es) (entities_above next.0.name n next.1))) h

abbrev pub With : List Row → Option Entities → Option Entities
With rows others = option_map (λ (es : Entities). rows_in rows ++ es) others

-- the loop's step: one more row
pub one_more_read : (rows : List Row) (row : Row) (before bytes name behind : List ℕ) (left k : ℕ) (all : Option Entities) → left ≡ suc k → string_bytes row.name ≡ name → Some (entity_in row, behind) ≡ take_above before bytes
    → With rows (entities_above before left bytes) ≡ all → With (rows ++ row ∷ []) (entities_above name k behind) ≡ all
one_more_read rows row before bytes name behind left k all more is read so =
    ap (λ (n : List ℕ). With (rows ++ row ∷ []) (entities_above n k behind)) (sym is)
    ∙ ap (λ (xs : Entities). option_map (λ (es : Entities). xs ++ es) (entities_above (string_bytes row.name) k behind)) (map-append entity_in rows (row ∷ []))
    ∙ one_more (rows_in rows) (entity_in row) (entities_above (string_bytes row.name) k behind)
    ∙ ap (With rows) (above-more before k bytes (entity_in row) behind read)
    ∙ ap (λ (n : ℕ). With rows (entities_above before n bytes)) (sym more)
    ∙ so

-- no more row
pub none_read : (rows : List Row) (before bytes : List ℕ) (left k : ℕ) (all : Option Entities) → left ≡ suc k → None ≡ take_above before bytes → With rows (entities_above before left bytes) ≡ all → all ≡ None
none_read rows before bytes left k all more none so =
    sym so ∙ ap (λ (n : ℕ). With rows (entities_above before n bytes)) more ∙ ap (With rows) (sym (above-none before k bytes none))

-- all are read
pub all_read : (rows : List Row) (before bytes : List ℕ) (left : ℕ) (all : Option Entities) → left ≡ 0 → length bytes ≡ 0 → With rows (entities_above before left bytes) ≡ all → all ≡ Some (rows_in rows)
unfolding entities_above
all_read rows before [] left all end none so = sym so ∙ ap (λ (n : ℕ). With rows (entities_above before n [])) end ∙ ap Some (append-nil (rows_in rows))
all_read rows before (b ∷ bytes) left all end none so = absurd (omega arith)

pub more_behind : (rows : List Row) (before bytes : List ℕ) (left : ℕ) (all : Option Entities) → left ≡ 0 → 0 < length bytes → With rows (entities_above before left bytes) ≡ all → all ≡ None
unfolding entities_above
more_behind rows before [] left all end some so = absurd (omega arith)
more_behind rows before (b ∷ bytes) left all end some so = sym so ∙ ap (λ (n : ℕ). With rows (entities_above before n (b ∷ bytes))) end

-- ---- the names that are read are in order

is_less : (o : Ordering) → is_lt o ≡ true → o ≡ Less
is_less Less h = refl
is_less Equal h = cc
is_less Greater h = cc

named_at : (b : Bool) (e : Entity) (behind : List ℕ) (next : Entity × List ℕ) → cond b (Some (e, behind)) None ≡ Some next → (b ≡ true) × ((e, behind) ≡ next)
named_at true e behind next h = (refl, cc)
named_at false e behind next h = cc

in_order_at : (b : Bool) (next found : Entity × List ℕ) → cond b (Some next) None ≡ Some found → (b ≡ true) × (next ≡ found)
in_order_at true next found h = (refl, cc)
in_order_at false next found h = cc

name_of : (name : List ℕ) (points : List ℕ × List ℕ) (next : Entity × List ℕ) → entity_with name points ≡ Some next → is_name next.0.name ≡ true
name_of name points next h =
    let e : Entity = record { name = name; characters = points.0 } in
    let p = named_at (is_name name) e points.1 next h in
    subst (λ (x : Entity × List ℕ). is_name x.0.name ≡ true) p.1 p.0

name_of_points : (name : List ℕ) (o : Option (List ℕ × List ℕ)) (next : Entity × List ℕ) → option_and_then (entity_with name) o ≡ Some next → is_name next.0.name ≡ true
name_of_points name None next h = cc
name_of_points name (Some points) next h = name_of name points next h

abbrev At : List ℕ × List ℕ → Option (Entity × List ℕ)
At name = option_and_then (entity_with name.0) (take_characters name.1)

name_of_front : (o : Option (List ℕ × List ℕ)) (next : Entity × List ℕ) → option_and_then At o ≡ Some next → is_name next.0.name ≡ true
name_of_front None next h = cc
name_of_front (Some name) next h = name_of_points name.0 (take_characters name.1) next h

name_of_size : (o : Option (ℕ × List ℕ)) (next : Entity × List ℕ) → option_and_then (λ (size : ℕ × List ℕ). option_and_then At (take_bytes size.0 size.1)) o ≡ Some next → is_name next.0.name ≡ true
name_of_size None next h = cc
name_of_size (Some size) next h = name_of_front (take_bytes size.0 size.1) next h

entity-named : (bytes : List ℕ) (next : Entity × List ℕ) → take_entity bytes ≡ Some next → is_name next.0.name ≡ true
unfolding take_entity
entity-named bytes next h = name_of_size (take_number bytes) next h

pub record IsAbove (before bytes : List ℕ) (next : Entity × List ℕ) : Type 0 where
  pub above : slice_cmp nat_cmp before next.0.name ≡ Less
  pub named : is_name next.0.name ≡ true

above_at : (before bytes : List ℕ) (o : Option (Entity × List ℕ)) (found : Entity × List ℕ) → take_entity bytes ≡ o → option_and_then (λ (next : Entity × List ℕ). cond (precedes next.0.name before) (Some next) None) o ≡ Some found → IsAbove before bytes found
above_at before bytes None found is h = cc
above_at before bytes (Some next) found is h =
    let p = in_order_at (precedes next.0.name before) next found h in
    subst (λ (x : Entity × List ℕ). IsAbove before bytes x) p.1 (record { above = is_less (slice_cmp nat_cmp before next.0.name) p.0; named = entity-named bytes next is })

is_above : (before bytes : List ℕ) (found : Entity × List ℕ) → take_above before bytes ≡ Some found → IsAbove before bytes found
unfolding take_above
is_above before bytes found h = above_at before bytes (take_entity bytes) found refl h

-- each is above that text, and above those before it
pub record Rises (before : List ℕ) (names : List (List ℕ)) : Type 0 where
  pub above : AllByRecursion (λ y. slice_cmp nat_cmp before y ≡ Less) names
  pub are_names : AreNames names

all_above : (before name : List ℕ) (names : List (List ℕ)) → slice_cmp nat_cmp before name ≡ Less → AllByRecursion (λ y. slice_cmp nat_cmp name y ≡ Less) names → AllByRecursion (λ y. slice_cmp nat_cmp before y ≡ Less) names
all_above before name [] less h = h
all_above before name (n ∷ ns) less h = (nat_list_cmp_total.trans before name n less h.0, all_above before name ns less h.1)

Rises-more : (before name : List ℕ) (names : List (List ℕ)) → slice_cmp nat_cmp before name ≡ Less → is_name name ≡ true → Rises name names → Rises before (name ∷ names)
unfolding IsStrictlySortedBy
Rises-more before name names less named h = record {
  above = (less, all_above before name names less h.above);
  are_names = record { order = (h.above, h.are_names.order); named = and_from (is_name name) (list_all is_name names) named h.are_names.named };
}

pub record Next (n : ℕ) (o : Option (Entity × List ℕ)) (es : Entities) : Type 0 where
  pub first : Entity × List ℕ
  pub others : Entities
  pub first_is : o ≡ Some first
  pub others_are : entities_above first.0.name n first.1 ≡ Some others
  pub all : first.0 ∷ others ≡ es

next_from : (n : ℕ) (first : Entity × List ℕ) (r : Option Entities) (es : Entities) → entities_above first.0.name n first.1 ≡ r → option_map (λ (others : Entities). first.0 ∷ others) r ≡ Some es → Next n (Some first) es
next_from n first None es is h = cc
next_from n first (Some others) es is h = record { first = first; others = others; first_is = refl; others_are = is; all = cc }

next : (n : ℕ) (o : Option (Entity × List ℕ)) (es : Entities) → option_and_then (λ (first : Entity × List ℕ). option_map (λ (others : Entities). first.0 ∷ others) (entities_above first.0.name n first.1)) o ≡ Some es → Next n o es
next n None es h = cc
next n (Some first) es h = next_from n first (entities_above first.0.name n first.1) es refl h

Rises-none : (before : List ℕ) → Rises before []
unfolding IsStrictlySortedBy
Rises-none before = record { above = tt; are_names = record { order = tt; named = refl } }

rises : (n : ℕ) (before bytes : List ℕ) (es : Entities) → entities_above before n bytes ≡ Some es → Rises before (names_of es)
unfolding entities_above
rises zero before [] es h = let none : [] ≡ es = cc in subst (λ (x : Entities). Rises before (names_of x)) none (Rises-none before)
rises zero before (b ∷ bytes) es h = cc
rises (suc n) before bytes es h =
    let p = next n (take_above before bytes) es h in
    let first = is_above before bytes p.first p.first_is in
    subst (λ (x : Entities). Rises before (names_of x)) p.all (Rises-more before p.first.0.name (names_of p.others) first.above first.named (rises n p.first.0.name p.first.1 p.others p.others_are))

pub AreNames-read : (n : ℕ) (bytes : List ℕ) (rows : List Row) → entities_above [] n bytes ≡ Some (rows_in rows) → AreNames (row_names rows)
AreNames-read n bytes rows h = subst AreNames (names_of-rows rows) (rises n [] bytes (rows_in rows) h).are_names

-- ---- writing

front-at : (n : ℕ) (xs ys : List ℕ) → length xs ≡ n → take_bytes n (xs ++ ys) ≡ Some (xs, ys)
unfolding take_bytes
front-at n xs ys long =
    let fits : length xs ≤ length (xs ++ ys) = omega (arith, length-append xs ys) in
    subst (λ (k : ℕ). take_bytes k (xs ++ ys) ≡ Some (xs, ys)) long (rw (le-ltb (length (xs ++ ys)) (length xs) fits, take-append_seam xs ys, drop-append_seam xs ys))

number-bytes : (n : ℕ) (rest : List ℕ) → n < 2 ^ 32 → take_number (number_bytes n ++ rest) ≡ Some (n, rest)
unfolding take_number number_bytes
number-bytes n rest small =
    ap (option_map (λ (four : List ℕ × List ℕ). (from_le_bytes w32 four.0, four.1))) (front-at 4 (to_le_bytes w32 n) rest refl) ∙ ap (λ (m : ℕ). Some (m, rest)) (from_le_bytes-to_le_bytes_4 n small)

not_last : (c : ℕ) → IsScalar c → c ≡ 1114112 → ⊥
not_last c s is = elim (scalar_cases c s) [ inl h ↦ omega arith | inr h ↦ omega arith ]

characters-at : (first : ℕ) (second : Option ℕ) → IsScalar first → IsCharacter second → characters_at first (number_of second) ≡ Some (first ∷ option_to_list second)
characters-at first None f s = rw f
characters-at first (Some c) f s = let other : (c == 1114112) ≡ false = ne_eqb c 1114112 (not_last c s) in rw (f, other, s)

number_of-small : (second : Option ℕ) → IsCharacter second → number_of second < 2 ^ 32
number_of-small None s = lit< tt
number_of-small (Some c) s = scalar_fits c s

characters-bytes : (cs : Characters) (rest : List ℕ) → IsScalar cs.first → IsCharacter cs.second → take_characters (characters_bytes cs ++ rest) ≡ Some (characters_in cs, rest)
unfolding take_characters characters_bytes
characters-bytes cs rest f s =
    rw (append_assoc (number_bytes cs.first) (number_bytes (number_of cs.second)) rest, number-bytes cs.first (number_bytes (number_of cs.second) ++ rest) (scalar_fits cs.first f), number-bytes (number_of cs.second) rest (number_of-small cs.second s), characters-at cs.first cs.second f s)

entity-bytes : (r : Row) (rest : List ℕ) → IsWritable r → is_name (string_bytes r.name) ≡ true → take_entity (row_bytes r ++ rest) ≡ Some (entity_in r, rest)
unfolding take_entity row_bytes
entity-bytes r rest w is_named =
    let name : List ℕ = string_bytes r.name in
    let cs : List ℕ = characters_bytes r.characters in
    rw (append_assoc (number_bytes (length name)) (name ++ cs) rest, number-bytes (length name) ((name ++ cs) ++ rest) w.name, append_assoc name cs rest, front-at (length name) name (cs ++ rest) refl, characters-bytes r.characters rest w.first w.second, is_named)

above-bytes : (before : List ℕ) (r : Row) (rest : List ℕ) → slice_cmp nat_cmp before (string_bytes r.name) ≡ Less → IsWritable r → is_name (string_bytes r.name) ≡ true → Some (entity_in r, rest) ≡ take_above before (row_bytes r ++ rest)
unfolding take_above
above-bytes before r rest less w is_named =
    let told : take_above before (row_bytes r ++ rest) ≡ Some (entity_in r, rest) = rw (entity-bytes r rest w is_named, ap is_lt less) in
    sym told

all-bytes : (before : List ℕ) (rows : List Row) → Rises before (row_names rows) → AreWritable rows → entities_above before (length rows) (flat_map row_bytes rows) ≡ Some (rows_in rows)
unfolding entities_above
all-bytes before [] h w = refl
all-bytes before (r ∷ rows) h w =
    let name : List ℕ = string_bytes r.name in
    let p = and_parts (is_name name) (list_all is_name (row_names rows)) h.are_names.named in
    let rest : Rises name (row_names rows) = record {
      above = sorted_head (slice_cmp nat_cmp) name (row_names rows) h.are_names.order;
      are_names = record { order = sorted_tail (slice_cmp nat_cmp) name (row_names rows) h.are_names.order; named = p.1 };
    } in
    sym (above-more before (length rows) (row_bytes r ++ flat_map row_bytes rows) (entity_in r) (flat_map row_bytes rows) (above-bytes before r (flat_map row_bytes rows) h.above.0 w.0 p.0))
    ∙ ap (option_map (λ (es : Entities). entity_in r ∷ es)) (all-bytes name rows rest w.1)

above_nothing : (names : List (List ℕ)) → list_all is_name names ≡ true → AllByRecursion (λ y. slice_cmp nat_cmp [] y ≡ Less) names
above_nothing [] h = tt
above_nothing (n ∷ names) h =
    let p = and_parts (is_name n) (list_all is_name names) h in
    (ap (slice_cmp nat_cmp []) (spelling n p.0).is, above_nothing names p.1)

pub loaded-bytes : (rows : List Row) → AreNames (row_names rows) → AreWritable rows → length rows < 2 ^ 32 → loaded ((1 ∷ number_bytes (length rows)) ++ flat_map row_bytes rows) ≡ Some (rows_in rows)
unfolding loaded take_count
loaded-bytes rows names w small =
    rw (number-bytes (length rows) (flat_map row_bytes rows) small) (all-bytes [] rows (record { above = above_nothing (row_names rows) names.named; are_names = names }) w)

-- the loop's step: one more row
pub one_more_written : (head items new : List ℕ) (rows : List Row) (r : Row) → items ≡ head ++ flat_map row_bytes rows → new ≡ items ++ row_bytes r → new ≡ head ++ flat_map row_bytes (rows ++ r ∷ [])
one_more_written head items new rows r so added =
    added ∙ ap (λ (x : List ℕ). x ++ row_bytes r) so ∙ append_assoc head (flat_map row_bytes rows) (row_bytes r)
    ∙ ap (λ (x : List ℕ). head ++ x) (sym (flat_map-append row_bytes rows (r ∷ []) ∙ ap (λ (x : List ℕ). flat_map row_bytes rows ++ x) (append-nil (row_bytes r))))

pub AreWritable-more : (rows : List Row) (r : Row) → AreWritable rows → IsWritable r → AreWritable (rows ++ r ∷ [])
AreWritable-more [] r h w = (w, tt)
AreWritable-more (x ∷ rows) r h w = (h.0, AreWritable-more rows r h.1 w)

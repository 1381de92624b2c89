-- The row of a name, by a binary search, and the entity there.
use Rattle.std.proofs.Common.{◌≡◌, ◌≢◌, ℕ, zero, suc, ◌<◌, true, false, true≢false, List, [], ◌∷◌, length, get_or, Some, None, EachIndex, Ordering, Less, Equal, Greater, nat_cmp, is_lt, is_eq, IsUtf8, chars, bytes_eq, string_bytes, refl, sym, ap, ◌∙◌, subst, inl, inr, arith}
use Rattle.std.specs.Cmp.Lexicographic.{slice_cmp}
use Rattle.std.specs.List.{list_all}
use Rattle.std.specs.List.Sorted.{IsPartitionedBy, IsPartitionPoint}
use Rattle.std.proofs.Math.Utf8.{encodes}
use Rattle.std.proofs.lemmas.Bool.{and_parts, cases_lt, cases_eq, false_from_ne_true}
use Rattle.std.proofs.lemmas.Cmp.{nat_list_cmp_total, tied_itself}
use Rattle.std.proofs.lemmas.List.{length-map, get_or-map}
use Rattle.std.proofs.lemmas.Map.Keys.{Less-from_sorted, sorted_tail}
use Rattle.std.proofs.lemmas.Map.Text.{is_eq-slice_cmp}
use Rattle.std.proofs.lemmas.Slice.Eq.{bytes_eq-Decides}
use Rattle.std.proofs.lemmas.Str.{chars-IsAscii, encodes-IsAscii, encodes-chars}
use Rattle.standard.specs.Entities.{Entity, Entities, is_name, longest}
use Rattle.entity_table.specs.Matches.{IsMatch, Tells}
use Rattle.entity_table.specs.Order.{names_of, AreInOrder, AreNames, precedes, entity_named}
use Rattle.entity_table.specs.Parts.{row_names, name_at}
use Rattle.entity_table.specs.View.{entity_in, rows_in}
use Rattle.entity_table.specs.declared.row.Row.{Row}
use Rattle.entity_table.specs.declared.row.Match.{Match}
use Rattle.entity_table.proofs.Longest.{longest-whole}
use Rattle.entity_table.proofs.Pushing.{in_order, entity_of_row, length-names_of}
use Rattle.entity_table.proofs.Reading.{names_of-rows}
use Rattle.entity_table.proofs.Spelling.{name_ascii}

-- ---- names in order, and those below a text

is_less : (o : Ordering) → is_lt o ≡ true → o ≡ Less
is_less Less h = refl
is_less Equal h = cc
is_less Greater h = cc

pub partitioned : (names : List (List ℕ)) (text : List ℕ) → AreInOrder names → IsPartitionedBy (precedes text) names
partitioned names text order = λ i j d le lt t. elim (cases_lt i j) [
  | inl less ↦ ap is_lt (nat_list_cmp_total.trans (get_or names i d) (get_or names j d) text (Less-from_sorted (slice_cmp nat_cmp) names i j d order less lt) (is_less _ t))
  | inr same ↦
      let P : ℕ → Type 0 = λ n. precedes text (get_or names n d) ≡ true in
      let is : j ≡ i = omega arith in
      subst P is t
]

-- where the first that isn't below the text is another, none is the text
pub none_at : (names : List (List ℕ)) (text : List ℕ) (place : ℕ) → AreInOrder names → IsPartitionPoint (λ n. precedes text n ≡ true) (λ n. precedes text n ≡ false) names place
    → (place < length names → name_at names place ≢ text) → EachIndex names (λ k. name_at names k ≢ text)
none_at names text place order point here = λ k lt is. elim (cases_lt k place) [
  | inl below ↦ absurd (true≢false (sym (point.0 k [] (omega arith) below) ∙ ap (precedes text) is ∙ ap is_lt (tied_itself nat_list_cmp_total text)))
  | inr behind ↦ elim (cases_eq k place) [
    | inl same ↦ absurd (here (omega arith) (ap (name_at names) (sym same) ∙ is))
    | inr other ↦
        let above : place < k = omega arith in
        let less = ap (slice_cmp nat_cmp (name_at names place)) (sym is) ∙ Less-from_sorted (slice_cmp nat_cmp) names place k [] order above lt in
        absurd (true≢false (sym (ap is_lt less) ∙ point.1 place [] (omega arith) (omega arith)))
  ]
]

-- ---- the entity of a name

found : (es : Entities) (text : List ℕ) (k : ℕ) (d : Entity) → AreInOrder (names_of es) → k < length es → name_at (names_of es) k ≡ text → entity_named text es ≡ Some (get_or es k d)
found [] text k d order h is = absurd (omega arith)
found (e ∷ es) text zero d order h is = rw ((bytes_eq-Decides e.name text).1 is) refl
found (e ∷ es) text (suc k) d order h is =
    let less = ap (slice_cmp nat_cmp e.name) (sym is) ∙ Less-from_sorted (slice_cmp nat_cmp) (names_of (e ∷ es)) 0 (suc k) [] order (omega arith) (omega (arith, length-names_of es)) in
    let other : bytes_eq e.name text ≡ false = sym (is_eq-slice_cmp e.name text) ∙ ap is_eq less in
    rw other (found es text k d (sorted_tail (slice_cmp nat_cmp) e.name (names_of es) order) (omega arith) is)

none : (es : Entities) (text : List ℕ) → ((k : ℕ) → k < length es → name_at (names_of es) k ≢ text) → entity_named text es ≡ None
none [] text apart = refl
none (e ∷ es) text apart =
    let other : bytes_eq e.name text ≡ false = false_from_ne_true (bytes_eq e.name text) (λ t. apart 0 (omega arith) ((bytes_eq-Decides e.name text).0 t)) in
    rw other (none es text (λ k h. apart (suc k) (omega arith)))

pub named_at : (names : List (List ℕ)) (k : ℕ) → list_all is_name names ≡ true → k < length names → is_name (name_at names k) ≡ true
named_at [] k h lt = absurd (omega arith)
named_at (n ∷ ns) zero h lt = (and_parts (is_name n) (list_all is_name ns) h).0
named_at (n ∷ ns) (suc k) h lt = named_at ns k (and_parts (is_name n) (list_all is_name ns) h).1 (omega arith)

-- ---- the rows of the table, and a text of these bytes

pub length-row_names : (rows : List Row) → length (row_names rows) ≡ length rows
length-row_names rows = length-map rows (λ (r : Row). string_bytes r.name)

pub name_in_row : (rows : List Row) (k : ℕ) (r : Row) → k < length rows → r ≡ get_or rows k r → name_at (row_names rows) k ≡ string_bytes r.name
name_in_row rows k r lt at =
    let name : Row → List ℕ = λ x. string_bytes x.name in
    get_or-map name rows k r [] lt ∙ ap name (sym at)

-- a text whose bytes are a name has its bytes for characters
pub is_named : (rows : List Row) (bytes : List ℕ) (k : ℕ) → AreNames (row_names rows) → k < length rows → name_at (row_names rows) k ≡ bytes → is_name (chars bytes) ≡ true
is_named rows bytes k names lt is =
    let long = length-row_names rows in
    let name : is_name bytes ≡ true = subst (λ (n : List ℕ). is_name n ≡ true) is (named_at (row_names rows) k names.named (omega arith)) in
    ap is_name (chars-IsAscii bytes (name_ascii bytes name)) ∙ name

same_name : (rows : List Row) (es : Entities) (bytes : List ℕ) (k : ℕ) → rows_in rows ≡ es → AreNames (row_names rows) → k < length rows → name_at (row_names rows) k ≡ bytes → name_at (names_of es) k ≡ chars bytes
same_name rows es bytes k e names lt is =
    let long = length-row_names rows in
    let name : is_name bytes ≡ true = subst (λ (n : List ℕ). is_name n ≡ true) is (named_at (row_names rows) k names.named (omega arith)) in
    ap (λ (ns : List (List ℕ)). name_at ns k) (ap names_of (sym e) ∙ names_of-rows rows) ∙ is ∙ sym (chars-IsAscii bytes (name_ascii bytes name))

pub length-rows : (rows : List Row) (es : Entities) → rows_in rows ≡ es → length rows ≡ length es
length-rows rows es e = sym (length-map rows entity_in) ∙ ap length e

pub found_row : (rows : List Row) (es : Entities) (bytes : List ℕ) (k : ℕ) (r : Row) (m : Match) → rows_in rows ≡ es → AreNames (row_names rows) → k < length rows → name_at (row_names rows) k ≡ bytes → r ≡ get_or rows k r → IsMatch (entity_in r) m
    → Tells (entity_named (chars bytes) es) (Some m)
found_row rows es bytes k r m e names lt is at match =
    let long = length-rows rows es e in
    let order = in_order rows es e names.order in
    let entity : entity_in r ≡ get_or es k (entity_in r) = entity_of_row rows es k r e lt at in
    (get_or es k (entity_in r), found es (chars bytes) k (entity_in r) order (omega arith) (same_name rows es bytes k e names lt is), subst (λ (x : Entity). IsMatch x m) entity match)

pub longest_row : (rows : List Row) (es : Entities) (bytes : List ℕ) (k : ℕ) (r : Row) (m : Match) → rows_in rows ≡ es → AreNames (row_names rows) → k < length rows → name_at (row_names rows) k ≡ bytes → r ≡ get_or rows k r → IsMatch (entity_in r) m
    → Tells (longest (chars bytes) es) (Some m)
longest_row rows es bytes k r m e names lt is at match =
    let long = length-rows rows es e in
    let order = in_order rows es e names.order in
    let entity : entity_in r ≡ get_or es k (entity_in r) = entity_of_row rows es k r e lt at in
    (get_or es k (entity_in r), longest-whole es (chars bytes) k (entity_in r) order (omega arith) (same_name rows es bytes k e names lt is), subst (λ (x : Entity). IsMatch x m) entity match)

pub no_row : (rows : List Row) (es : Entities) (bytes : List ℕ) → rows_in rows ≡ es → AreNames (row_names rows) → IsUtf8 bytes → EachIndex (row_names rows) (λ k. name_at (row_names rows) k ≢ bytes) → entity_named (chars bytes) es ≡ None
no_row rows es bytes e names u apart =
    let long = length-rows rows es e in
    let count = length-row_names rows in
    none es (chars bytes) (λ k lt is.
    let name : name_at (row_names rows) k ≡ chars bytes = ap (λ (ns : List (List ℕ)). name_at ns k) (sym (names_of-rows rows) ∙ ap names_of e) ∙ is in
    let ascii = name_ascii (name_at (row_names rows) k) (named_at (row_names rows) k names.named (omega arith)) in
    apart k (omega arith) (sym (encodes-IsAscii (name_at (row_names rows) k) ascii) ∙ ap encodes name ∙ encodes-chars bytes u))

-- No name goes on behind a `;`.
use Rattle.std.proofs.Common.{◌≡◌, ℕ, ◌+◌, ◌-◌, ◌==◌, ◌&&◌, ◌||◌, Bool, true, false, true≢false, List, [], ◌∷◌, ◌++◌, length, take, drop, refl, sym, ap, ◌∙◌, subst, append_assoc, arith}
use Rattle.std.specs.Prelude.{nat_lt, slice_index, if◌then◌else◌}
use Rattle.std.specs.Char.{is_ascii_alphanumeric}
use Rattle.std.specs.List.{list_all}
use Rattle.std.proofs.lemmas.Bool.{and_parts}
use Rattle.std.proofs.lemmas.Bool.Decides.{Decides-eqb}
use Rattle.std.proofs.lemmas.List.{length-append}
use Rattle.std.proofs.Math.Seq.{take-append-add}
use Rattle.standard.specs.Entities.{Entities, is_front, is_name, inner, ends_in_semicolon, begins_some}
use Rattle.entity_table.specs.Order.{names_of, AreNames}
use Rattle.entity_table.specs.Parts.{row_names}
use Rattle.entity_table.specs.View.{rows_in}
use Rattle.entity_table.specs.declared.row.Row.{Row}
use Rattle.entity_table.proofs.Reading.{names_of-rows}

and-false : (a : Bool) → (a && false) ≡ false
and-false true = refl
and-false false = refl

semicolon_among : (xs ys : List ℕ) → list_all is_ascii_alphanumeric (xs ++ 59 ∷ ys) ≡ false
semicolon_among [] ys = refl
semicolon_among (x ∷ xs) ys = ap (λ (v : Bool). is_ascii_alphanumeric x && v) (semicolon_among xs ys) ∙ and-false (is_ascii_alphanumeric x)

front_rest : (x y : List ℕ) → is_front x y ≡ true → (ys : List ℕ) × (y ≡ x ++ ys)
front_rest [] y h = (y, refl)
front_rest (x ∷ xs) [] h = absurd (true≢false (sym h))
front_rest (x ∷ xs) (y ∷ ys) h =
    let p = and_parts (x == y) (is_front xs ys) h in
    let r = front_rest xs ys p.1 in
    (r.0, ap (λ (n : ℕ). n ∷ ys) (sym ((Decides-eqb x y).0 p.0)) ∙ ap (λ (l : List ℕ). x ∷ l) r.1)

-- what stands between the `&` and the last character has the `;` among it
inner_shorter : (ts ys : List ℕ) (c : ℕ) → (v : Bool) → (key : List ℕ) → (t : ℕ) → key ≡ t ∷ ((ts ++ 59 ∷ []) ++ c ∷ ys) → list_all is_ascii_alphanumeric (drop 1 (if v then take (length key - 1) key else key)) ≡ false
inner_shorter ts ys c false key t e = ap (λ (k : List ℕ). list_all is_ascii_alphanumeric (drop 1 k)) e ∙ ap (list_all is_ascii_alphanumeric) (append_assoc ts (59 ∷ []) (c ∷ ys)) ∙ semicolon_among ts (c ∷ ys)
inner_shorter ts ys c true key t e =
    let front : List ℕ = t ∷ (ts ++ 59 ∷ []) in
    let whole : key ≡ front ++ c ∷ ys = e in
    let long : length key - 1 ≡ length front + length ys =
    let n = ap length whole ∙ length-append front (c ∷ ys) in omega (arith, n) in
    let is : take (length key - 1) key ≡ t ∷ ((ts ++ 59 ∷ []) ++ take (length ys) (c ∷ ys)) =
    ap (λ (n : ℕ). take n key) long ∙ ap (take (length front + length ys)) whole ∙ take-append-add front (c ∷ ys) (length ys) in
    ap (λ (k : List ℕ). list_all is_ascii_alphanumeric (drop 1 k)) is
    ∙ ap (list_all is_ascii_alphanumeric) (append_assoc ts (59 ∷ []) (take (length ys) (c ∷ ys)))
    ∙ semicolon_among ts (take (length ys) (c ∷ ys))

not_name : (text : List ℕ) (c : ℕ) (ys key : List ℕ) → key ≡ (text ++ 59 ∷ c ∷ []) ++ ys → is_name key ≡ false
not_name [] c ys key e = ap is_name e
not_name (t ∷ ts) c ys key e =
    let split : key ≡ t ∷ ((ts ++ 59 ∷ []) ++ c ∷ ys) =
    e ∙ ap (λ (l : List ℕ). t ∷ l) (append_assoc ts (59 ∷ c ∷ []) ys ∙ sym (append_assoc ts (59 ∷ []) (c ∷ ys))) in
    ap (λ (v : Bool). ((slice_index key 0 == 38) && nat_lt 0 (length (inner key))) && v) (inner_shorter ts ys c (ends_in_semicolon key) key t split) ∙ and-false _

not_front : (key text : List ℕ) (c : ℕ) → is_name key ≡ true → is_front (text ++ 59 ∷ c ∷ []) key ≡ false
not_front key text c named = by (is_front (text ++ 59 ∷ c ∷ []) key) refl
  where
    by : (v : Bool) → is_front (text ++ 59 ∷ c ∷ []) key ≡ v → is_front (text ++ 59 ∷ c ∷ []) key ≡ false
    by false e = e
    by true e = let r = front_rest (text ++ 59 ∷ c ∷ []) key e in absurd (true≢false (sym named ∙ not_name text c r.0 key r.1))

none_among : (es : Entities) → list_all is_name (names_of es) ≡ true → (text : List ℕ) (c : ℕ) → begins_some (text ++ 59 ∷ c ∷ []) es ≡ false
none_among [] h text c = refl
none_among (e ∷ es) h text c =
    let p = and_parts (is_name e.name) (list_all is_name (names_of es)) h in
    ap (λ (v : Bool). v || begins_some (text ++ 59 ∷ c ∷ []) es) (not_front e.name text c p.0) ∙ none_among es p.1 text c

pub none_behind : (rows : List Row) (es : Entities) → rows_in rows ≡ es → AreNames (row_names rows) → (text : List ℕ) (c : ℕ) → begins_some (text ++ 59 ∷ c ∷ []) es ≡ false
none_behind rows es e names =
    subst (λ (l : Entities). (text : List ℕ) (c : ℕ) → begins_some (text ++ 59 ∷ c ∷ []) l ≡ false) e
    (none_among (rows_in rows) (ap (list_all is_name) (names_of-rows rows) ∙ names.named))

-- A name that begins with a text and goes on behind it with a character.
use Rattle.std.proofs.Common.{◌≡◌, ℕ, ◌<◌, ◌==◌, true, List, [], ◌∷◌, ◌++◌, length, take, drop, get_or, IsAscii, chars, string_bytes, refl, sym, subst, arith}
use Rattle.std.proofs.lemmas.Bool.{false≢true, eqb-true, eq-eqb, and_parts, and_from}
use Rattle.std.proofs.lemmas.Str.{IsAscii-take, chars-IsAscii}
use Rattle.standard.specs.Entities.{Entities, is_name, is_front, begins_some}
use Rattle.entity_table.specs.Order.{names_of, AreNames}
use Rattle.entity_table.specs.Parts.{row_names, name_at}
use Rattle.entity_table.specs.View.{rows_in}
use Rattle.entity_table.specs.declared.row.Row.{Row}
use Rattle.entity_table.proofs.Finding.{length-row_names, length-rows, name_in_row, named_at}
use Rattle.entity_table.proofs.Longest.{begins_some-at}
use Rattle.entity_table.proofs.Pushing.{name_of_row}
use Rattle.entity_table.proofs.Spelling.{name_ascii}

front-append : (text rest : List ℕ) → is_front text (text ++ rest) ≡ true
front-append [] rest = refl
front-append (x ∷ xs) rest = and_from (x == x) (is_front xs (xs ++ rest)) (eq-eqb x x refl) (front-append xs rest)

-- what one slice says of another, where they are the text and the name
pub front_of : (text name needle bytes : List ℕ) → needle ≡ text → bytes ≡ name → bytes ≡ needle ++ drop (length needle) bytes → is_front text name ≡ true
front_of text name needle bytes is-text is-name h =
    let front : is_front needle bytes ≡ true = subst (λ (l : List ℕ). is_front needle l ≡ true) (sym h) (front-append needle (drop (length needle) bytes)) in
    subst (λ (l : List ℕ). is_front text l ≡ true) is-name (subst (λ (l : List ℕ). is_front l bytes ≡ true) is-text front)

front-shorter : (text n : List ℕ) (c : ℕ) → is_front (text ++ c ∷ []) n ≡ true → is_front text n ≡ true
front-shorter [] n c h = refl
front-shorter (x ∷ xs) [] c h = absurd (false≢true h)
front-shorter (x ∷ xs) (y ∷ ys) c h =
    let p = and_parts (x == y) (is_front (xs ++ c ∷ []) ys) h in
    and_from (x == y) (is_front xs ys) p.0 (front-shorter xs ys c p.1)

cons_same : (x y : ℕ) (xs ys : List ℕ) → x ≡ y → xs ≡ ys → (x ∷ xs) ≡ (y ∷ ys)
cons_same x y xs ys e f = cc

front-taken : (text n : List ℕ) → is_front text n ≡ true → take (length text) n ≡ text
front-taken [] n h = refl
front-taken (x ∷ xs) [] h = absurd (false≢true h)
front-taken (x ∷ xs) (y ∷ ys) h =
    let p = and_parts (x == y) (is_front xs ys) h in
    cons_same y x (take (length xs) ys) xs (sym (eqb-true x y p.0)) (front-taken xs ys p.1)

-- a text with which a name begins is ASCII, so its bytes are its characters
front-chars : (text n : List ℕ) → is_name n ≡ true → is_front text n ≡ true → chars text ≡ text
front-chars text n name h = chars-IsAscii text (subst IsAscii (front-taken text n h) (IsAscii-take n (length text) (name_ascii n name)))

pub begins_some-row : (rows : List Row) (es : Entities) (bytes : List ℕ) (k c : ℕ) (r : Row) → rows_in rows ≡ es → AreNames (row_names rows) → k < length rows → r ≡ get_or rows k r
    → is_front (bytes ++ c ∷ []) (string_bytes r.name) ≡ true → begins_some (chars bytes ++ c ∷ []) es ≡ true
begins_some-row rows es bytes k c r is names lt at front =
    let count = length-row_names rows in
    let many = length-rows rows es is in
    let name : is_name (string_bytes r.name) ≡ true = subst (λ (n : List ℕ). is_name n ≡ true) (name_in_row rows k r lt at) (named_at (row_names rows) k names.named (omega arith)) in
    let same : chars bytes ≡ bytes = front-chars bytes (string_bytes r.name) name (front-shorter bytes (string_bytes r.name) c front) in
    let here : is_front (bytes ++ c ∷ []) (name_at (names_of es) k) ≡ true = subst (λ (n : List ℕ). is_front (bytes ++ c ∷ []) n ≡ true) (name_of_row rows es k r is lt at) front in
    subst (λ (l : List ℕ). begins_some (l ++ c ∷ []) es ≡ true) (sym same) (begins_some-at es (bytes ++ c ∷ []) k (omega arith) here)

-- What a cursor holds after one more character.
use Rattle.std.proofs.Common.{◌≡◌, ℕ, suc, ◌<◌, ◌≤◌, Bool, true, false, List, [], ◌∷◌, ◌++◌, length, get_or, Option, Some, None, Less, nat_cmp, refl, sym, ap, ◌∙◌, subst, inl, inr, arith}
use Rattle.std.specs.Cmp.Lexicographic.{slice_cmp}
use Rattle.std.proofs.lemmas.Bool.{false≢true, cases_lt, cases_eq}
use Rattle.std.proofs.lemmas.Map.Keys.{Less-from_sorted}
use Rattle.standard.specs.Entities.{Entity, Entities, is_front, begins_some, longest}
use Rattle.std.proofs.Common.{string_bytes}
use Rattle.std.specs.List.{list_all}
use Rattle.std.proofs.lemmas.Bool.{and_parts}
use Rattle.std.proofs.lemmas.List.{get_or-map, length-map}
use Rattle.standard.specs.Entities.{is_name}
use Rattle.entity_table.specs.Order.{names_of, AreInOrder, AreNames}
use Rattle.entity_table.specs.Parts.{row_names, name_at, IsPart}
use Rattle.entity_table.specs.View.{entity_in, rows_in}
use Rattle.entity_table.specs.declared.row.Row.{Row}
use Rattle.entity_table.proofs.Reading.{names_of-rows}
use Rattle.entity_table.specs.Matches.{IsMatch, Tells}
use Rattle.entity_table.specs.Held.{Holds}
use Rattle.entity_table.specs.declared.cursor.Part.{Part}
use Rattle.entity_table.specs.declared.cursor.Cursor.{Cursor}
use Rattle.entity_table.specs.declared.row.Match.{Match}
use Rattle.entity_table.proofs.Fronts.{front-same, front-whole, front-length, front-not_above}
use Rattle.entity_table.proofs.Longest.{longest-longer, longest-whole, begins_some-at, begins_some-none}

-- a name that is the whole text stands in the text's part
whole_is_front : (names : List (List ℕ)) (text : List ℕ) (k : ℕ) → name_at names k ≡ text → is_front text (name_at names k) ≡ true
whole_is_front names text k is = let P : List ℕ → Type 0 = λ n. is_front text n ≡ true in subst P (sym is) (front-same text)

both : {b : Bool} → b ≡ false → b ≡ true → ⊥
both f t = false≢true (sym f ∙ t)

-- no name is the whole text, where its part is empty, or begins with a name that is another
none_whole : (names : List (List ℕ)) (text : List ℕ) (low high : ℕ) → IsPart names text low high → high ≤ low → (k : ℕ) → k < length names → name_at names k ≡ text → ⊥
none_whole names text low high part empty k h is =
    let front = whole_is_front names text k is in
    elim (cases_lt k low) [
      | inl before ↦ both (part.before k before) front
      | inr behind ↦ both (part.behind k (omega arith) h) front
    ]

other_whole : (names : List (List ℕ)) (text : List ℕ) (low high : ℕ) → AreInOrder names → IsPart names text low high → low < high → (length (name_at names low) ≡ length text → ⊥) → (k : ℕ) → k < length names → name_at names k ≡ text → ⊥
other_whole names text low high order part some apart k h is =
    let front = whole_is_front names text k is in
    elim (cases_lt k low) [
      | inl before ↦ both (part.before k before) front
      | inr inside ↦ elim (cases_eq low k) [
        | inl same ↦ apart (ap (λ n. length (name_at names n)) same ∙ ap length is)
        | inr differs ↦ elim (cases_lt k high) [
          | inl within ↦
              let above : low < k = omega arith in
              let ordered = Less-from_sorted (slice_cmp nat_cmp) names low k [] order above h in
              front-not_above text (name_at names low) (part.within low (omega arith) some) (subst (λ n. slice_cmp nat_cmp (name_at names low) n ≡ Less) is ordered)
          | inr behind ↦ both (part.behind k behind h) front
        ]
      ]
    ]

pub length-names_of : (es : Entities) → length (names_of es) ≡ length es
length-names_of [] = refl
length-names_of (e ∷ es) = ap (λ n. suc n) (length-names_of es)

Tells-same : (found other : Option Entity) (best : Option Match) → found ≡ other → Tells found best → Tells other best
Tells-same found other best e h = subst (λ o. Tells o best) e h

-- ---- the three ways that a push ends

pub Holds-none : (es : Entities) (cursor : Cursor) (text : List ℕ) (c depth : ℕ) (part : Part) → Holds es cursor text → IsPart (names_of es) (text ++ c ∷ []) part.low part.high → part.low ≡ part.high
    → Holds es (record { part = part; depth = depth; best = cursor.best }) (text ++ c ∷ [])
Holds-none es cursor text c depth part held is empty =
    let long = length-names_of es in
    record {
      part = is;
      depth = λ h. absurd (omega arith);
      best = Tells-same _ _ cursor.best (sym (longest-longer es text c (λ k h. none_whole (names_of es) (text ++ c ∷ []) part.low part.high is (omega arith) k (omega arith)))) held.best;
    }

pub Holds-more : (es : Entities) (cursor : Cursor) (text : List ℕ) (c depth : ℕ) (part : Part) → AreInOrder (names_of es) → Holds es cursor text → IsPart (names_of es) (text ++ c ∷ []) part.low part.high → part.low < part.high
    → depth ≡ length (text ++ c ∷ []) → (length (name_at (names_of es) part.low) ≡ depth → ⊥)
    → Holds es (record { part = part; depth = depth; best = cursor.best }) (text ++ c ∷ [])
Holds-more es cursor text c depth part order held is some deep apart =
    let long = length-names_of es in
    record {
      part = is;
      depth = λ h. deep;
      best = Tells-same _ _ cursor.best (sym (longest-longer es text c (λ k h. other_whole (names_of es) (text ++ c ∷ []) part.low part.high order is some (λ e. apart (e ∙ sym deep)) k (omega arith)))) held.best;
    }

pub Holds-found : (es : Entities) (text : List ℕ) (depth : ℕ) (part : Part) (d : Entity) (m : Match) → AreInOrder (names_of es) → IsPart (names_of es) text part.low part.high → part.low < part.high
    → depth ≡ length text → length (name_at (names_of es) part.low) ≡ depth → IsMatch (get_or es part.low d) m
    → Holds es (record { part = part; depth = depth; best = Some m }) text
Holds-found es text depth part d m order is some deep whole match =
    let long = length-names_of es in
    let name : name_at (names_of es) part.low ≡ text = sym (front-whole text (name_at (names_of es) part.low) (is.within part.low (omega arith) some) (sym deep ∙ sym whole)) in
    record {
      part = is;
      depth = λ h. deep;
      best = (get_or es part.low d, longest-whole es text part.low d order (omega (arith, is.fits)) name, match);
    }

pub begins_some-part : (es : Entities) (text : List ℕ) (low high : ℕ) → IsPart (names_of es) text low high → low < high → begins_some text es ≡ true
begins_some-part es text low high is some =
    let long = length-names_of es in
    begins_some-at es text low (omega (arith, is.fits)) (is.within low (omega arith) some)

pub begins_some-empty : (es : Entities) (text : List ℕ) (low high : ℕ) → IsPart (names_of es) text low high → low ≡ high → begins_some text es ≡ false
begins_some-empty es text low high is empty =
    let long = length-names_of es in
    begins_some-none es text (λ k h. elim (cases_lt k low) [ inl before ↦ is.before k before | inr behind ↦ is.behind k (omega arith) (omega arith) ])

-- ---- the rows of the table

pub narrowed : (rows : List Row) (es : Entities) (text : List ℕ) (c low high low' high' depth : ℕ) → rows_in rows ≡ es → AreInOrder (row_names rows) → (low < high → depth ≡ length text) → IsPart (names_of es) text low high
    → ((t : List ℕ) → AreInOrder (row_names rows) → (low < high → depth ≡ length t) → IsPart (row_names rows) t low high → IsPart (row_names rows) (t ++ c ∷ []) low' high')
    → IsPart (names_of es) (text ++ c ∷ []) low' high'
narrowed rows es text c low high low' high' depth is order deep part narrow =
    let names : row_names rows ≡ names_of es = sym (names_of-rows rows) ∙ ap names_of is in
    let before : List (List ℕ) → Type 0 = λ ns. IsPart ns text low high in
    let after : List (List ℕ) → Type 0 = λ ns. IsPart ns (text ++ c ∷ []) low' high' in
    subst after names (narrow text order deep (subst before (sym names) part))

pub in_order : (rows : List Row) (es : Entities) → rows_in rows ≡ es → AreInOrder (row_names rows) → AreInOrder (names_of es)
in_order rows es is order = subst AreInOrder (sym (names_of-rows rows) ∙ ap names_of is) order

pub entity_of_row : (rows : List Row) (es : Entities) (k : ℕ) (r : Row) → rows_in rows ≡ es → k < length rows → r ≡ get_or rows k r → entity_in r ≡ get_or es k (entity_in r)
entity_of_row rows es k r is h at = ap entity_in at ∙ sym (get_or-map entity_in rows k r (entity_in r) h) ∙ ap (λ xs. get_or xs k (entity_in r)) is

pub name_of_row : (rows : List Row) (es : Entities) (k : ℕ) (r : Row) → rows_in rows ≡ es → k < length rows → r ≡ get_or rows k r → string_bytes r.name ≡ name_at (names_of es) k
name_of_row rows es k r is h at =
    let name : Row → List ℕ = λ x. string_bytes x.name in
    ap name at ∙ sym (get_or-map name rows k r [] h) ∙ ap (λ ns. get_or ns k []) (sym (names_of-rows rows) ∙ ap names_of is)

-- the text that is held is no longer than the first name that begins with it
pub deep_enough : (names : List (List ℕ)) (text : List ℕ) (low high : ℕ) → IsPart names text low high → low < high → length text ≤ length (name_at names low)
deep_enough names text low high is some = front-length text (name_at names low) (is.within low (omega arith) some)

-- ---- the empty text

no_empty_name : (n : List ℕ) → is_name n ≡ true → is_front n [] ≡ false
no_empty_name [] named = cc
no_empty_name (x ∷ xs) named = refl

longest-empty : (es : Entities) → list_all is_name (names_of es) ≡ true → longest [] es ≡ None
longest-empty [] named = refl
longest-empty (e ∷ es) named =
    let parts = and_parts (is_name e.name) (list_all is_name (names_of es)) named in
    rw (no_empty_name e.name parts.0) (longest-empty es parts.1)

pub Holds-empty : (rows : List Row) (es : Entities) → rows_in rows ≡ es → AreNames (row_names rows) → Holds es (record { part = record { low = 0; high = length rows }; depth = 0; best = None }) []
Holds-empty rows es is names =
    let long : length (names_of es) ≡ length rows = ap length (ap names_of (sym is) ∙ names_of-rows rows) ∙ length-map rows (λ (r : Row). string_bytes r.name) in
    let named : list_all is_name (names_of es) ≡ true = subst (λ ns. list_all is_name ns ≡ true) (sym (names_of-rows rows) ∙ ap names_of is) names.named in
    record {
      part = record { ends = omega arith; fits = omega arith; before = λ k h. absurd (omega arith); within = λ k le lt. refl; behind = λ k le lt. absurd (omega arith) };
      depth = λ h. refl;
      best = longest-empty es named;
    }

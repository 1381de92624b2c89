-- The part of the table whose names begin with a text, as the text grows by a character.
use Rattle.std.proofs.Common.{◌≡◌, ℕ, suc, ◌+◌, ◌-◌, ◌<◌, ◌≤◌, Bool, true, false, true≢false, refl, List, [], ◌∷◌, ◌++◌, length, get_or, drop, map, Less, nat_cmp, string_bytes, sym, ap, ◌∙◌, subst, inl, inr, arith}
use Rattle.std.specs.Cmp.Lexicographic.{slice_cmp}
use Rattle.std.specs.List.{AllWithin, slice_range}
use Rattle.std.specs.List.Sorted.{IsPartitionedBy, IsPartitionPoint}
use Rattle.std.proofs.Math.ListN as numbered
use Rattle.std.proofs.lemmas.List.{get_or-map, get_or-take, get_or-drop, length-map, length-take, length-drop}
use Rattle.std.proofs.lemmas.Bool.{cases_lt}
use Rattle.std.proofs.lemmas.Map.Keys.{Less-from_sorted}
use Rattle.standard.specs.Entities.{is_front}
use Rattle.entity_table.specs.Order.{AreInOrder}
use Rattle.entity_table.specs.Parts.{row_names, rests, is_below, is_up_to, name_at, IsPart}
use Rattle.entity_table.specs.declared.row.Row.{Row}
use Rattle.entity_table.proofs.Fronts.{front-not_longer, goes_on, stays_below, goes_past, below_before, up_to_before}

-- ---- a partition of a list, seen through a function of its items

pub IsPartitionedBy-map : {X Y : Type 0} (f : X → Y) (p : Y → Bool) (xs : List X) → IsPartitionedBy p (map f xs) → IsPartitionedBy (λ x. p (f x)) xs
IsPartitionedBy-map f p xs h = λ i j d le lt t.
    let at : (k : ℕ) → get_or (map f xs) k (f d) ≡ f (get_or xs k d) = λ k. numbered.get_or-map f xs k d in
    sym (ap p (at i)) ∙ h i j (f d) le (rw (length-map xs f) lt) (ap p (at j) ∙ t)

AllWithin-map : {X Y : Type 0} (f : X → Y) (P : Y → Type 0) (xs : List X) (low high : ℕ) → high ≤ length xs → AllWithin (λ x. P (f x)) xs low high → AllWithin P (map f xs) low high
AllWithin-map f P [] low high fits h = λ k d le lt. absurd (omega arith)
AllWithin-map f P (x ∷ xs) low high fits h = λ k d le lt. rw (get_or-map f (x ∷ xs) k x d (omega arith)) (h k x le lt)

pub IsPartitionPoint-map : {X Y : Type 0} (f : X → Y) (p : Y → Bool) (xs : List X) (i : ℕ) → i ≤ length xs
    → IsPartitionPoint (λ x. p (f x) ≡ true) (λ x. p (f x) ≡ false) xs i → IsPartitionPoint (λ y. p y ≡ true) (λ y. p y ≡ false) (map f xs) i
IsPartitionPoint-map f p xs i fits h =
    (AllWithin-map f (λ y. p y ≡ true) xs 0 i fits h.0, rw (length-map xs f) (AllWithin-map f (λ y. p y ≡ false) xs i (length xs) (omega arith) h.1))

-- ---- what stands behind the text in the names of a part

length-rests : (rows : List Row) (low high depth : ℕ) → low ≤ high → high ≤ length rows → length (rests depth (slice_range rows low high)) ≡ high - low
length-rests rows low high depth ends fits =
    length-map (slice_range rows low high) (λ (r : Row). drop depth (string_bytes r.name)) ∙ simp (length-take, length-drop) (omega arith)

pub rest_at : (rows : List Row) (low high depth k : ℕ) (d : List ℕ) → low ≤ high → high ≤ length rows → k < high - low → get_or (rests depth (slice_range rows low high)) k d ≡ drop depth (name_at (row_names rows) (low + k))
rest_at [] low high depth k d ends fits h = absurd (omega arith)
rest_at (r ∷ more) low high depth k d ends fits h =
    let rows : List Row = r ∷ more in
    let rest : Row → List ℕ = λ x. drop depth (string_bytes x.name) in
    let name : Row → List ℕ = λ x. string_bytes x.name in
    let long : length (slice_range rows low high) ≡ high - low = simp (length-take, length-drop) (omega arith) in
    get_or-map rest (slice_range rows low high) k r d (omega arith)
    ∙ ap rest (get_or-take (high - low) (drop low rows) k r h ∙ get_or-drop low rows k r)
    ∙ ap (drop depth) (sym (get_or-map name rows (low + k) r [] (omega arith)))

length-within : (rows : List Row) (low high : ℕ) → low ≤ high → high ≤ length rows → length (slice_range rows low high) ≡ high - low
length-within rows low high ends fits = simp (length-take, length-drop) (omega arith)

length-names : (rows : List Row) → length (row_names rows) ≡ length rows
length-names rows = length-map rows (λ (r : Row). string_bytes r.name)

rest_is : (rows : List Row) (text : List ℕ) (low high depth k : ℕ) → (low < high → depth ≡ length text) → high ≤ length rows → low ≤ k → k < high
    → get_or (rests depth (slice_range rows low high)) (k - low) [] ≡ drop (length text) (name_at (row_names rows) k)
rest_is rows text low high depth k deep fits le lt =
    let back : low + (k - low) ≡ k = omega arith in
    rest_at rows low high depth (k - low) [] (omega arith) fits (omega arith)
    ∙ ap (λ n. drop n (name_at (row_names rows) (low + (k - low)))) (deep (omega arith))
    ∙ ap (λ n. drop (length text) (name_at (row_names rows) n)) back

-- ---- the part is partitioned by how its names go on, since they are in order

abbrev PassesBefore : (List ℕ → Bool) → List ℕ → Type 0
PassesBefore p text = (a b : List ℕ) → is_front text a ≡ true → is_front text b ≡ true → slice_cmp nat_cmp a b ≡ Less
    → p (drop (length text) b) ≡ true → p (drop (length text) a) ≡ true

partitioned : (p : List ℕ → Bool) (rows : List Row) (text : List ℕ) (low high depth : ℕ) → PassesBefore p text → AreInOrder (row_names rows) → (low < high → depth ≡ length text) → IsPart (row_names rows) text low high
    → IsPartitionedBy p (rests depth (slice_range rows low high))
partitioned p rows text low high depth before order deep part = λ i j d le lt t.
    let names = row_names rows in
    let long = length-names rows in
    let fits : high ≤ length rows = omega (arith, part.fits) in
    let short : j < high - low = omega (arith, length-rests rows low high depth part.ends fits, lt) in
    let dep : depth ≡ length text = deep (omega arith) in
    let at : (k : ℕ) → k < high - low → p (get_or (rests depth (slice_range rows low high)) k d) ≡ p (drop (length text) (name_at names (low + k))) =
    λ k h. ap p (rest_at rows low high depth k d part.ends fits h ∙ ap (λ n. drop n (name_at names (low + k))) dep) in
    elim (cases_lt i j) [
      | inl less ↦
          let ordered = Less-from_sorted (slice_cmp nat_cmp) names (low + i) (low + j) [] order (omega arith) (omega arith) in
          at i (omega arith) ∙ before (name_at names (low + i)) (name_at names (low + j)) (part.within (low + i) (omega arith) (omega arith)) (part.within (low + j) (omega arith) (omega arith)) ordered (sym (at j short) ∙ t)
      | inr same ↦
          let P : ℕ → Type 0 = λ n. p (get_or (rests depth (slice_range rows low high)) n d) ≡ true in
          let is : j ≡ i = omega arith in
          subst P is t
    ]

pub partitioned_below : (rows : List Row) (text : List ℕ) (low high depth c : ℕ) → AreInOrder (row_names rows) → (low < high → depth ≡ length text) → IsPart (row_names rows) text low high
    → IsPartitionedBy (is_below c) (rests depth (slice_range rows low high))
partitioned_below rows text low high depth c = partitioned (is_below c) rows text low high depth (λ a b. below_before text a b c)

pub partitioned_up_to : (rows : List Row) (text : List ℕ) (low high depth c : ℕ) → AreInOrder (row_names rows) → (low < high → depth ≡ length text) → IsPart (row_names rows) text low high
    → IsPartitionedBy (is_up_to c) (rests depth (slice_range rows low high))
partitioned_up_to rows text low high depth c = partitioned (is_up_to c) rows text low high depth (λ a b. up_to_before text a b c)

-- where the first doesn't pass, none does; where the last does, all do

pub point-none : (p : List ℕ → Bool) (xs : List (List ℕ)) → ((d : List ℕ) → p (get_or xs 0 d) ≡ false) → IsPartitionedBy p xs → IsPartitionPoint (λ y. p y ≡ true) (λ y. p y ≡ false) xs 0
point-none p xs first h = (λ k d le lt. absurd (omega arith), λ k d le lt. by k d lt (p (get_or xs k d)) refl)
  where
    by : (k : ℕ) (d : List ℕ) → k < length xs → (v : Bool) → p (get_or xs k d) ≡ v → p (get_or xs k d) ≡ false
    by k d lt false e = e
    by k d lt true e = absurd (true≢false (sym (h 0 k d (omega arith) lt e) ∙ first d))

pub point-all : (p : List ℕ → Bool) (xs : List (List ℕ)) (n : ℕ) → length xs ≡ suc n → ((d : List ℕ) → p (get_or xs n d) ≡ true) → IsPartitionedBy p xs → IsPartitionPoint (λ y. p y ≡ true) (λ y. p y ≡ false) xs (length xs)
point-all p xs n long last h = (λ k d le lt. h k n d (omega (arith, long, lt)) (omega (arith, long)) (last d), λ k d le lt. absurd (omega (arith, le, lt)))

-- what stands behind the text in a row
pub rest_of_row : (rows : List Row) (depth k : ℕ) (r : Row) (d : List ℕ) → k < length rows → r ≡ get_or rows k r → get_or (rests depth rows) k d ≡ drop depth (string_bytes r.name)
rest_of_row rows depth k r d h is =
    let rest : Row → List ℕ = λ x. drop depth (string_bytes x.name) in
    get_or-map rest rows k r d h ∙ ap rest (sym is)

pub length-of_rests : (rows : List Row) (depth : ℕ) → length (rests depth rows) ≡ length rows
length-of_rests rows depth = length-map rows (λ (r : Row). drop depth (string_bytes r.name))

-- ---- the part of the longer text

abbrev SplitsAt : (List ℕ → Bool) → List (List ℕ) → ℕ → Type 0
SplitsAt p xs i = IsPartitionPoint (λ y. p y ≡ true) (λ y. p y ≡ false) xs i

pub IsPart-narrowed : (rows : List Row) (text : List ℕ) (low high depth c below up_to : ℕ) → (low < high → depth ≡ length text) → IsPart (row_names rows) text low high
    → SplitsAt (is_below c) (rests depth (slice_range rows low high)) below → SplitsAt (is_up_to c) (rests depth (slice_range rows low high)) up_to
    → below < up_to → up_to ≤ high - low → IsPart (row_names rows) (text ++ c ∷ []) (low + below) (low + up_to)
IsPart-narrowed rows text low high depth c below up_to deep part s t some fits =
    let names = row_names rows in
    let long = length-names rows in
    let count = length-rests rows low high depth part.ends (omega (arith, part.fits)) in
    let rest = λ (k : ℕ). rest_is rows text low high depth k deep (omega (arith, part.fits)) in
    record {
      ends = omega arith;
      fits = omega (arith, part.ends, part.fits);
      before = λ k h. elim (cases_lt k low) [
        | inl less ↦ front-not_longer text (name_at names k) c (part.before k less)
        | inr more ↦ stays_below text (name_at names k) c (ap (is_below c) (sym (rest k more (omega arith))) ∙ s.0 (k - low) [] (omega arith) (omega arith))
      ];
      within = λ k le lt. goes_on text (name_at names k) c (part.within k (omega arith) (omega arith))
          (ap (is_below c) (sym (rest k (omega arith) (omega arith))) ∙ s.1 (k - low) [] (omega arith) (omega arith))
          (ap (is_up_to c) (sym (rest k (omega arith) (omega arith))) ∙ t.0 (k - low) [] (omega arith) (omega arith));
      behind = λ k le lt. elim (cases_lt k high) [
        | inl less ↦ goes_past text (name_at names k) c (ap (is_up_to c) (sym (rest k (omega arith) less)) ∙ t.1 (k - low) [] (omega arith) (omega arith))
        | inr more ↦ front-not_longer text (name_at names k) c (part.behind k more lt)
      ];
    }

-- all of its names go on so
pub IsPart-whole : (rows : List Row) (text : List ℕ) (low high depth c : ℕ) → (low < high → depth ≡ length text) → IsPart (row_names rows) text low high
    → SplitsAt (is_below c) (rests depth (slice_range rows low high)) 0 → SplitsAt (is_up_to c) (rests depth (slice_range rows low high)) (length (slice_range rows low high))
    → 0 < length (slice_range rows low high) → IsPart (row_names rows) (text ++ c ∷ []) low high
IsPart-whole rows text low high depth c deep part s t some =
    let names = row_names rows in
    let fits : high ≤ length rows = omega (arith, part.fits, length-names rows) in
    let n = length (slice_range rows low high) in
    let long : n ≡ high - low = length-within rows low high part.ends fits in
    let begin : low + 0 ≡ low = omega arith in
    let end : low + n ≡ high = omega (arith, long, part.ends) in
    subst (λ (k : ℕ). IsPart names (text ++ c ∷ []) low k) end
    (subst (λ (k : ℕ). IsPart names (text ++ c ∷ []) k (low + n)) begin
    (IsPart-narrowed rows text low high depth c 0 n deep part s t some (omega (arith, long))))

pub IsPart-none : (rows : List Row) (text : List ℕ) (low high depth c below up_to : ℕ) → (low < high → depth ≡ length text) → IsPart (row_names rows) text low high
    → SplitsAt (is_below c) (rests depth (slice_range rows low high)) below → SplitsAt (is_up_to c) (rests depth (slice_range rows low high)) up_to
    → up_to ≤ below → IsPart (row_names rows) (text ++ c ∷ []) 0 0
IsPart-none rows text low high depth c below up_to deep part s t none =
    let names = row_names rows in
    let long = length-names rows in
    let count = length-rests rows low high depth part.ends (omega (arith, part.fits)) in
    let rest = λ (k : ℕ). rest_is rows text low high depth k deep (omega (arith, part.fits)) in
    record {
      ends = omega arith;
      fits = omega arith;
      before = λ k h. absurd (omega arith);
      within = λ k le lt. absurd (omega arith);
      behind = λ k le lt. elim (cases_lt k low) [
        | inl less ↦ front-not_longer text (name_at names k) c (part.before k less)
        | inr after ↦ elim (cases_lt k high) [
          | inl inside ↦ elim (cases_lt (k - low) below) [
            | inl first ↦ stays_below text (name_at names k) c (ap (is_below c) (sym (rest k after inside)) ∙ s.0 (k - low) [] (omega arith) first)
            | inr second ↦ goes_past text (name_at names k) c (ap (is_up_to c) (sym (rest k after inside)) ∙ t.1 (k - low) [] (omega arith) (omega arith))
          ]
          | inr more ↦ front-not_longer text (name_at names k) c (part.behind k more lt)
        ]
      ];
    }

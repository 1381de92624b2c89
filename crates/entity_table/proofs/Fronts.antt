-- Names that begin with a text, and how they go on behind it.
use Rattle.std.proofs.Common.{◌≡◌, ℕ, ◌<◌, ◌≤◌, ◌==◌, Bool, true, false, ◌&&◌, List, [], ◌∷◌, ◌++◌, length, drop, Ordering, Less, Equal, Greater, nat_cmp, refl, sym, ap, ◌∙◌, arith}
use Rattle.std.specs.Ordering.{ordering_then, MatchOrdering}
use Rattle.std.specs.Cmp.Lexicographic.{slice_cmp}
use Rattle.std.proofs.lemmas.Bool.{false≢true, true≢false, eqb-true, eq-eqb, ne_eqb, ltb-true, ltb-false, leb-true, leb-false, lt-ltb, le-leb, and_parts, and_left, and_right, and_from}
use Rattle.std.proofs.lemmas.Cmp.{nat_cmp_total, tied_itself, ranked}
use Rattle.standard.specs.Entities.{is_front}
use Rattle.entity_table.specs.Parts.{is_below, is_up_to}

under : (b p q : Bool) → (b ≡ true → p ≡ q) → (b && p) ≡ (b && q)
under true p q f = f refl
under false p q f = refl

cons_same : (x y : ℕ) (xs ys : List ℕ) → x ≡ y → xs ≡ ys → (x ∷ xs) ≡ (y ∷ ys)
cons_same x y xs ys e f = cc

-- ---- a text that grows by a character

-- a name that isn't the longer text is a front of both or of neither
pub front-longer : (n text : List ℕ) (c : ℕ) → (n ≡ text ++ c ∷ [] → ⊥) → is_front n (text ++ c ∷ []) ≡ is_front n text
front-longer [] text c apart = refl
front-longer (x ∷ []) [] c apart = ap (λ b. b && true) (ne_eqb x c (λ e. apart (cons_same x c [] [] e refl)))
front-longer (x ∷ y ∷ ys) [] c apart = and_right (x == c) false refl
front-longer (x ∷ xs) (h ∷ hs) c apart =
    under (x == h) _ _ (λ t. front-longer xs hs c (λ e. apart (cons_same x h xs (hs ++ c ∷ []) (eqb-true x h t) e)))

-- a name that doesn't begin with the text doesn't begin with the longer one
pub front-not_longer : (text n : List ℕ) (c : ℕ) → is_front text n ≡ false → is_front (text ++ c ∷ []) n ≡ false
front-not_longer [] n c e = absurd (true≢false e)
front-not_longer (h ∷ hs) [] c e = refl
front-not_longer (h ∷ hs) (x ∷ xs) c e = more (h == x) (is_front hs xs) _ e (front-not_longer hs xs c)
  where
    more : (b p q : Bool) → (b && p) ≡ false → (p ≡ false → q ≡ false) → (b && q) ≡ false
    more true p q e f = f e
    more false p q e f = refl

-- ---- fronts and the order

pub front-length : (n text : List ℕ) → is_front n text ≡ true → length n ≤ length text
front-length [] text e = omega arith
front-length (x ∷ xs) [] e = absurd (false≢true e)
front-length (x ∷ xs) (y ∷ ys) e = let rest = front-length xs ys (and_parts (x == y) (is_front xs ys) e).1 in omega arith

pub front-same : (n : List ℕ) → is_front n n ≡ true
front-same [] = refl
front-same (x ∷ xs) = and_from (x == x) (is_front xs xs) (eq-eqb x x refl) (front-same xs)

pub front-whole : (n text : List ℕ) → is_front n text ≡ true → length n ≡ length text → n ≡ text
front-whole [] [] e l = refl
front-whole [] (y ∷ ys) e l = absurd (omega arith)
front-whole (x ∷ xs) [] e l = absurd (false≢true e)
front-whole (x ∷ xs) (y ∷ ys) e l =
    let p = and_parts (x == y) (is_front xs ys) e in
    cons_same x y xs ys (eqb-true x y p.0) (front-whole xs ys p.1 (omega arith))

same_first : (x y : ℕ) (o : Ordering) → x ≡ y → ordering_then (nat_cmp x y) o ≡ Less → o ≡ Less
same_first x y o e h = sym (ap (λ f. ordering_then f o) (ap (λ z. nat_cmp x z) (sym e) ∙ tied_itself nat_cmp_total x)) ∙ h

-- a text isn't below its front
pub front-not_above : (n text : List ℕ) → is_front n text ≡ true → slice_cmp nat_cmp text n ≡ Less → ⊥
front-not_above [] [] e h = cc
front-not_above [] (y ∷ ys) e h = cc
front-not_above (x ∷ xs) [] e h = absurd (false≢true e)
front-not_above (x ∷ xs) (y ∷ ys) e h =
    let p = and_parts (x == y) (is_front xs ys) e in
    front-not_above xs ys p.1 (same_first y x _ (sym (eqb-true x y p.0)) h)

-- ---- how names go on behind the text

-- it goes on with c
pub goes_on : (text n : List ℕ) (c : ℕ) → is_front text n ≡ true → is_below c (drop (length text) n) ≡ false → is_up_to c (drop (length text) n) ≡ true → is_front (text ++ c ∷ []) n ≡ true
goes_on [] [] c f below up = absurd (true≢false below)
goes_on [] (x ∷ xs) c f below up = and_from (c == x) true (eq-eqb c x (omega (arith, ltb-false x c below, leb-true x c up))) refl
goes_on (h ∷ hs) [] c f below up = absurd (false≢true f)
goes_on (h ∷ hs) (x ∷ xs) c f below up =
    let p = and_parts (h == x) (is_front hs xs) f in
    and_from (h == x) _ p.0 (goes_on hs xs c p.1 below up)

pub stays_below : (text n : List ℕ) (c : ℕ) → is_below c (drop (length text) n) ≡ true → is_front (text ++ c ∷ []) n ≡ false
stays_below [] [] c below = refl
stays_below [] (x ∷ xs) c below = and_left (c == x) true (ne_eqb c x (λ e. absurd (omega (arith, ltb-true x c below))))
stays_below (h ∷ hs) [] c below = refl
stays_below (h ∷ hs) (x ∷ xs) c below = and_right (h == x) _ (stays_below hs xs c below)

pub goes_past : (text n : List ℕ) (c : ℕ) → is_up_to c (drop (length text) n) ≡ false → is_front (text ++ c ∷ []) n ≡ false
goes_past [] [] c up = absurd (true≢false up)
goes_past [] (x ∷ xs) c up = and_left (c == x) true (ne_eqb c x (λ e. absurd (omega (arith, leb-false x c up))))
goes_past (h ∷ hs) [] c up = refl
goes_past (h ∷ hs) (x ∷ xs) c up = and_right (h == x) _ (goes_past hs xs c up)

first_up_at : (r : Ordering) (x y : ℕ) (o : Ordering) → MatchOrdering r (x < y) (x ≡ y) (y < x) → ordering_then r o ≡ Less → x ≤ y
first_up_at Less x y o m h = omega arith
first_up_at Equal x y o m h = omega arith
first_up_at Greater x y o m h = cc

first_up : (x y : ℕ) (o : Ordering) → ordering_then (nat_cmp x y) o ≡ Less → x ≤ y
first_up x y o h = first_up_at (nat_cmp x y) x y o (ranked x y (nat_cmp x y) refl) h

-- of two names in order that begin with the text, where the second goes on below c, so does the first
pub below_before : (text a b : List ℕ) (c : ℕ) → is_front text a ≡ true → is_front text b ≡ true → slice_cmp nat_cmp a b ≡ Less
    → is_below c (drop (length text) b) ≡ true → is_below c (drop (length text) a) ≡ true
below_before [] [] b c f g h below = refl
below_before [] (x ∷ xs) [] c f g h below = cc
below_before [] (x ∷ xs) (y ∷ ys) c f g h below = lt-ltb x c (omega (arith, first_up x y _ h, ltb-true y c below))
below_before (t ∷ ts) [] b c f g h below = absurd (false≢true f)
below_before (t ∷ ts) (x ∷ xs) [] c f g h below = absurd (false≢true g)
below_before (t ∷ ts) (x ∷ xs) (y ∷ ys) c f g h below =
    let p = and_parts (t == x) (is_front ts xs) f in
    let q = and_parts (t == y) (is_front ts ys) g in
    below_before ts xs ys c p.1 q.1 (same_first x y _ (sym (eqb-true t x p.0) ∙ eqb-true t y q.0) h) below

pub up_to_before : (text a b : List ℕ) (c : ℕ) → is_front text a ≡ true → is_front text b ≡ true → slice_cmp nat_cmp a b ≡ Less
    → is_up_to c (drop (length text) b) ≡ true → is_up_to c (drop (length text) a) ≡ true
up_to_before [] [] b c f g h up = refl
up_to_before [] (x ∷ xs) [] c f g h up = cc
up_to_before [] (x ∷ xs) (y ∷ ys) c f g h up = le-leb x c (omega (arith, first_up x y _ h, leb-true y c up))
up_to_before (t ∷ ts) [] b c f g h up = absurd (false≢true f)
up_to_before (t ∷ ts) (x ∷ xs) [] c f g h up = absurd (false≢true g)
up_to_before (t ∷ ts) (x ∷ xs) (y ∷ ys) c f g h up =
    let p = and_parts (t == x) (is_front ts xs) f in
    let q = and_parts (t == y) (is_front ts ys) g in
    up_to_before ts xs ys c p.1 q.1 (same_first x y _ (sym (eqb-true t x p.0) ∙ eqb-true t y q.0) h) up

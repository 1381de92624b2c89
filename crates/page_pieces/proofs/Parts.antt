-- A text from a place to another, and parts of it.
use Rattle.std.proofs.Common.{◌≡◌, ◌≤◌, ◌+◌, ◌-◌, ℕ, Bool, true, false, IsTrue, List, ◌++◌, length, take, drop, sym, ◌∙◌, ap, subst, arith}
use Rattle.std.specs.Bool.{MatchBool}
use Rattle.std.specs.List.{slice_range}
use Rattle.std.specs.Str.{chars, IsCharBoundary, IsUtf8, IsAscii, encode_utf8_all}
use Rattle.std.proofs.lemmas.Bool.{false≢true}
use Rattle.std.proofs.lemmas.Str.{IsUtf8-between, IsUtf8-drop, IsUtf8-append, IsCharBoundary-from_drop, IsCharBoundary-start, IsCharBoundary-end, encodes-chars, chars-IsAscii, IsAscii-take, IsAscii-drop}
use Rattle.std.proofs.lemmas.List.{take-append-drop, take-take, drop-drop, drop-take, drop-append-le, length-take, length-take-le, length-drop}

-- all of a text
pub whole-text : (w w' : List ℕ) (e : ℕ) → IsUtf8 w' → w ≡ w' → e ≡ length w' → (0 ≤ e) × IsCharBoundary w 0 × IsCharBoundary w e
whole-text w w' e u is len = (
  omega arith,
  subst (λ (x : List ℕ). IsCharBoundary x 0) (sym is) (IsCharBoundary-start w' u),
  subst (λ (x : List ℕ). IsCharBoundary x e) (sym is) (subst (IsCharBoundary w') (sym len) (IsCharBoundary-end w')),
)

-- whether all of a text is ASCII was asked
pub whole-ascii : (w v w' : List ℕ) (ascii : Bool) (Other : Type 0) → w ≡ w' → v ≡ w' → MatchBool ascii (IsAscii v) Other → IsTrue ascii → IsAscii w
whole-ascii w v w' true Other is read asked h = subst IsAscii (read ∙ sym is) asked
whole-ascii w v w' false Other is read asked h = absurd (false≢true h)

module _ (w : List ℕ) (b e : ℕ) (k : ℕ) (u : IsUtf8 w) (i : (b ≤ e) × IsCharBoundary w b × IsCharBoundary w e) where
  abbrev part : List ℕ
  part = take (e - b) (drop b w)

  utf8 : IsUtf8 part
  utf8 = IsUtf8-between w b e u i.0 i.1 i.2

  is-part : encode_utf8_all (chars part) ≡ part
  is-part = encodes-chars part utf8

  as-long : length part ≡ e - b
  as-long =
      let t = length-take (e - b) (drop b w) in
      let d = length-drop b w in
      let n : e ≤ length w = i.2.0 in
      grind (arith, t, d, n)

  behind : drop (e - b) (drop b w) ≡ drop e w
  behind =
      let n : b + (e - b) ≡ e = omega (arith, i.0) in
      drop-drop (e - b) b w ∙ ap (λ m. drop m w) n

  ascii-part : IsAscii w → IsAscii part
  ascii-part a = IsAscii-take (drop b w) (e - b) (IsAscii-drop w b a)

  -- where all of it is ASCII, a character is a byte
  pub ascii-count : IsAscii w → e - b ≡ length (chars part)
  ascii-count a = sym (ap length (chars-IsAscii part (ascii-part a)) ∙ as-long)

  module _ (h : IsCharBoundary (encode_utf8_all (chars part)) k) where
    at : IsCharBoundary part k
    at = subst (λ (x : List ℕ). IsCharBoundary x k) is-part h

    within : k ≤ e - b
    within =
        let n : k ≤ length part = at.0 in
        omega (arith, as-long, n)

    -- the place in the whole
    pub onward : b + k ≤ e
    onward = omega (arith, within, i.0)

    rest-utf8 : IsUtf8 (drop (b + k) w)
    rest-utf8 =
        let n : k ≤ length part = at.0 in
        let cut : drop b w ≡ part ++ drop e w = sym (take-append-drop (e - b) (drop b w)) ∙ ap (λ x. part ++ x) behind in
        subst IsUtf8 (sym (sym (drop-drop k b w) ∙ (ap (drop k) cut ∙ drop-append-le k part (drop e w) n)))
        (IsUtf8-append (drop k part) (drop e w) (IsUtf8-drop part k utf8 at) (IsUtf8-drop w e u i.2))

    pub middle : IsCharBoundary w (b + k)
    middle =
        let n : b + k ≤ length w = omega (arith, onward, i.2.0) in
        IsCharBoundary-from_drop w (b + k) n rest-utf8

    -- what is behind the place, and what is in front of it
    pub skipped : chars (take (e - (b + k)) (drop (b + k) w)) ≡ chars (drop k (encode_utf8_all (chars part)))
    skipped =
        let n : k + (e - (b + k)) ≡ e - b = omega (arith, onward) in
        let more : take (e - (b + k)) (drop k (drop b w)) ≡ drop k part = sym (drop-take k (e - (b + k)) (drop b w)) ∙ ap (λ m. drop k (take m (drop b w))) n in
        ap (λ x. chars (take (e - (b + k)) x)) (sym (drop-drop k b w)) ∙ (ap chars more ∙ ap (λ x. chars (drop k x)) (sym is-part))

    pub fronted : chars (take (b + k - b) (drop b w)) ≡ chars (take k (encode_utf8_all (chars part)))
    fronted =
        let n : b + k - b ≡ k = omega arith in
        ap (λ m. chars (take m (drop b w))) n ∙ (ap chars (sym (take-take k (e - b) (drop b w) within)) ∙ ap (λ x. chars (take k x)) (sym is-part))

    pub front-place : (b ≤ b + k) × IsCharBoundary w b × IsCharBoundary w (b + k)
    front-place = (omega arith, i.1, middle)

    pub rest-place : (b + k ≤ e) × IsCharBoundary w (b + k) × IsCharBoundary w e
    rest-place = (onward, middle, i.2)

    pub ascii-count_front : IsAscii w → k ≡ length (chars (take k (encode_utf8_all (chars part))))
    ascii-count_front a =
        sym (ap (λ x. length (chars (take k x))) is-part
        ∙ (ap length (chars-IsAscii (take k part) (IsAscii-take part k (ascii-part a))) ∙ length-take-le k part at.0))

-- the front of a text, read as bytes
module _ (v text : List ℕ) (k : ℕ) (is : chars v ≡ text) (u : IsUtf8 v) where
  encoded : encode_utf8_all text ≡ v
  encoded = ap encode_utf8_all (sym is) ∙ encodes-chars v u

  pub read-boundary : IsCharBoundary (encode_utf8_all text) k → IsCharBoundary v k
  read-boundary h = subst (λ (x : List ℕ). IsCharBoundary x k) encoded h

  pub read-front : chars (slice_range v 0 k) ≡ chars (take k (encode_utf8_all text))
  read-front =
      let all : k - 0 ≡ k = omega arith in
      ap (λ m. chars (take m v)) all ∙ ap (λ x. chars (take k x)) (sym encoded)

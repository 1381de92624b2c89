-- So many bytes of the piece in hand are executed.
use Rattle.std.proofs.Common.{◌≡◌, ◌≤◌, ◌+◌, ℕ, List, ◌∷◌, ◌++◌, length, take, drop, sym, ◌∙◌, ap, subst, arith, length-append}
use Rattle.std.specs.Str.{chars, IsUtf8, IsCharBoundary, encode_utf8_all}
use Rattle.std.proofs.lemmas.Str.{encodes-chars, chars-append, IsUtf8-take}
use Rattle.std.proofs.lemmas.List.{take-append-drop}
use Rattle.core_definitions.specs.Journal.{Journal}
use Rattle.core_definitions.specs.StandsFor.{text_of}
use Rattle.page_pieces.specs.Keeping.{Kept}
use Rattle.core_steps.specs.declared.side.Side.{Side}
use Rattle.core_steps.specs.Sides.{IsPlaced}
use Rattle.core_steps.specs.Acting.{used_up, IsFront, UsedUp}
use Rattle.core_steps.proofs.Events.{front-at}

module _ (left v : List ℕ) (bytes : ℕ) (is : chars v ≡ left) (utf8 : IsUtf8 v) (f : IsFront bytes left) where
  text-boundary : IsCharBoundary v bytes
  text-boundary = (front-at left v bytes f.front f.rest is utf8 f.utf8 f.size f.is).0

  encoded : encode_utf8_all left ≡ v
  encoded = ap encode_utf8_all (sym is) ∙ encodes-chars v utf8

  pub left-boundary : IsCharBoundary (encode_utf8_all left) bytes
  left-boundary = subst (λ (x : List ℕ). IsCharBoundary x bytes) (sym encoded) text-boundary

  rest-is : (front behind : List ℕ) → IsUtf8 front → bytes ≡ length front → left ≡ chars front ++ behind → chars (drop bytes (encode_utf8_all left)) ≡ behind
  rest-is front behind u size split = ap (λ x. chars (drop bytes x)) encoded ∙ (front-at left v bytes front behind is utf8 u size split).1

  -- how long the two parts are
  sizes : length left ≡ length (chars (take bytes (encode_utf8_all left))) + length (chars (drop bytes (encode_utf8_all left)))
  sizes =
      let all : left ≡ chars (take bytes v) ++ chars (drop bytes v) =
      sym is ∙ (ap chars (sym (take-append-drop bytes v)) ∙ chars-append (take bytes v) (drop bytes v) (IsUtf8-take v bytes utf8 text-boundary)) in
      ap length all
      ∙ (length-append (chars (take bytes v)) (chars (drop bytes v)) ∙ ap (λ x. length (chars (take bytes x)) + length (chars (drop bytes x))) (sym encoded))

-- the place behind a part of what is left is in the page
pub place-fits : (place sent_to n m : ℕ) (k : Kept) (j : Journal) → IsPlaced place sent_to k j → length k.left.text ≡ n + m → place + n ≤ 1073741824
place-fits place sent_to n m k j h size =
    let all : length (text_of (k.left ∷ k.asked)) ≡ length k.left.text + length (text_of k.asked) = length-append k.left.text (text_of k.asked) in
    omega (arith, all, h.asked, h.to_send, h.within, size)

placed-used : (place sent_to n : ℕ) (k : Kept) (rest : List ℕ) (j : Journal) → IsPlaced place sent_to k j → length k.left.text ≡ n + length rest →
    IsPlaced (place + n) sent_to (record k { left = record k.left { text = rest } }) j
placed-used place sent_to n k rest j h size =
    let before : length (text_of (k.left ∷ k.asked)) ≡ length k.left.text + length (text_of k.asked) = length-append k.left.text (text_of k.asked) in
    let now : length (rest ++ text_of k.asked) ≡ length rest + length (text_of k.asked) = length-append rest (text_of k.asked) in
    record {
      asked = omega (arith, before, now, h.asked, size);
      to_send = h.to_send;
      within = h.within;
    }

module _ (old : Side) (v : List ℕ) (bytes n : ℕ) (is : chars v ≡ old.ledger.left.text) (utf8 : IsUtf8 v) (f : IsFront bytes old.ledger.left.text) (size : n ≡ length (chars (take bytes (encode_utf8_all old.ledger.left.text))))
    (placed : IsPlaced old.counts.place old.counts.sent_to old.ledger old.journal) where
  abbrev rest : List ℕ
  rest = chars (drop bytes (encode_utf8_all old.ledger.left.text))

  left-size : length old.ledger.left.text ≡ n + length rest
  left-size = sizes old.ledger.left.text v bytes is utf8 f ∙ ap (λ m. m + length rest) (sym size)

  pub use-fits : old.counts.place + n ≤ 1073741824
  use-fits = place-fits old.counts.place old.counts.sent_to n (length rest) old.ledger old.journal placed left-size

  pub uses-up : (new : Side) → new ≡ used_up rest (old.counts.place + n) old → UsedUp bytes old new
  uses-up new m = record {
    rest = rest;
    place = old.counts.place + n;
    is = m;
    same = rest-is old.ledger.left.text v bytes is utf8 f;
    placed = subst (λ (z : Side). IsPlaced z.counts.place z.counts.sent_to z.ledger z.journal) (sym m)
        (placed-used old.counts.place old.counts.sent_to n old.ledger rest old.journal placed left-size);
  }

-- The page that is made from a number is ASCII, and not too long.
use Rattle.std.proofs.Common.{◌≡◌, ◌≤◌, ◌<◌, ◌^◌, ◌+◌, ◌*◌, ℕ, zero, suc, nat_lt, ◌==◌, Bool, true, false, List, [], ◌∷◌, ◌++◌, length, take, drop, Option, Some, None, refl, sym, ◌∙◌, ap, subst, arith}
use Rattle.std.specs.Prelude.{codes, decimal, is_none, unwrap_or, if◌then◌else◌}
use Rattle.std.specs.Str.{chars, is_utf8, IsAscii, IsUtf8}
use Rattle.std.specs.Char.{encode_utf8}
use Rattle.std.specs.Str.Lossy.{utf8_valid_len, utf8_error_len}
use Rattle.std.proofs.lemmas.List.{length-append, take_all, drop_all}
use Rattle.std.proofs.lemmas.Str.{chars-IsAscii, IsAscii-append, IsUtf8-from_ascii, utf8_valid_len-IsUtf8}
use Rattle.std.proofs.lemmas.Str.Ascii.{IsAscii-nil, IsAscii-cons}
use Rattle.std.proofs.lemmas.Fmt.{IsAscii-decimal, length-decimal-le}
use Rattle.serde_json.proofs.OnLiterals.{serde_json_on_literals}
use Rattle.html_types.specs.declared.ending.Ending.{Ending}
use Rattle.html_types.specs.declared.ending.Ending.TheVariants.{End, Bad, Long, Fault}
use Rattle.standard.specs.Entities.{entities_of}
use Rattle.serial.specs.Page.{Page, front, without_mark, text_of, is_text_so_far, shown, ending_of, page_of}
use Rattle.page_maker.specs.Made.{kind, number_at, item, items, made_page}
use Rattle.made_laws.specs.MadeLaws.{IsInAscii, IsReadAsMade, NamesNoEntity}

-- ---- pieces of an item: ASCII, and so many characters at most

record IsShort (most : ℕ) (text : List ℕ) : Type 0 where
  ascii : IsAscii text
  short : length text ≤ most

short-nil : (most : ℕ) → IsShort most []
short-nil most = record { ascii = IsAscii-nil; short = omega arith }

short-append : (a b : ℕ) (xs ys : List ℕ) → IsShort a xs → IsShort b ys → IsShort (a + b) (xs ++ ys)
short-append a b xs ys h k = record { ascii = IsAscii-append xs ys h.ascii k.ascii; short = omega (arith, length-append xs ys, h.short, k.short) }

short-more : (a b : ℕ) (xs : List ℕ) → a ≤ b → IsShort a xs → IsShort b xs
short-more a b xs less h = record { ascii = h.ascii; short = omega (arith, less, h.short) }

-- ASCII by computation
abbrev all_below : List ℕ → Bool
all_below [] = true
all_below (c ∷ cs) = if nat_lt c 128 then all_below cs else false

ascii-of : (text : List ℕ) → all_below text ≡ true → IsAscii text
ascii-of [] h = IsAscii-nil
ascii-of (c ∷ cs) h = by (nat_lt c 128) refl h (λ k. ascii-of cs k)
  where
    by : (b : Bool) → nat_lt c 128 ≡ b → (if b then all_below cs else false) ≡ true → (all_below cs ≡ true → IsAscii cs) → IsAscii (c ∷ cs)
    by true q h more = IsAscii-cons c cs (grind (arith, q)) (more h)
    by false q h more = absurd (cc h)

literal : (most : ℕ) (text : List ℕ) → all_below text ≡ true → length text ≤ most → IsShort most text
literal most text below short = record { ascii = ascii-of text below; short = short }

short-decimal : (i : ℕ) → i ≤ 50000 → IsShort 5 (decimal i)
short-decimal i small = record { ascii = IsAscii-decimal i (omega (arith, small)); short = length-decimal-le 5 i (omega arith) (omega (arith, small)) (omega (arith, small)) }

-- a number between two texts
between : (before behind : List ℕ) (i : ℕ) → all_below before ≡ true → all_below behind ≡ true → length before ≤ 60 → length behind ≤ 35 → i ≤ 50000 → IsShort 100 (before ++ decimal i ++ behind)
between before behind i p q r s small =
    short-append 65 35 (before ++ decimal i) behind (short-append 60 5 before (decimal i) (literal 60 before p r) (short-decimal i small)) (literal 35 behind q s)

module _ (k i : ℕ) (small : i ≤ 50000) where
  -- the item of a kind that is none of those before
  abbrev from7 : List ℕ
  from7 = codes "<script src=\"f\"></script>" ++ decimal i ++ codes "-->"

  is7 : IsShort 100 from7
  is7 = between (codes "<script src=\"f\"></script>") (codes "-->") i refl refl (omega arith) (omega arith) small

  abbrev from6 : List ℕ
  from6 = if k == 6 then codes "<table><tr><td>" ++ decimal i ++ codes "</table>" else from7

  is6 : IsShort 100 from6
  is6 = by (k == 6)
    where
      by : (b : Bool) → IsShort 100 (if b then codes "<table><tr><td>" ++ decimal i ++ codes "</table>" else from7)
      by true = between (codes "<table><tr><td>") (codes "</table>") i refl refl (omega arith) (omega arith) small
      by false = is7

  abbrev from5 : List ℕ
  from5 = if k == 5 then codes "<script src=\"e\"></script>" else from6

  is5 : IsShort 100 from5
  is5 = by (k == 5)
    where
      by : (b : Bool) → IsShort 100 (if b then codes "<script src=\"e\"></script>" else from6)
      by true = literal 100 (codes "<script src=\"e\"></script>") refl (omega arith)
      by false = is6

  abbrev from4 : List ℕ
  from4 = if k == 4 then codes "<p><script>document.write(\"<u>\");</script>" ++ decimal i ++ codes "</u>" else from5

  is4 : IsShort 100 from4
  is4 = by (k == 4)
    where
      by : (b : Bool) → IsShort 100 (if b then codes "<p><script>document.write(\"<u>\");</script>" ++ decimal i ++ codes "</u>" else from5)
      by true = between (codes "<p><script>document.write(\"<u>\");</script>") (codes "</u>") i refl refl (omega arith) (omega arith) small
      by false = is5

  abbrev from3 : List ℕ
  from3 = if k == 3 then codes "<p><script>document.write(\"<i>" ++ decimal i ++ codes "</i>\");</script>" else from4

  is3 : IsShort 100 from3
  is3 = by (k == 3)
    where
      by : (b : Bool) → IsShort 100 (if b then codes "<p><script>document.write(\"<i>" ++ decimal i ++ codes "</i>\");</script>" else from4)
      by true = between (codes "<p><script>document.write(\"<i>") (codes "</i>\");</script>") i refl refl (omega arith) (omega arith) small
      by false = is4

  abbrev from2 : List ℕ
  from2 = if k == 2 then codes "<b>" ++ decimal i ++ codes "</b>" else from3

  is2 : IsShort 100 from2
  is2 = by (k == 2)
    where
      by : (b : Bool) → IsShort 100 (if b then codes "<b>" ++ decimal i ++ codes "</b>" else from3)
      by true = between (codes "<b>") (codes "</b>") i refl refl (omega arith) (omega arith) small
      by false = is3

  abbrev from1 : List ℕ
  from1 = if k == 1 then codes "<div>" ++ decimal i ++ codes "</div>" else from2

  is1 : IsShort 100 from1
  is1 = by (k == 1)
    where
      by : (b : Bool) → IsShort 100 (if b then codes "<div>" ++ decimal i ++ codes "</div>" else from2)
      by true = between (codes "<div>") (codes "</div>") i refl refl (omega arith) (omega arith) small
      by false = is2

  short-item : IsShort 100 (item k i)
  unfolding item
  short-item = by (k == 0)
    where
      by : (b : Bool) → IsShort 100 (if b then codes "<p>" ++ decimal i else from1)
      by true = short-more 8 100 (codes "<p>" ++ decimal i) (omega arith) (short-append 3 5 (codes "<p>") (decimal i) (literal 3 (codes "<p>") refl (omega arith)) (short-decimal i small))
      by false = is1

short-items : (number count : ℕ) → count ≤ 50000 → IsShort (100 * count) (items number count)
unfolding items
short-items number zero small = short-nil 0
short-items number (suc i) small =
    short-more (100 * i + 100) (100 * suc i) (items number i ++ item (kind (number_at number (suc i))) (suc i)) (omega arith)
    (short-append (100 * i) 100 (items number i) (item (kind (number_at number (suc i))) (suc i)) (short-items number i (omega (arith, small))) (short-item (kind (number_at number (suc i))) (suc i) small))

abbrev first_text : List ℕ
first_text = codes "<!DOCTYPE html><body>"

short-page : (number count : ℕ) → count ≤ 50000 → IsShort (21 + 100 * count) (made_page number count)
unfolding made_page
short-page number count small = short-append 21 (100 * count) first_text (items number count) (literal 21 first_text refl (omega arith)) (short-items number count small)

pub is-in_ascii : IsInAscii
is-in_ascii number count small = (short-page number count small).ascii

-- ---- as a parse reads it

no-error : utf8_error_len [] ≡ None
unfolding utf8_error_len
no-error = refl

no-mark : (number count : ℕ) → without_mark (made_page number count) ≡ made_page number count
unfolding made_page
no-mark number count = refl

module _ (text : List ℕ) (ascii : IsAscii text) (short : length text ≤ 1073741824) where
  utf8 : IsUtf8 text
  utf8 = IsUtf8-from_ascii text ascii

  all-valid : utf8_valid_len text ≡ length text
  all-valid = utf8_valid_len-IsUtf8 text utf8

  whole : take 1073741824 text ≡ text
  whole = take_all 1073741824 text short

  whole-more : take (1073741824 + 1) text ≡ text
  whole-more = take_all (1073741824 + 1) text (omega (arith, short))

  text-is : text_of 1073741824 text ≡ without_mark text
  text-is = ap (λ t. without_mark (chars (front t))) whole ∙ ap (λ t. without_mark (chars t)) (ap (λ n. take n text) all-valid ∙ take_all (length text) text (omega arith)) ∙ ap without_mark (chars-IsAscii text ascii)

  so-far : is_text_so_far text ≡ true
  so-far = ap (λ n. is_none (utf8_error_len (drop n text))) all-valid ∙ ap (λ l. is_none (utf8_error_len l)) (drop_all (length text) text (omega arith)) ∙ ap is_none no-error

  within : nat_lt 1073741824 (length text) ≡ false
  within = grind (arith, short)

  shown-is : shown 1073741824 text ≡ None
  shown-is = ap (λ t. if is_text_so_far t then (if nat_lt 1073741824 (length text) then Some Long else None) else Some Bad) whole-more
      ∙ (ap (λ b. if b then (if nat_lt 1073741824 (length text) then Some Long else None) else Some Bad) so-far ∙ ap (λ b. if b then Some Long else None) within)

  same-length : (utf8_valid_len text == length text) ≡ true
  same-length = grind (arith, all-valid)

  ending-is : ending_of 1073741824 text false ≡ End
  ending-is = ap (λ o. unwrap_or o (if utf8_valid_len text == length text then End else Bad)) shown-is ∙ ap (λ b. if b then End else Bad) same-length

  page-is : page_of 1073741824 text false ≡ record { text = without_mark text; ending = End }
  page-is = ap (λ t. record { text = t; ending = ending_of 1073741824 text false }) text-is ∙ ap (λ x. record { text = without_mark text; ending = x }) ending-is

pub is-read_as_made : IsReadAsMade
is-read_as_made number count small =
    let h : IsShort (21 + 100 * count) (made_page number count) = short-page number count small in
    page-is (made_page number count) h.ascii (omega (arith, h.short, small)) ∙ ap (λ t. record { text = t; ending = End }) (no-mark number count)

pub names-no_entity : NamesNoEntity
unfolding entities_of is_utf8 chars encode_utf8 serde_json_on_literals
names-no_entity = refl

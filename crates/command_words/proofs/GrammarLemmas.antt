-- The grammar, and the values of words in it.
use Rattle.std.proofs.Common.{◌≡◌, ◌<◌, ◌≤◌, ◌^◌, ℕ, Bool, true, false, ◌||◌, List, [], ◌∷◌, refl, ap, subst, Option, Some, None, option_map, codes, lit≤, arith}
use Rattle.std.specs.Prelude.{if◌then◌else◌}
use Rattle.std.specs.Str.Parse.{IsNumeral, digits_value, without_leading_plus}
use Rattle.clap.specs.Faults.{fault_of, is_simple_and_free}
use Rattle.clap.specs.Kinds.{Kinds}
use Rattle.clap.specs.Simple.{App, is_simple, subcommand_of}
use Rattle.clap.specs.Values.{IsUnsignedIn}
use Rattle.clap.specs.ValueTests.{is_unsigned_in}
use Rattle.clap.specs.Walk.{Row, Text, first_of}
use Rattle.clap.specs.declared.builder.value_parser.ValueParser.TheVariants as parsers
use Rattle.clap.proofs.ValueTestLemmas.{accepts-Accepts, Accepts-accepts}
use Rattle.command_words.specs.declared.words.PageWords.{PageWords}
use Rattle.command_words.specs.declared.words.MakeWords.{MakeWords}
use Rattle.command_words.specs.declared.words.CommandWords.TheVariants as words
use Rattle.command_words.specs.Words.{PageAsked, specparse, value_of, number_from, page_asked, make_asked, asked, asked_by, where_none, shown, AreInGrammar, AreWithin}

pub or_false : (x y z : Bool) → z ≡ (x || y) → x ≡ false → y ≡ false → z ≡ false
or_false x y z is a b = rw (is, a, b) refl

pub specparse_is_simple : is_simple_and_free specparse ≡ true
specparse_is_simple = refl

simple : is_simple specparse ≡ true
simple = refl

-- words that a command with this grammar takes, and its rows
pub taken_by : (app : App) (words : List Text) → app ≡ specparse → (is_simple_and_free app ≡ true → fault_of app words ≡ []) → AreInGrammar words
taken_by app words is none = subst (λ a. is_simple_and_free a ≡ true → fault_of a words ≡ []) is none specparse_is_simple

pub rows_by : (app : App) (words : List Text) (rows : Option (Text × List Row)) → app ≡ specparse → (is_simple app ≡ true → rows ≡ subcommand_of app words) → rows ≡ subcommand_of specparse words
rows_by app words rows is found = subst (λ a. is_simple a ≡ true → rows ≡ subcommand_of a words) is found simple

-- the value by the rows of the subcommand
pub value_at : (name : Text) (rows : List Row) (sub : Option (Text × List Row)) → Some rows ≡ option_map (λ p. p.1) sub → first_of name rows ≡ value_of name sub
value_at name rows None is = absurd (cc is)
value_at name rows (Some sub) is = let same : rows ≡ sub.1 = cc is in ap (first_of name) same

-- a text that is such a number
pub read_number : (least most otherwise n : ℕ) (text : List ℕ) → IsNumeral 10 (without_leading_plus text) → digits_value 10 (without_leading_plus text) < 2 ^ 64
    → n ≡ digits_value 10 (without_leading_plus text) → least ≤ n → n ≤ most → n ≡ number_from least most otherwise (Some text)
read_number least most otherwise n text numeral fits is low high =
    rw (Accepts-accepts false (parsers.Unsigned least most) text (numeral, fits, rw is at low, rw is at high)) is

-- and one that isn't
pub read_none : (least most otherwise : ℕ) (text : List ℕ) → (IsUnsignedIn least most text → ⊥) → otherwise ≡ number_from least most otherwise (Some text)
read_none least most otherwise text none = by_test (is_unsigned_in least most text) refl
  where
    by_test : (b : Bool) → is_unsigned_in least most text ≡ b → otherwise ≡ (if b then digits_value 10 (without_leading_plus text) else otherwise)
    by_test true is = absurd (none (accepts-Accepts false (parsers.Unsigned least most) text is))
    by_test false is = refl

pub asked_none : (words : List Text) → (AreInGrammar words → ⊥) → asked words ≡ None
asked_none words refused = by_faults (fault_of specparse words) refused
  where
    by_faults : (faults : Kinds) → (faults ≡ [] → ⊥) → where_none faults (asked_by (subcommand_of specparse words)) ≡ None
    by_faults [] no_fault = absurd (no_fault refl)
    by_faults (f ∷ fs) some = refl

-- a number is within its limits
number_within : (least most otherwise : ℕ) (value : Option Text) → least ≤ otherwise → otherwise ≤ most
    → (least ≤ number_from least most otherwise value) × (number_from least most otherwise value ≤ most)
number_within least most otherwise None low high = (low, high)
number_within least most otherwise (Some text) low high = by_test (is_unsigned_in least most text) refl
  where
    by_test : (b : Bool) → is_unsigned_in least most text ≡ b
        → (least ≤ (if b then digits_value 10 (without_leading_plus text) else otherwise)) × ((if b then digits_value 10 (without_leading_plus text) else otherwise) ≤ most)
    by_test true is = let taken = accepts-Accepts false (parsers.Unsigned least most) text is in (taken.2, taken.3)
    by_test false is = (low, high)

-- so are those of a page
pub page_within : (read : PageWords) (sub : Option (Text × List Row)) → shown read ≡ page_asked sub → AreWithin (words.Page read)
page_within read sub is =
    let piece = number_within 1 65536 4096 (value_of (codes "piece") sub) (lit≤ tt) (lit≤ tt) in
    let ahead = number_within 1 64 8 (value_of (codes "ahead") sub) (lit≤ tt) (lit≤ tt) in
    let preload = number_within 0 8 0 (value_of (codes "preload") sub) (lit≤ tt) (lit≤ tt) in
    let piece_is : read.piece ≡ number_from 1 65536 4096 (value_of (codes "piece") sub) = ap (λ (p : PageAsked). p.piece) is in
    let ahead_is : read.ahead ≡ number_from 1 64 8 (value_of (codes "ahead") sub) = ap (λ (p : PageAsked). p.ahead) is in
    let preload_is : read.preload ≡ number_from 0 8 0 (value_of (codes "preload") sub) = ap (λ (p : PageAsked). p.preload) is in
    let watch = number_within 0 8 0 (value_of (codes "watch") sub) (lit≤ tt) (lit≤ tt) in
    let watch_is : read.watch ≡ number_from 0 8 0 (value_of (codes "watch") sub) = ap (λ (p : PageAsked). p.watch) is in
    (rw piece_is piece.0, rw piece_is piece.1, rw ahead_is ahead.0, rw ahead_is ahead.1, rw preload_is preload.1, rw watch_is watch.1)

-- and of a page that is to be made
pub make_within : (made : MakeWords) (sub : Option (Text × List Row)) → made ≡ make_asked sub → AreWithin (words.Make made)
make_within made sub is =
    let number = number_within 0 2147483647 0 (value_of (codes "NUMBER") sub) (lit≤ tt) (lit≤ tt) in
    let count = number_within 1 50000 1 (value_of (codes "COUNT") sub) (lit≤ tt) (lit≤ tt) in
    let number_is : made.number ≡ number_from 0 2147483647 0 (value_of (codes "NUMBER") sub) = ap (λ (m : MakeWords). m.number) is in
    let count_is : made.count ≡ number_from 1 50000 1 (value_of (codes "COUNT") sub) = ap (λ (m : MakeWords). m.count) is in
    let most : made.number ≤ 2147483647 = rw number_is number.1 in
    (omega arith, rw count_is count.0, rw count_is count.1)

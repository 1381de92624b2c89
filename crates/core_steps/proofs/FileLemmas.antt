-- The names of scripts, and what stands in their files.
use Rattle.std.proofs.Common.{◌≡◌, ◌<◌, ◌≤◌, ◌+◌, ℕ, Bool, true, false, List, [], ◌∷◌, length, take, Option, Some, None, refl, sym, ap, ◌∙◌, subst, arith, length-take}
use Rattle.std.specs.Prelude.{◌&&◌, ◌==◌, not, nat_le, is_some, slice_get}
use Rattle.std.specs.Option.{option_eq}
use Rattle.std.specs.List.{list_all}
use Rattle.std.specs.Str.{chars, IsUtf8, is_utf8}
use lib.Dec.{eqb}
use lib.Utf8.{encodes}
use Rattle.std.proofs.lemmas.Bool.Decides.{nat_tests}
use Rattle.std.proofs.lemmas.Bool.{lt-leb, le-leb, leb-true, leb-false}
use Rattle.std.proofs.lemmas.List.{take_all}
use Rattle.std.proofs.lemmas.Str.{encodes-chars, encode_ascii, is_utf8-from_IsUtf8, IsUtf8-from_is_utf8}
use Rattle.serial.specs.Page.{without_mark}
use Rattle.serial.specs.Scripts.{is_name_character, is_lawful, statements_if, script_limit, file_statements}
use Rattle.serial.specs.Statements.{string_value, string_between, statement, statements}

-- ---- names

name_is_ascii : (c : ℕ) → is_name_character c ≡ true → c < 128
name_is_ascii c e = grind (arith, nat_tests)

and-left : (a b : Bool) → (a && b) ≡ true → a ≡ true
and-left true b e = refl
and-left false b e = absurd (cc e)

and-right : (a b : Bool) → (a && b) ≡ true → b ≡ true
and-right true b e = e
and-right false b e = absurd (cc e)

names-encode : (cs : List ℕ) → list_all is_name_character cs ≡ true → encodes cs ≡ cs
names-encode [] e = refl
names-encode (c ∷ cs) e =
    let here : is_name_character c ≡ true = and-left (is_name_character c) (list_all is_name_character cs) e in
    let rest : list_all is_name_character cs ≡ true = and-right (is_name_character c) (list_all is_name_character cs) e in
    rw (encode_ascii c (name_is_ascii c here), names-encode cs rest) refl

-- the bytes of a name are its characters
pub name-bytes : (bs : List ℕ) → IsUtf8 bs → list_all is_name_character (chars bs) ≡ true → chars bs ≡ bs
name-bytes bs utf8 e = sym (names-encode (chars bs) e) ∙ encodes-chars bs utf8

lawful-names : (cs : List ℕ) → is_lawful cs ≡ true → list_all is_name_character cs ≡ true
unfolding is_lawful
lawful-names [] e = absurd (cc e)
lawful-names (c ∷ cs) e =
    and-right (not (c == 46)) (list_all is_name_character (c ∷ cs)) (and-left (not (c == 46) && list_all is_name_character (c ∷ cs)) (nat_le (length (c ∷ cs)) 100) e)

pub lawful-bytes : (bs : List ℕ) → IsUtf8 bs → is_lawful (chars bs) ≡ true → chars bs ≡ bs
lawful-bytes bs utf8 e = name-bytes bs utf8 (lawful-names (chars bs) e)

-- no character, or a dot at the front
pub lawful-none : (cs : List ℕ) (first : Option ℕ) (none : Bool) → first ≡ slice_get cs 0 → is_some first ≡ not none → none ≡ true → false ≡ is_lawful cs
unfolding is_lawful
lawful-none [] first none is some e = refl
lawful-none (c ∷ cs) first none is some e = let there : is_some (Some c) ≡ not true = subst (λ b. is_some (Some c) ≡ not b) e (subst (λ o. is_some o ≡ not none) is some) in absurd (cc there)

pub lawful-dot : (cs : List ℕ) (first : Option ℕ) (dot : Bool) → first ≡ slice_get cs 0 → dot ≡ option_eq eqb first (Some 46) → dot ≡ true → false ≡ is_lawful cs
unfolding is_lawful
lawful-dot [] first dot is eq e = refl
lawful-dot (c ∷ cs) first dot is eq e =
    let there : eqb c 46 ≡ true = sym (subst (λ o. dot ≡ option_eq eqb o (Some 46)) is eq) ∙ e in
    rw there refl

-- else the characters and how many they are decide
pub lawful-else : (cs : List ℕ) (first : Option ℕ) (none dot names : Bool) (n : ℕ) → first ≡ slice_get cs 0 → is_some first ≡ not none → none ≡ false
    → dot ≡ option_eq eqb first (Some 46) → dot ≡ false → names ≡ list_all is_name_character cs → (names ≡ true → n ≡ length cs) → (names && nat_le n 100) ≡ is_lawful cs
unfolding is_lawful
lawful-else [] None none dot names n is some e eq e' all size = absurd (cc (some ∙ ap not e))
lawful-else [] (Some x) none dot names n is some e eq e' all size = absurd (cc is)
lawful-else (c ∷ cs) first none dot names n is some e eq e' all size =
    let there : eqb c 46 ≡ false = sym (subst (λ o. dot ≡ option_eq eqb o (Some 46)) is eq) ∙ e' in
    by_tests names (list_all is_name_character (c ∷ cs)) (eqb c 46) all size there
  where
    by_tests : (b l d : Bool) → b ≡ l → (b ≡ true → n ≡ length (c ∷ cs)) → d ≡ false → (b && nat_le n 100) ≡ (not d && l && nat_le (length (c ∷ cs)) 100)
    by_tests b l true all size dot = absurd (cc dot)
    by_tests true true false all size dot = ap (λ k. nat_le k 100) (size refl)
    by_tests true false false all size dot = absurd (cc all)
    by_tests false true false all size dot = absurd (cc all)
    by_tests false false false all size dot = refl

-- ---- the text of a file

-- the text that stands for a file that is none
pub outside_language : statements (chars (63 ∷ [])) ≡ None
unfolding chars statements string_value string_between statement
outside_language = refl

-- a file that is too long
pub long-statements : (bytes : List ℕ) → script_limit < length bytes → file_statements bytes ≡ None
unfolding file_statements
long-statements bytes long = rw (lt-leb (length bytes) script_limit long) refl

-- one that isn't UTF-8
pub broken-statements : (bytes : List ℕ) → is_utf8 bytes ≡ false → file_statements bytes ≡ None
unfolding file_statements
broken-statements bytes broken = by_test (nat_le (length bytes) script_limit)
  where
    by_test : (b : Bool) → statements_if (b && is_utf8 bytes) (without_mark (chars bytes)) ≡ None
    by_test true = rw broken refl
    by_test false = refl

pub fits-statements : (bytes : List ℕ) → length bytes ≤ script_limit → is_utf8 bytes ≡ true → file_statements bytes ≡ statements (without_mark (chars bytes))
unfolding file_statements
fits-statements bytes fits utf8 = rw (le-leb (length bytes) script_limit fits, utf8) refl

-- what was read of a file has the file's statements
pub cut-statements : (limit : ℕ) (whole : List ℕ) → limit ≡ script_limit → file_statements (take (limit + 1) whole) ≡ file_statements whole
cut-statements limit whole is = by_test (nat_le (length whole) limit) refl
  where
    by_test : (b : Bool) → nat_le (length whole) limit ≡ b → file_statements (take (limit + 1) whole) ≡ file_statements whole
    by_test true fits = let small : length whole ≤ limit + 1 = let le = leb-true (length whole) limit fits in omega arith in ap file_statements (take_all (limit + 1) whole small)
    by_test false fits =
        let long : limit < length whole = leb-false (length whole) limit fits in
        let long' : limit < length (take (limit + 1) whole) = omega (arith, length-take (limit + 1) whole) in
        long-statements (take (limit + 1) whole) (subst (λ k. k < length (take (limit + 1) whole)) is long') ∙ sym (long-statements whole (subst (λ k. k < length whole) is long))

-- the text that runs is that of the file
pub text-runs : (bytes read shown text : List ℕ) → length bytes ≤ script_limit → read ≡ bytes → IsUtf8 bytes → chars shown ≡ without_mark (chars read) → text ≡ shown → statements (chars text) ≡ file_statements bytes
text-runs bytes read shown text fits same utf8 unmarked is =
    ap (λ bs. statements (chars bs)) is ∙ (ap statements (unmarked ∙ ap (λ bs. without_mark (chars bs)) same) ∙ sym (fits-statements bytes fits (is_utf8-from_IsUtf8 bytes utf8)))

-- or it is no text
pub no-text-runs : (bytes text : List ℕ) → (IsUtf8 bytes → ⊥) → text ≡ 63 ∷ [] → statements (chars text) ≡ file_statements bytes
no-text-runs bytes text broken is = ap (λ bs. statements (chars bs)) is ∙ (outside_language ∙ sym (broken-statements bytes (by_test (is_utf8 bytes) refl)))
  where
    by_test : (b : Bool) → is_utf8 bytes ≡ b → is_utf8 bytes ≡ false
    by_test true e = absurd (broken (IsUtf8-from_is_utf8 bytes e))
    by_test false e = e

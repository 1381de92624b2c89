-- ASCII white space and the case of ASCII letters are the same for the bytes of a text and for its characters, where the text is
-- compared with one of ASCII alone.
use Rattle.std.proofs.Common.{◌≡◌, ◌≢◌, ℕ, ◌-◌, ◌<◌, ◌≤◌, Bool, true, false, List, [], ◌∷◌, ◌++◌, length, get_or, map, take, drop, reverse, All, Some, Decides, refl, sym, ap, ◌∙◌, take-append-drop, arith, IsTrue, ◌↔◌}
use Rattle.std.specs.Prelude.{nat_lt, ◌==◌}
use Rattle.std.specs.List.{prefix_len, suffix_len, list_all, list_any}
use Rattle.std.specs.Char.{is_ascii_whitespace, to_ascii_lowercase}
use Rattle.std.specs.Str.{chars, IsUtf8, IsTrimAscii}
use Rattle.std.specs.Cmp.Lexicographic.{bytes_decides}
use Rattle.std.proofs.lemmas.Bool.{both_ways}
use Rattle.std.proofs.lemmas.Bool.Decides.{nat_tests, same_from_decides}
use Rattle.std.proofs.lemmas.List.{get_or-take, length-drop, length-reverse, reverse-append, reverse-reverse}
use Rattle.std.proofs.Math.Seq.{drop-append_seam}
use Rattle.std.proofs.lemmas.List.Folds.{length-prefix_len}
use Rattle.std.proofs.lemmas.List.Sums.{prefix_len_passes, suffix_len-le-length}
use Rattle.std.proofs.lemmas.List.Elements.{All-same, All-head, All-tail, All-append, All-push, All-from_get_or}
use Rattle.std.proofs.lemmas.Str.{chars-IsAscii, encodes-chars, encodes-IsAscii}
use Rattle.std.proofs.lemmas.Str.Ascii.{IsAscii-from_all, trim_ascii_is}
use Rattle.html_types.specs.Text.{same_text}
use Rattle.html_types.proofs.CaseLemmas.{Small, All-unlower, All-lower, All-from_test}
use Rattle.html_types.proofs.TextLemmas.{nil-from_bytes}
use Rattle.standard.specs.Prepare.{strip, strip_start, is_type, javascript_types, is_javascript}

space-small : (c : ℕ) → is_ascii_whitespace c ≡ true → c < 128
space-small c space = grind (arith, nat_tests)

-- the white space that a text begins with
All-prefix : (cs : List ℕ) → All Small (take (prefix_len is_ascii_whitespace cs) cs)
All-prefix cs =
    let n = prefix_len is_ascii_whitespace cs in
    All-from_get_or Small (take n cs) 0 (λ i below.
    let within : i < n = omega (arith, length-prefix_len is_ascii_whitespace cs) in
    let at : get_or (take n cs) i 0 ≡ get_or cs i 0 = get_or-take n cs i 0 within in
    rw at (space-small (get_or cs i 0) (prefix_len_passes is_ascii_whitespace cs i 0 within)))

reverse-first : (c : ℕ) (cs : List ℕ) → reverse (c ∷ cs) ≡ reverse cs ++ c ∷ []
reverse-first c cs = reverse-append (c ∷ []) cs

All-reverse : (cs : List ℕ) → All Small cs → All Small (reverse cs)
All-reverse [] small = small
All-reverse (c ∷ cs) small = All-same Small (reverse (c ∷ cs)) (reverse cs ++ c ∷ []) (reverse-first c cs) (All-push Small (reverse cs) c (All-reverse cs (All-tail Small c cs small)) (All-head Small c cs small))

All-unreverse : (cs : List ℕ) → All Small (reverse cs) → All Small cs
All-unreverse cs small = All-same Small cs (reverse (reverse cs)) (sym (reverse-reverse cs)) (All-reverse (reverse cs) small)

All-from_parts : (n : ℕ) (cs : List ℕ) → All Small (take n cs) → All Small (drop n cs) → All Small cs
All-from_parts n cs first rest = All-same Small cs (take n cs ++ drop n cs) (sym (take-append-drop n cs)) (All-append Small (take n cs) (drop n cs) first rest)

-- what is left in front of the last k, seen from behind
drop-reverse : (k : ℕ) (cs : List ℕ) → k ≤ length cs → drop k (reverse cs) ≡ reverse (take (length cs - k) cs)
drop-reverse k cs le =
    let n = length cs - k in
    let a = take n cs in
    let b = drop n cs in
    let len : length (reverse b) ≡ k = length-reverse b ∙ omega (arith, length-drop n cs) in
    ap (λ xs. drop k (reverse xs)) (sym (take-append-drop n cs))
    ∙ ap (drop k) (reverse-append a b)
    ∙ ap (λ j. drop j (reverse b ++ reverse a)) (sym len)
    ∙ drop-append_seam (reverse b) (reverse a)

All-unstrip : (cs : List ℕ) → All Small (strip cs) → All Small cs
All-unstrip cs small =
    let rest = strip_start cs in
    let k = suffix_len is_ascii_whitespace rest in
    let behind : All Small (drop k (reverse rest)) = All-same Small _ _ (drop-reverse k rest (suffix_len-le-length is_ascii_whitespace rest)) (All-reverse (strip cs) small) in
    let all = All-from_parts k (reverse rest) (All-prefix (reverse rest)) behind in
    All-from_parts (prefix_len is_ascii_whitespace cs) cs (All-prefix cs) (All-unreverse rest all)

-- the bytes and the characters of a text are stripped alike where either is ASCII then
stripped-bytes : (bs rs : List ℕ) → IsTrimAscii bs rs → rs ≡ strip bs
stripped-bytes bs rs trim = trim_ascii_is bs rs (strip_start bs) refl trim

same-from_bytes : (bs rs name : List ℕ) → IsTrimAscii bs rs → All Small name → map to_ascii_lowercase rs ≡ map to_ascii_lowercase name → map to_ascii_lowercase (strip (chars bs)) ≡ map to_ascii_lowercase name
same-from_bytes bs rs name trim small same =
    let is = stripped-bytes bs rs trim in
    let stripped : All Small (strip bs) = All-same Small _ _ (sym is) (All-unlower rs (All-same Small _ _ same (All-lower name small))) in
    let all = IsAscii-from_all bs (All-unstrip bs stripped) in
    ap (λ xs. map to_ascii_lowercase (strip xs)) (chars-IsAscii bs all) ∙ ap (map to_ascii_lowercase) (sym is) ∙ same

same-from_chars : (bs rs name : List ℕ) → IsUtf8 bs → IsTrimAscii bs rs → All Small name → map to_ascii_lowercase (strip (chars bs)) ≡ map to_ascii_lowercase name → map to_ascii_lowercase rs ≡ map to_ascii_lowercase name
same-from_chars bs rs name utf8 trim small same =
    let stripped : All Small (strip (chars bs)) = All-unlower (strip (chars bs)) (All-same Small _ _ same (All-lower name small)) in
    let all = IsAscii-from_all (chars bs) (All-unstrip (chars bs) stripped) in
    let chars-are : chars bs ≡ bs = sym (encodes-IsAscii (chars bs) all) ∙ encodes-chars bs utf8 in
    ap (map to_ascii_lowercase) (stripped-bytes bs rs trim) ∙ ap (λ xs. map to_ascii_lowercase (strip xs)) (sym chars-are) ∙ same

-- comparing the bytes compares the characters
pub same_type : (bs rs name : List ℕ) (r : Bool) → IsUtf8 bs → IsTrimAscii bs rs → IsTrue (list_all (λ b. nat_lt b 128) name)
    → (IsTrue r ↔ (map to_ascii_lowercase rs ≡ map to_ascii_lowercase name)) → r ≡ same_text (map to_ascii_lowercase (strip (chars bs))) (map to_ascii_lowercase name)
same_type bs rs name r utf8 trim ascii test =
    let small = All-from_test name ascii in
    let texts = bytes_decides (map to_ascii_lowercase (strip (chars bs))) (map to_ascii_lowercase name) in
    let bytes : Decides r (map to_ascii_lowercase (strip (chars bs)) ≡ map to_ascii_lowercase name) =
    (λ yes'. same-from_bytes bs rs name trim small (test.0 yes'), λ same. test.1 (same-from_chars bs rs name utf8 trim small same)) in
    same_from_decides r _ bytes texts

is_javascript-no_text : (text : List ℕ) → text ≡ [] → is_javascript (Some text) ≡ true
is_javascript-no_text text none = rw none refl

-- a `type` that is there and empty says JavaScript
pub is_javascript-empty : (bytes : List ℕ) → IsUtf8 bytes → (length bytes == 0) ≡ true → is_javascript (Some (chars bytes)) ≡ true
is_javascript-empty bytes utf8 none = is_javascript-no_text (chars bytes) ((nil-from_bytes bytes utf8).0 none)

is_javascript-text : (text : List ℕ) → text ≢ [] → is_javascript (Some text) ≡ list_any (is_type text) javascript_types
is_javascript-text [] some = absurd (some refl)
is_javascript-text (c ∷ cs) some = refl

-- another is looked for in the list
pub is_javascript-some : (bytes : List ℕ) → IsUtf8 bytes → (length bytes == 0) ≡ false → is_javascript (Some (chars bytes)) ≡ list_any (is_type (chars bytes)) javascript_types
is_javascript-some bytes utf8 some = is_javascript-text (chars bytes) (λ none. both_ways _ some ((nil-from_bytes bytes utf8).1 none))

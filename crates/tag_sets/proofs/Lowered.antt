-- The case of ASCII letters is the same for the bytes of a text and for its characters, where the text is compared with one of
-- ASCII alone.
use Rattle.std.proofs.Common.{◌≡◌, ℕ, Bool, List, map, All, Decides, sym, ap, ◌∙◌, IsTrue, ◌↔◌}
use Rattle.std.specs.Prelude.{nat_lt}
use Rattle.std.specs.List.{list_all}
use Rattle.std.specs.Char.{to_ascii_lowercase}
use Rattle.std.specs.Str.{chars, IsUtf8}
use Rattle.std.specs.Cmp.Lexicographic.{bytes_decides}
use Rattle.std.proofs.lemmas.Bool.Decides.{same_from_decides}
use Rattle.std.proofs.lemmas.List.Elements.{All-same}
use Rattle.std.proofs.lemmas.Str.{chars-IsAscii, encodes-chars, encodes-IsAscii}
use Rattle.std.proofs.lemmas.Str.Ascii.{IsAscii-from_all}
use Rattle.html_types.specs.Text.{same_text}
use Rattle.html_types.proofs.CaseLemmas.{Small, All-unlower, All-lower, All-from_test}

-- what is the same but for case as a text of ASCII is of ASCII
All-alike : (cs name : List ℕ) → All Small name → map to_ascii_lowercase cs ≡ map to_ascii_lowercase name → All Small cs
All-alike cs name small same = All-unlower cs (All-same Small _ _ same (All-lower name small))

same-from_bytes : (bs name : List ℕ) → All Small name → map to_ascii_lowercase bs ≡ map to_ascii_lowercase name → map to_ascii_lowercase (chars bs) ≡ map to_ascii_lowercase name
same-from_bytes bs name small same = ap (map to_ascii_lowercase) (chars-IsAscii bs (IsAscii-from_all bs (All-alike bs name small same))) ∙ same

same-from_chars : (bs name : List ℕ) → IsUtf8 bs → All Small name → map to_ascii_lowercase (chars bs) ≡ map to_ascii_lowercase name → map to_ascii_lowercase bs ≡ map to_ascii_lowercase name
same-from_chars bs name utf8 small same =
    let chars-are : chars bs ≡ bs = sym (encodes-IsAscii (chars bs) (IsAscii-from_all (chars bs) (All-alike (chars bs) name small same))) ∙ encodes-chars bs utf8 in
    ap (map to_ascii_lowercase) (sym chars-are) ∙ same

-- comparing the bytes compares the characters
pub same_lowered : (bs name : List ℕ) (r : Bool) → IsUtf8 bs → IsTrue (list_all (λ b. nat_lt b 128) name)
    → (IsTrue r ↔ (map to_ascii_lowercase bs ≡ map to_ascii_lowercase name)) → r ≡ same_text (map to_ascii_lowercase (chars bs)) (map to_ascii_lowercase name)
same_lowered bs name r utf8 ascii test =
    let small = All-from_test name ascii in
    let texts = bytes_decides (map to_ascii_lowercase (chars bs)) (map to_ascii_lowercase name) in
    let bytes : Decides r (map to_ascii_lowercase (chars bs) ≡ map to_ascii_lowercase name) =
    (λ yes'. same-from_bytes bs name small (test.0 yes'), λ same. test.1 (same-from_chars bs name utf8 small same)) in
    same_from_decides r _ bytes texts

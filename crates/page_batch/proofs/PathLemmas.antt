-- The paths of the bytes of a list, by what is asked of them.
use Rattle.std.proofs.Common.{◌≡◌, ◌<◌, ◌≤◌, ℕ, Bool, true, false, List, length, refl, sym, ap, ◌∙◌, arith}
use Rattle.std.specs.Prelude.{not, ◌&&◌, nat_le, Option, Some, None, if◌then◌else◌, Result, Ok, Err, IfOk}
use Rattle.std.specs.Str.{IsUtf8}
use Rattle.std.specs.Str.Lossy.{utf8_valid_len}
use Rattle.std.proofs.lemmas.Bool.{and_from, and_left, and_right, le-leb, lt-leb, eq-eqb, ne_eqb}
use Rattle.std.proofs.lemmas.Str.{utf8_valid_len-IsUtf8}
use Rattle.page_batch.specs.declared.list.TheConstants.{LIST_LIMIT}
use Rattle.page_batch.specs.Lists.{lines_of, has_empty, is_utf8, is_list, paths_in}

pub is-list : (bytes : List ℕ) → length bytes ≤ LIST_LIMIT → IsUtf8 bytes → has_empty (lines_of bytes) ≡ false → is_list bytes ≡ true
is-list bytes few text none =
    and_from (nat_le (length bytes) LIST_LIMIT) (is_utf8 bytes && not (has_empty (lines_of bytes))) (le-leb (length bytes) LIST_LIMIT few)
    (and_from (is_utf8 bytes) (not (has_empty (lines_of bytes))) (eq-eqb (utf8_valid_len bytes) (length bytes) (utf8_valid_len-IsUtf8 bytes text)) (ap not none))

pub too-many : (bytes : List ℕ) → LIST_LIMIT < length bytes → is_list bytes ≡ false
too-many bytes many = and_left (nat_le (length bytes) LIST_LIMIT) (is_utf8 bytes && not (has_empty (lines_of bytes))) (lt-leb (length bytes) LIST_LIMIT many)

pub not-text : (bytes : List ℕ) (n : ℕ) → n ≡ utf8_valid_len bytes → n < length bytes → is_list bytes ≡ false
not-text bytes n valid short =
    and_right (nat_le (length bytes) LIST_LIMIT) (is_utf8 bytes && not (has_empty (lines_of bytes))) (and_left (is_utf8 bytes) (not (has_empty (lines_of bytes))) (ne_eqb (utf8_valid_len bytes) (length bytes) (λ (all : utf8_valid_len bytes ≡ length bytes). omega (arith, all, valid, short))))

pub has-empty : (bytes : List ℕ) → has_empty (lines_of bytes) ≡ true → is_list bytes ≡ false
has-empty bytes empty =
    and_right (nat_le (length bytes) LIST_LIMIT) (is_utf8 bytes && not (has_empty (lines_of bytes))) (and_right (is_utf8 bytes) (not (has_empty (lines_of bytes))) (ap not empty))

-- ---- the paths

pub paths-none : (bytes : List ℕ) → is_list bytes ≡ false → paths_in bytes ≡ None
paths-none bytes is = ap (λ b. if b then Some (lines_of bytes) else None) is

pub paths-some : (bytes : List ℕ) (paths : List (List ℕ)) → is_list bytes ≡ true → paths ≡ lines_of bytes → paths_in bytes ≡ Some paths
paths-some bytes paths is same = ap (λ b. if b then Some (lines_of bytes) else None) is ∙ ap Some (sym same)

-- by what cutting the lines answers
pub paths-cut : {V E : Type 0} (r : Result V E) (paths : V → List (List ℕ)) (bytes text : List ℕ) → text ≡ bytes → length bytes ≤ LIST_LIMIT → IsUtf8 bytes → IfOk r (λ v. paths v ≡ lines_of text) → IfOk r (λ v. has_empty (lines_of text) ≡ false)
    → IfOk r (λ v. paths_in bytes ≡ Some (paths v))
paths-cut (Ok v) paths bytes text same few utf8 lines none =
    paths-some bytes (paths v) (is-list bytes few utf8 (ap (λ b. has_empty (lines_of b)) (sym same) ∙ none)) (lines ∙ ap lines_of same)
paths-cut (Err e) paths bytes text same few utf8 lines none = tt

pub none-cut : (bytes text : List ℕ) → text ≡ bytes → has_empty (lines_of text) ≡ true → paths_in bytes ≡ None
none-cut bytes text same empty = paths-none bytes (has-empty bytes (ap (λ b. has_empty (lines_of b)) (sym same) ∙ empty))

-- Pages of at most four bytes.
use Rattle.std.proofs.Common.{◌≡◌, [], ◌∷◌, true, false, codes, refl}
use Rattle.std.specs.Str.{chars, is_utf8}
use Rattle.std.specs.Str.Lossy.{utf8_valid_len, utf8_error_len}
use lib.Utf8.{encode}
use Rattle.html_types.specs.declared.ending.Ending.TheVariants.{End, Bad, Long, Fault}
use Rattle.serial.specs.Page.{page_of}

whole : page_of 4 (codes "abcd") false ≡ record { text = codes "abcd"; ending = End }
unfolding utf8_valid_len utf8_error_len chars is_utf8 encode
whole = refl

one_more : page_of 4 (codes "abcde") false ≡ record { text = codes "abcd"; ending = Long }
unfolding utf8_valid_len utf8_error_len chars is_utf8 encode
one_more = refl

-- the limit lies inside a character
cut_by_the_limit : page_of 4 (97 ∷ 98 ∷ 99 ∷ 0xC3 ∷ 0xA9 ∷ []) false ≡ record { text = codes "abc"; ending = Long }
unfolding utf8_valid_len utf8_error_len chars is_utf8 encode
cut_by_the_limit = refl

bad_past_the_limit : page_of 4 (97 ∷ 98 ∷ 99 ∷ 100 ∷ 0xFF ∷ []) false ≡ record { text = codes "abcd"; ending = Bad }
unfolding utf8_valid_len utf8_error_len chars is_utf8 encode
bad_past_the_limit = refl

begun_past_the_limit : page_of 4 (97 ∷ 98 ∷ 99 ∷ 100 ∷ 0xC3 ∷ []) false ≡ record { text = codes "abcd"; ending = Long }
unfolding utf8_valid_len utf8_error_len chars is_utf8 encode
begun_past_the_limit = refl

cut_by_the_file : page_of 4 (97 ∷ 98 ∷ 99 ∷ 0xC3 ∷ []) false ≡ record { text = codes "abc"; ending = Bad }
unfolding utf8_valid_len utf8_error_len chars is_utf8 encode
cut_by_the_file = refl

cut_by_a_fault : page_of 4 (97 ∷ 98 ∷ 99 ∷ 0xC3 ∷ []) true ≡ record { text = codes "abc"; ending = Fault }
unfolding utf8_valid_len utf8_error_len chars is_utf8 encode
cut_by_a_fault = refl

-- one byte order mark is dropped, at the front
a_mark : page_of 8 (0xEF ∷ 0xBB ∷ 0xBF ∷ 97 ∷ 0xEF ∷ 0xBB ∷ 0xBF ∷ []) false ≡ record { text = 97 ∷ 0xFEFF ∷ []; ending = End }
unfolding utf8_valid_len utf8_error_len chars is_utf8 encode
a_mark = refl

-- What a decoder keeps.
use Rattle.std.proofs.Common.{◌≡◌, ℕ, ◌<◌, ◌≤◌, ◌+◌, ◌-◌, List, [], ◌∷◌, ◌++◌, Bool, true, false, Option, Some, None, refl, sym, ap, ◌∙◌, append_assoc, arith, length, take, drop, length-drop, length-append, length-take, eq-eqb, ⊎_elim}
use Rattle.std.specs.Prelude.{IsUtf8, is_none, is_some, encode_utf8, encode_utf8_all, if◌then◌else◌, ◌==◌, ◌&&◌, nat_lt, min}
use Rattle.std.specs.Str.{chars}
use Rattle.std.specs.Str.Lossy.{utf8_valid_len, utf8_error_len}
use Rattle.std.proofs.Math.Seq.{drop-length, take-append-add}
use Rattle.std.proofs.lemmas.Bool.Decides.{nat_tests, leb_tells}
use Rattle.std.proofs.lemmas.List.{take_all}
use Rattle.std.proofs.lemmas.Bool.{ltb-false, eqb-true, eqb-false}
use Rattle.std.proofs.lemmas.Str.{IsUtf8-nil, utf8_valid_len-IsUtf8, utf8_valid_len_le, chars-append, chars-nil, chars_past_char, encodes-chars}
use Rattle.utf8_pieces.specs.declared.decoder.Decoder.{Decoder}
use Rattle.html_types.specs.declared.ending.Ending.{Ending}
use Rattle.html_types.specs.declared.ending.Ending.TheVariants.{End, Bad, Long}
use Rattle.serial.specs.Page.{front, without_mark, text_of, is_text_so_far, shown, ending_of}
use Rattle.utf8_pieces.specs.Decoder.{HasRead, IsOpen, Looked}
use Rattle.utf8_pieces.proofs.PageLaws.{error_is, front-after, front-text, rest-after, so_far-after, valid_len-after, shown-stays, split}

pub text_is_so_far : (bs : List ℕ) → IsUtf8 bs → is_text_so_far bs ≡ true
text_is_so_far bs text = ap (λ n. is_none (utf8_error_len (drop n bs))) (utf8_valid_len-IsUtf8 bs text) ∙ ap (λ l. is_none (utf8_error_len l)) (drop-length bs) ∙ ap is_none (error_is [])

pub front_is : (bs : List ℕ) → IsUtf8 bs → front bs ≡ bs
front_is bs text = take_all _ bs (omega (arith, utf8_valid_len-IsUtf8 bs text))

pub front_len : (bs : List ℕ) → length (front bs) ≡ utf8_valid_len bs
front_len bs = omega (arith, length-take (utf8_valid_len bs) bs, utf8_valid_len_le bs)

pub not_lt : (a b : ℕ) → b ≤ a → nat_lt a b ≡ false
not_lt a b le = grind (arith, nat_tests)

-- nothing was read
pub opens : (d : Decoder) (limit : ℕ) → d.room ≡ limit → d.held.items ≡ [] → d.at_start ≡ true → d.shown ≡ None → HasRead limit d []
opens d limit room held start none = record {
  shown = none ∙ sym nothing;
  open_yet = λ _. record { room = omega arith; held = held ∙ sym (ap (λ n. drop n []) zero_len); start = start ∙ sym (ap (λ n. n == 0) zero_len) };
}
  where
    zero_len : utf8_valid_len [] ≡ 0
    zero_len = utf8_valid_len-IsUtf8 [] IsUtf8-nil

    nothing : shown limit [] ≡ None
    nothing = rw (take_all {A = ℕ} (limit + 1) [] (omega arith), text_is_so_far [] IsUtf8-nil, not_lt limit 0 (omega arith)) refl

-- at the end of whole characters
pub closes : (d : Decoder) (limit : ℕ) (read : List ℕ) (fault : Bool) → HasRead limit d read → d.shown ≡ None → fault ≡ false → length d.held.items ≡ 0 → End ≡ ending_of limit read fault
closes d limit read fault has none no_fault empty =
    let held = (has.open_yet none).held in
    let same : utf8_valid_len read ≡ length read = omega (arith, empty, ap length held, length-drop (utf8_valid_len read) read, utf8_valid_len_le read) in
    rw (sym has.shown ∙ none, no_fault, same, eq-eqb (length read) (length read) refl) refl

-- the text without the mark that it begins with
pub unmarked : (text rest shown : List ℕ) (c : ℕ) → IsUtf8 text → text ≡ encode_utf8 c ++ rest → c ≡ 0xFEFF → shown ≡ rest → chars shown ≡ without_mark (chars text)
unmarked text rest shown c utf8 is mark same =
    ap chars same ∙ sym (ap without_mark (chars_past_char text rest c utf8 is ∙ ap (λ x. x ∷ chars rest) mark))

pub none_is : {A : Type 0} (o : Option A) → is_some o ≡ false → o ≡ None
none_is None e = refl
none_is (Some x) e = absurd (cc e)

-- ---- behind an ending

pub ended : (d : Decoder) (limit : ℕ) (read piece : List ℕ) → HasRead limit d read → is_some d.shown ≡ true
    → HasRead limit d (read ++ piece) × (text_of limit (read ++ piece) ≡ text_of limit read)
ended d limit read piece has some = by_shown d.shown refl some
  where
    by_shown : (o : Option Ending) → d.shown ≡ o → is_some o ≡ true → HasRead limit d (read ++ piece) × (text_of limit (read ++ piece) ≡ text_of limit read)
    by_shown None is some = absurd (cc some)
    by_shown (Some e) is some =
        let stays = shown-stays limit read piece e (sym has.shown ∙ is) in
        (record { shown = is ∙ sym stays.0; open_yet = λ none. absurd (cc (none, is)) }, stays.1)

-- ---- one piece on

take-min : (piece : List ℕ) (room counted : ℕ) → counted ≡ min (length piece) room → take counted piece ≡ take room piece
take-min piece room counted is = ⊎_elim
    (λ (short : _). ap (λ n. take n piece) (let e : counted ≡ room = omega (arith, short.1) in e))
    (λ (long : _). take_all counted piece (omega (arith, long.1)) ∙ sym (take_all room piece (omega (arith, long.1))))
    (leb_tells room (length piece))

some_chars : (text : List ℕ) → IsUtf8 text → 0 < length text → (c : ℕ) × (cs : List ℕ) × (chars text ≡ c ∷ cs)
some_chars text utf8 some = by_chars (chars text) refl
  where
    by_chars : (cs : List ℕ) → chars text ≡ cs → (c : ℕ) × (rest : List ℕ) × (chars text ≡ c ∷ rest)
    by_chars [] is = let none : text ≡ [] = sym (encodes-chars text utf8) ∙ ap encode_utf8_all is in absurd (omega (arith, ap length none))
    by_chars (c ∷ cs) is = (c, cs, is)

mark_gone : (c : ℕ) (cs more : List ℕ) → without_mark ((c ∷ cs) ++ more) ≡ without_mark (c ∷ cs) ++ more
mark_gone c cs more = by_test (c == 0xFEFF)
  where
    by_test : (b : Bool) → (if b then cs ++ more else c ∷ (cs ++ more)) ≡ (if b then cs else c ∷ cs) ++ more
    by_test true = refl
    by_test false = refl

-- the mark counts at the start alone
mark_at : (read more : List ℕ) (start : Bool) → start ≡ (utf8_valid_len read == 0) → without_mark (chars (front read) ++ more) ≡ without_mark (chars (front read)) ++ (if start then without_mark more else more)
mark_at read more start is = by_test (utf8_valid_len read == 0) refl
  where
    by_test : (b : Bool) → (utf8_valid_len read == 0) ≡ b → without_mark (chars (front read) ++ more) ≡ without_mark (chars (front read)) ++ (if start then without_mark more else more)
    by_test true zero =
        let none : chars (front read) ≡ [] = ap (λ n. chars (take n read)) (eqb-true (utf8_valid_len read) 0 zero) ∙ chars-nil in
        rw (is, zero, none) refl
    by_test false some =
        let has = some_chars (front read) (front-text read) (let ne = eqb-false (utf8_valid_len read) 0 some in omega (arith, front_len read)) in
        rw (is, some, has.2) (mark_gone has.0 has.1 more)

past_same : (limit read room piece : ℕ) → room + read ≡ limit → nat_lt limit (read + piece) ≡ nat_lt room piece
past_same limit read room piece is = grind (arith, nat_tests)

longer_same : (held piece room counted looked bytes seen : ℕ) → counted ≡ min piece room → looked ≡ min piece (room + 1) → bytes ≡ held + counted → seen ≡ held + looked
    → nat_lt bytes seen ≡ nat_lt room piece
longer_same held piece room counted looked bytes seen c l b s = grind (arith, nat_tests)

not_longer : (so_far longer : Bool) → (if so_far then (if longer then Some Long else None) else Some Bad) ≡ None → longer ≡ false
not_longer true true is = absurd (cc is)
not_longer true false is = refl
not_longer false longer is = absurd (cc is)

pub record Grown (limit : ℕ) (d' : Decoder) (read piece text : List ℕ) : Type 0 where
  pub has : HasRead limit d' (read ++ piece)
  pub text_is : text_of limit (read ++ piece) ≡ text_of limit read ++ text

both_zero : (a b c : ℕ) (start : Bool) → start ≡ (a == 0) → c ≡ a + b → (start && (b == 0)) ≡ (c == 0)
both_zero a b c start is sum = rw is (grind (arith, nat_tests))

-- `looked` is the decoder that has looked at the piece, `d'` the same with less room.
pub grows : (d looked d' : Decoder) (limit : ℕ) (read piece text : List ℕ) (ending : Option Ending) (counted to : ℕ) → HasRead limit d read → d.shown ≡ None
    → counted ≡ min (length piece) d.room → to ≡ min (length piece) (d.room + 1)
    → Looked d looked (d.held.items ++ take counted piece) (d.held.items ++ take to piece) text ending
    → d'.held.items ≡ looked.held.items → d'.room ≡ d.room - counted → d'.at_start ≡ looked.at_start → d'.shown ≡ looked.shown
    → Grown limit d' read piece text
grows d looked d' limit read piece text ending counted to has none counted_is to_is looks held_is room_is start_is shown_is =
    let open_now = has.open_yet none in
    let room = open_now.room in
    let first : List ℕ = front read in
    let bytes : List ℕ = d.held.items ++ take counted piece in
    let seen : List ℕ = d.held.items ++ take to piece in
    let whole : first ++ d.held.items ≡ read = ap (λ l. first ++ l) open_now.held ∙ split read in
    let joined : (n : ℕ) → read ++ take n piece ≡ first ++ (d.held.items ++ take n piece) =
    λ n. ap (λ l. l ++ take n piece) (sym whole) ∙ append_assoc first d.held.items (take n piece) in
    let firsts : take limit (read ++ piece) ≡ first ++ bytes =
    ap (λ n. take n (read ++ piece)) (let e : limit ≡ length read + d.room = omega arith in e) ∙ take-append-add read piece d.room ∙ ap (λ l. read ++ l) (sym (take-min piece d.room counted counted_is))
    ∙ joined counted in
    let looks_at : take (limit + 1) (read ++ piece) ≡ first ++ seen =
    ap (λ n. take n (read ++ piece)) (let e : limit + 1 ≡ length read + (d.room + 1) = omega arith in e) ∙ take-append-add read piece (d.room + 1)
    ∙ ap (λ l. read ++ l) (sym (take-min piece (d.room + 1) to to_is)) ∙ joined to in
    let past : nat_lt limit (length (read ++ piece)) ≡ nat_lt (length bytes) (length seen) =
    ap (λ n. nat_lt limit n) (length-append read piece) ∙ past_same limit (length read) d.room (length piece) room ∙ sym longer_is in
    record {
      text_is = ap (λ l. without_mark (chars (front l))) firsts ∙ ap (λ l. without_mark (chars l)) (front-after first bytes (front-text read)) ∙ ap without_mark (chars-append first (front bytes) (front-text read))
          ∙ mark_at read (chars (front bytes)) d.at_start open_now.start
          ∙ ap (λ l. without_mark (chars (front l)) ++ (if d.at_start then without_mark (chars (front bytes)) else chars (front bytes))) (sym (take_all limit read (omega arith)))
          ∙ ap (λ l. text_of limit read ++ l) (sym looks.text_is);
      has = record {
        shown = shown_is ∙ looks.shown ∙ sym (rw (looks_at, so_far-after first seen (front-text read), past) refl);
        open_yet = λ still. opened (not_longer (is_text_so_far seen) (nat_lt (length bytes) (length seen)) (sym looks.shown ∙ sym shown_is ∙ still));
      };
    }
  where
    longer_is : nat_lt (length (d.held.items ++ take counted piece)) (length (d.held.items ++ take to piece)) ≡ nat_lt d.room (length piece)
    longer_is = longer_same (length d.held.items) (length piece) d.room counted to _ _ counted_is to_is
        (omega (arith, length-append d.held.items (take counted piece), length-take counted piece)) (omega (arith, length-append d.held.items (take to piece), length-take to piece))

    opened : nat_lt (length (d.held.items ++ take counted piece)) (length (d.held.items ++ take to piece)) ≡ false → IsOpen limit d' (read ++ piece)
    opened within_is =
        let open_now = has.open_yet none in
        let room = open_now.room in
        let first : List ℕ = front read in
        let bytes : List ℕ = d.held.items ++ take counted piece in
        let within = ltb-false d.room (length piece) (sym longer_is ∙ within_is) in
        let all : read ++ piece ≡ first ++ bytes =
        ap (λ l. l ++ piece) (sym (ap (λ l. first ++ l) open_now.held ∙ split read)) ∙ append_assoc first d.held.items piece
        ∙ ap (λ l. first ++ (d.held.items ++ l)) (sym (take_all counted piece (omega arith))) in
        let len : ℕ = utf8_valid_len bytes in
        let sum : utf8_valid_len (read ++ piece) ≡ utf8_valid_len read + len =
        ap utf8_valid_len all ∙ valid_len-after first bytes (front-text read) ∙ (let e : length first + utf8_valid_len bytes ≡ utf8_valid_len read + len = omega (arith, front_len read) in e) in
        record {
          room = omega (arith, length-append read piece);
          held = held_is ∙ looks.held ∙ sym (rest-after first bytes (front-text read)) ∙ ap (λ l. drop (utf8_valid_len l) l) (sym all);
          start = start_is ∙ looks.start ∙ both_zero (utf8_valid_len read) len (utf8_valid_len (read ++ piece)) d.at_start open_now.start sum;
        }

pub take-rest : (bs : List ℕ) (n : ℕ) → take (length bs - n) (drop n bs) ≡ drop n bs
take-rest bs n = take_all (length bs - n) (drop n bs) (omega (arith, length-drop n bs))

-- the held bytes and more
pub looked_joined : (d d' : Decoder) (looked all text : List ℕ) (ending : Option Ending) (counted to : ℕ) → all ≡ d.held.items ++ looked → to ≡ length all - (length looked - counted) → counted ≤ length looked
    → Looked d d' (take to all) all text ending → Looked d d' (d.held.items ++ take counted looked) (d.held.items ++ looked) text ending
looked_joined d d' looked all text ending counted to all_is to_is within is =
    let same : take to all ≡ d.held.items ++ take counted looked =
    ap (λ l. take to l) all_is ∙ ap (λ n. take n (d.held.items ++ looked)) (let e : to ≡ length d.held.items + counted = omega (arith, ap length all_is, length-append d.held.items looked) in e)
    ∙ take-append-add d.held.items looked counted in
    rw (← same, ← all_is) is

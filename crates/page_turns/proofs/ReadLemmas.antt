-- The page as it is read piece by piece.
use Rattle.std.proofs.Common.{◌≡◌, ℕ, zero, suc, ◌≤◌, ◌<◌, ◌+◌, ◌-◌, ◌*◌, List, [], ◌∷◌, ◌++◌, length, take, Bool, true, false, Option, Some, None, Ok, IfSome, refl, sym, ap, subst, ◌∙◌, append_assoc, append-nil, length-append, length-take, min, arith}
use Rattle.std.specs.Prelude.{nat_lt, if◌then◌else◌, ◌==◌}
use Rattle.std.specs.Str.{chars, chars_after, continuation_len, lead_bits}
use Rattle.std.specs.Str.Lossy.{utf8_valid_len}
use Rattle.std.proofs.lemmas.Bool.{ltb-false}
use Rattle.std.proofs.lemmas.List.{take_all}
use Rattle.std.proofs.lemmas.Str.{IsUtf8-nil}
use Rattle.html_types.specs.declared.ending.Ending.{Ending}
use Rattle.html_types.specs.declared.ending.Ending.TheVariants as ending
use Rattle.outside.specs.Outside.{Rose, Seen, KeepsOthers, Call, reads}
use Rattle.outside.specs.declared.traits.Port.TheVariants as port
use Rattle.serial.specs.Page.{Page, front, without_mark, text_of, ending_of, shown, is_text_so_far}
use Rattle.utf8_pieces.specs.Decoder.{HasRead}
use Rattle.utf8_pieces.proofs.DecoderLemmas.{text_is_so_far, not_lt}
use Rattle.utf8_pieces.proofs.PageLaws.{text_of-nil, text_of-extends, shown-stays}
use Rattle.core_definitions.specs.Core.{joined}
use Rattle.page_turns.specs.declared.page.TheConstants.{PAGE_LIMIT}
use Rattle.page_turns.specs.declared.reader.PageReader.{PageReader}
use Rattle.page_turns.specs.Calls.{CallsAt, AreReads, given_first, ReadWithin}
use Rattle.page_turns.specs.Given.{FaultsRose, NoFault}
use Rattle.page_turns.specs.Pages.{PageRead, AreTaken, ReadsOn, GivenFirst, IsReadFrom, ClosesAt, IsReading, IsUnread, PageOpen, PageFor, PageAt}
use Rattle.page_turns.proofs.CallLemmas.{called_none, called_then, called_stays, within_all, within_last, reads_then, given_more, given_none}
use Rattle.page_turns.proofs.PageTakenLemmas.{taken_none, taken_then, taken_nothing_more, all_bytes, read_whole, read_to_fault, all_read}

-- ---- how long a text is

mutual
  unfolding chars

  chars-le : (bs : List ℕ) → length (chars bs) ≤ length bs
  chars-le [] = omega arith
  chars-le (b ∷ bs) = chars_after-le (continuation_len b) (lead_bits b) bs

  chars_after-le : (n c : ℕ) (bs : List ℕ) → length (chars_after n c bs) ≤ suc (length bs)
  chars_after-le zero c [] = omega arith
  chars_after-le zero c (b ∷ bs) = let le : length (chars_after (continuation_len b) (lead_bits b) bs) ≤ suc (length bs) = chars_after-le (continuation_len b) (lead_bits b) bs in omega (arith, le)
  chars_after-le (suc n) c [] = omega arith
  chars_after-le (suc n) c (b ∷ bs) = let le : length (chars_after n (c * 64 + (b - 128)) bs) ≤ suc (length bs) = chars_after-le n (c * 64 + (b - 128)) bs in omega (arith, le)

mark-le : (cs : List ℕ) → length (without_mark cs) ≤ length cs
mark-le [] = omega arith
mark-le (c ∷ cs) = by (c == 0xFEFF)
  where
    by : (b : Bool) → length (if b then cs else c ∷ cs) ≤ suc (length cs)
    by true = omega arith
    by false = omega arith

pub text-le : (limit : ℕ) (bytes : List ℕ) → length (text_of limit bytes) ≤ limit
text-le limit bytes =
    let marked = mark-le (chars (front (take limit bytes))) in
    let decoded = chars-le (front (take limit bytes)) in
    omega (arith, length-take (utf8_valid_len (take limit bytes)) (take limit bytes), length-take limit bytes)

-- ---- before the first read

shown-nil : (limit : ℕ) → shown limit [] ≡ None
shown-nil limit = rw (take_all {A = ℕ} (limit + 1) [] (omega arith), text_is_so_far [] IsUtf8-nil, not_lt limit 0 (omega arith)) refl

pub first_open : (before : Seen) (reader : PageReader) → IsUnread reader → PageOpen before before reader []
first_open before reader unread = record {
  reading = record {
    read = [];
    decoded = unread.decoded;
    open_yet = shown-nil PAGE_LIMIT;
    text = sym (text_of-nil PAGE_LIMIT);
    left_is = let left = unread.left in omega arith;
  };
  so_far = taken_none (before.left port.Page);
  quiet = refl;
  calls = [];
  made = called_none (before.calls port.Page) (before.calls port.Page) refl;
  reads_all = tt;
  count = refl;
}

-- ---- how much may be read

-- some bytes may still be read
still_room : (limit room : ℕ) (read : List ℕ) → shown limit read ≡ None → room + length read ≡ limit + 1 → 0 < room
still_room limit room read open_yet is = by_test (is_text_so_far (take (limit + 1) read)) (nat_lt limit (length read)) refl open_yet
  where
    by_test : (so_far long : Bool) → nat_lt limit (length read) ≡ long → (if so_far then (if long then Some ending.Long else None) else Some ending.Bad) ≡ None → 0 < room
    by_test false long told h = absurd (cc h)
    by_test true true told h = absurd (cc h)
    by_test true false told h = let short = ltb-false limit (length read) told in omega arith

pub has_room : (reader : PageReader) (pieces : List (List ℕ)) (room : List ℕ) (most : ℕ) → IsReading reader pieces → 0 < length room → most ≡ min (length room) reader.left → 0 < length (take most room)
has_room reader pieces room most at some is = let still = still_room PAGE_LIMIT reader.left at.read at.open_yet at.left_is in omega (arith, length-take most room)

-- and so many are asked for
pub asked_is : (reader : PageReader) (room : List ℕ) (most : ℕ) → most ≡ min (length room) reader.left → length (take most room) ≡ min (length room) reader.left
asked_is reader room most is = omega (arith, is, length-take most room)

-- ---- the page so far

module _ (before now : Seen) (reader : PageReader) (pieces : List (List ℕ)) where
  -- what was read begins a page
  pub open_for : PageOpen before now reader pieces → PageFor before now pieces None
  open_for at =
      let rest = all_bytes (before.left port.Page) (now.left port.Page) at.reading.read at.so_far in
      let ext = text_of-extends PAGE_LIMIT at.reading.read rest.0 in
      record {
        page = record { bytes = at.reading.read ++ rest.0; fault = false };
        read_from = read_whole before now (at.reading.read ++ rest.0) rest.1 at.quiet;
        is = (ext.0, ext.1 ∙ ap (λ t. t ++ ext.0) (sym at.reading.text));
        read = record { read = at.reading.read; taken = at.so_far; at_most = let is = at.reading.left_is in omega arith };
        within = record { calls = at.calls; made = at.made; within = within_all PAGE_LIMIT 0 at.calls at.reads_all (let is = at.reading.left_is in let count = at.count in omega arith) };
      }

  pub page_for : (o : Option Ending) → PageAt before now reader pieces o → PageFor before now pieces o
  page_for None at = open_for at
  page_for (Some e) at = at

pub forget : (before now : Seen) (pieces : List (List ℕ)) (e : Ending) → PageFor before now pieces (Some e) → PageFor before now pieces None
forget before now pieces e for = record { page = for.page; read_from = for.read_from; is = ([], ap (λ (p : Page). p.text) for.is ∙ sym (append-nil (joined pieces))); read = for.read; within = for.within }

-- the port of the scripts was read
read_from_past : (before now after : Seen) (page : PageRead) → KeepsOthers port.Script now after → IsReadFrom before now page → IsReadFrom before after page
read_from_past before now after page keeps from = record {
  all = from.all;
  no_fault = λ e. keeps.other_faults port.Page (λ e. cc e) ∙ from.no_fault e;
  cut = λ e. subst (λ left. AreTaken (before.left port.Page) left page.bytes) (sym (keeps.left port.Page (λ e. cc e))) (from.cut e);
  cause = λ e. subst (λ n. Rose (before.faults port.Page) n) (sym (keeps.other_faults port.Page (λ e. cc e))) (from.cause e);
  first = λ e. first_past (from.first e);
}
  where
    first_past : GivenFirst before now page.bytes → GivenFirst before after page.bytes
    first_past g = record { calls = g.calls; made = called_stays _ _ _ g.calls g.made (keeps.calls port.Page (λ e. cc e)); count = g.count }

pub for_past : (before now after : Seen) (pieces : List (List ℕ)) (o : Option Ending) → KeepsOthers port.Script now after → PageFor before now pieces o → PageFor before after pieces o
for_past before now after pieces o keeps for = record {
  page = for.page;
  read_from = read_from_past before now after for.page keeps for.read_from;
  is = for.is;
  read = record {
    read = for.read.read;
    taken = subst (λ left. AreTaken (before.left port.Page) left for.read.read) (sym (keeps.left port.Page (λ e. cc e))) for.read.taken;
    at_most = for.read.at_most;
  };
  within = record { calls = for.within.calls; made = called_stays _ _ _ for.within.calls for.within.made (keeps.calls port.Page (λ e. cc e)); within = for.within.within };
}

pub at_past : (before now after : Seen) (reader : PageReader) (pieces : List (List ℕ)) (o : Option Ending) → KeepsOthers port.Script now after → PageAt before now reader pieces o → PageAt before after reader pieces o
at_past before now after reader pieces None keeps at = record {
  reading = at.reading;
  so_far = subst (λ left. AreTaken (before.left port.Page) left at.reading.read) (sym (keeps.left port.Page (λ e. cc e))) at.so_far;
  quiet = keeps.other_faults port.Page (λ e. cc e) ∙ at.quiet;
  calls = at.calls;
  made = called_stays _ _ _ at.calls at.made (keeps.calls port.Page (λ e. cc e));
  reads_all = at.reads_all;
  count = at.count;
}
at_past before now after reader pieces (Some e) keeps for = for_past before now after pieces (Some e) keeps for

-- ---- a read

pub joined-more : (ts : List (List ℕ)) (t : List ℕ) → joined (ts ++ t ∷ []) ≡ joined ts ++ t
joined-more [] t = append-nil t
joined-more (u ∷ us) t = ap (λ x. u ++ x) (joined-more us t) ∙ sym (append_assoc u (joined us) t)

module _ (before now after : Seen) (reader : PageReader) (pieces : List (List ℕ)) (at : PageOpen before now reader pieces) where
  abbrev read : List ℕ
  read = at.reading.read

  -- no more bytes came
  ends_here : (fault : Bool) → AreTaken (now.left port.Page) (after.left port.Page) [] → (fault ≡ false → IfSome (now.left port.Page) (λ rest. rest ≡ [])) → (fault ≡ false → NoFault port.Page now after) → (fault ≡ true → FaultsRose port.Page now after)
      → GivenFirst before after read → IsReadFrom before after (record { bytes = read; fault = fault })
  ends_here true nothing none quiet there first = read_to_fault before after read (taken_nothing_more (before.left port.Page) (now.left port.Page) (after.left port.Page) read at.so_far nothing)
      (subst (λ k. Rose k (after.faults port.Page)) at.quiet (there refl)) first
  ends_here false nothing none quiet there first = read_whole before after read (all_read (before.left port.Page) (now.left port.Page) read at.so_far (none refl)) (quiet refl ∙ at.quiet)

  pub closed : (e : Ending) → ClosesAt now after read e → PageFor before after pieces (Some e)
  closed e closes = record {
    page = record { bytes = read; fault = closes.fault };
    read_from = ends_here closes.fault closes.nothing closes.end closes.no_fault closes.cause (record {
      calls = at.calls ++ reads closes.most closes.answer ∷ [];
      made = made_all;
      count = at.count ∙ sym (given_none at.calls closes.most closes.answer at.reads_all closes.gave_none);
    });
    is = ap (λ t. record { text = t; ending = ending_of PAGE_LIMIT read closes.fault }) (sym at.reading.text) ∙ ap (λ x. record { text = joined pieces; ending = x }) (sym closes.ending);
    read = record {
      read = read;
      taken = taken_nothing_more (before.left port.Page) (now.left port.Page) (after.left port.Page) read at.so_far closes.nothing;
      at_most = let is = at.reading.left_is in omega arith;
    };
    within = record {
      calls = at.calls ++ reads closes.most closes.answer ∷ [];
      made = made_all;
      within = within_last PAGE_LIMIT 0 closes.most at.calls closes.answer at.reads_all (let is = at.reading.left_is in let count = at.count in omega arith) closes.gave_none;
    };
  }
    where
      made_all : CallsAt port.Page before after (at.calls ++ reads closes.most closes.answer ∷ [])
      made_all = called_then _ _ _ at.calls _ at.made closes.made

  -- a piece came
  module _ (n : ℕ) (piece : List ℕ) (size : length piece ≡ n) (fits : n ≤ reader.left) (taken : AreTaken (now.left port.Page) (after.left port.Page) piece) (quiet : NoFault port.Page now after)
      (most : ℕ) (made : CallsAt port.Page now after (reads most (Ok n) ∷ [])) where
    abbrev calls_now : List Call
    calls_now = at.calls ++ reads most (Ok n) ∷ []

    made_now : CallsAt port.Page before after calls_now
    made_now = called_then _ _ _ at.calls _ at.made made

    reads_now : AreReads calls_now
    reads_now = reads_then at.calls (reads most (Ok n) ∷ []) at.reads_all tt

    count_now : length (read ++ piece) ≡ given_first calls_now
    count_now = let is = given_more at.calls most n at.reads_all in let count = at.count in omega (arith, is, count, size, length-append read piece)

    within_now : ReadWithin PAGE_LIMIT 0 port.Page before after
    within_now = record {
      calls = calls_now;
      made = made_now;
      within = within_all PAGE_LIMIT 0 calls_now reads_now (let is = at.reading.left_is in let count = count_now in omega (arith, count, size, length-append read piece));
    }

    more_read : AreTaken (before.left port.Page) (after.left port.Page) (read ++ piece)
    more_read = taken_then (before.left port.Page) (now.left port.Page) (after.left port.Page) read piece at.so_far taken

    reads_on : ReadsOn (PAGE_LIMIT + 1) (before.left port.Page) (after.left port.Page)
    reads_on = record { read = read ++ piece; taken = more_read; at_most = let is = at.reading.left_is in omega (arith, length-append read piece) }

    -- memory ran out
    pub piece_cut : PageFor before after pieces None
    piece_cut =
        let rest = all_bytes (before.left port.Page) (after.left port.Page) (read ++ piece) more_read in
        let ext = text_of-extends PAGE_LIMIT read (piece ++ rest.0) in
        record {
          page = record { bytes = read ++ (piece ++ rest.0); fault = false };
          read_from = read_whole before after (read ++ (piece ++ rest.0)) (subst (λ bytes. IfSome (before.left port.Page) (λ all. all ≡ bytes)) (append_assoc read piece rest.0) rest.1) (quiet ∙ at.quiet);
          is = (ext.0, ext.1 ∙ ap (λ t. t ++ ext.0) (sym at.reading.text));
          read = reads_on;
          within = within_now;
        }

    module _ (text : List ℕ) (gives : text_of PAGE_LIMIT (read ++ piece) ≡ text_of PAGE_LIMIT read ++ text) where
      joined_is : joined (pieces ++ text ∷ []) ≡ text_of PAGE_LIMIT (read ++ piece)
      joined_is = joined-more pieces text ∙ ap (λ t. t ++ text) at.reading.text ∙ sym gives

      pub piece_open : (reader' : PageReader) → HasRead PAGE_LIMIT reader'.decoder (read ++ piece) → shown PAGE_LIMIT (read ++ piece) ≡ None → reader'.left + n ≡ reader.left → PageOpen before after reader' (pieces ++ text ∷ [])
      piece_open reader' decoded open_yet left = record {
        reading = record {
          read = read ++ piece;
          decoded = decoded;
          open_yet = open_yet;
          text = joined_is;
          left_is = let is = at.reading.left_is in omega (arith, length-append read piece);
        };
        so_far = more_read;
        quiet = quiet ∙ at.quiet;
        calls = calls_now;
        made = made_now;
        reads_all = reads_now;
        count = count_now;
      }

      pub piece_shut : (e : Ending) → shown PAGE_LIMIT (read ++ piece) ≡ Some e → PageFor before after (pieces ++ text ∷ []) (Some e)
      piece_shut e shows =
          let rest = all_bytes (before.left port.Page) (after.left port.Page) (read ++ piece) more_read in
          let stays = shown-stays PAGE_LIMIT (read ++ piece) rest.0 e shows in
          let is : ending_of PAGE_LIMIT ((read ++ piece) ++ rest.0) false ≡ e = rw stays.0 refl in
          record {
            page = record { bytes = (read ++ piece) ++ rest.0; fault = false };
            read_from = read_whole before after ((read ++ piece) ++ rest.0) rest.1 (quiet ∙ at.quiet);
            is = ap (λ x. record { text = text_of PAGE_LIMIT ((read ++ piece) ++ rest.0); ending = x }) is ∙ ap (λ t. record { text = t; ending = e }) (stays.1 ∙ sym joined_is);
            read = reads_on;
            within = within_now;
          }

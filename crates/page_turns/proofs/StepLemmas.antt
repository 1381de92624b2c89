-- What reading on and running on come to.
use Rattle.std.proofs.Common.{◌≡◌, ℕ, ◌≤◌, ◌<◌, ◌+◌, List, [], ◌∷◌, ◌++◌, length, take, flat_map, Bool, true, Option, Some, None, Ok, refl, sym, ap, subst, ◌∙◌, append_assoc, append-nil, length-append, length-take, arith}
use Rattle.std.proofs.lemmas.List.{take-append-le}
use Rattle.html_types.specs.declared.ending.Ending.{Ending}
use Rattle.serial.specs.declared.script.Line.{Line}
use Rattle.outside.specs.Outside.{Seen, reads}
use Rattle.outside.specs.declared.traits.Port.TheVariants as port
use Rattle.serial.specs.Output.{line_text}
use Rattle.serial.specs.Page.{text_of, shown}
use Rattle.utf8_pieces.specs.Decoder.{HasRead}
use Rattle.core_definitions.specs.declared.event.Event.{Event}
use Rattle.core_definitions.specs.declared.event.Event.TheVariants as event
use Rattle.core_definitions.specs.Batches.{of_text, of_ending}
use Rattle.core_definitions.specs.Core.{joined}
use Rattle.core_definitions.specs.Desk.{Desk}
use Rattle.core_steps.specs.Sides.{Shown, with_piece, with_ending, journaled, DoesShow, left_to_do}
use Rattle.page_turns.specs.declared.page.TheConstants.{PAGE_LIMIT}
use Rattle.page_turns.specs.declared.reader.PageReader.{PageReader}
use Rattle.page_turns.specs.Calls.{CallsAt}
use Rattle.page_turns.specs.Given.{NoFault}
use Rattle.page_turns.specs.Taken.{Took, TookFront}
use Rattle.page_turns.specs.Pages.{AreTaken, ClosesAt, IsReading, PageOpen, PageFor, PageAt}
use Rattle.page_turns.specs.Turns.{while_open, Handed, ReadsPiece, ReadsInPart, StaysRead, RunsOn, RunsInPart, part_written}
use Rattle.page_turns.proofs.ReadLemmas.{text-le, joined-more, forget, closed, piece_cut, piece_open, piece_shut}

-- ---- what stays

pub stays_spent : (old new : Shown) → new ≡ record old { spent = true } → StaysRead old new
stays_spent old new is = subst (λ z. StaysRead old z) (sym is) refl

pub stays_journaled : (v : Event) (d : Desk) (old new : Shown) → new ≡ journaled v d old → StaysRead old new
stays_journaled v d old new is = subst (λ z. StaysRead old z) (sym is) refl

-- ---- running on

module _ (t t' : Option (List ℕ)) (old mid new : Shown) (lines : List Line) (did : mid ≡ journaled event.Do mid.desk old) (given : mid.desk.own.side.lines ≡ mid.given ++ lines) (taken : new ≡ record mid { given = mid.given ++ lines }) where
  desk_is : new.desk ≡ mid.desk
  desk_is = ap (λ (z : Shown). z.desk) taken

  lines_are : new.desk.own.side.lines ≡ old.given ++ lines
  lines_are = ap (λ (z : Desk). z.own.side.lines) desk_is ∙ given ∙ ap (λ (z : Shown). z.given ++ lines) did

  others_are : new ≡ record (journaled event.Do new.desk old) { given = new.desk.own.side.lines }
  others_are =
      taken
      ∙ ap (λ (z : Shown). record z { given = mid.given ++ lines }) did
      ∙ ap (λ d. record (journaled event.Do d old) { given = mid.given ++ lines }) (sym desk_is)
      ∙ ap (λ g. record (journaled event.Do new.desk old) { given = g }) (sym given ∙ ap (λ (z : Desk). z.own.side.lines) (sym desk_is))

  pub ran_on : DoesShow old.entities old.journal.fetches old.desk mid.desk → left_to_do mid.desk < left_to_do old.desk → Took t t' (flat_map line_text lines) → RunsOn t t' old new
  ran_on does less took = record {
    does = subst (λ d. DoesShow old.entities old.journal.fetches old.desk d) (sym desk_is) does;
    others = others_are;
    less = subst (λ d. left_to_do d < left_to_do old.desk) (sym desk_is) less;
    more = lines;
    lines = lines_are;
    took = took;
  }

  pub ran_cut : TookFront t t' (flat_map line_text lines) → RunsInPart t t' old new
  ran_cut took = part_written lines others_are lines_are took

  pub stays_ran : StaysRead old new
  stays_ran = subst (λ z. StaysRead old z) (sym others_are) refl

-- ---- reading on

-- the front of the room is the piece
pub piece-taken : (left left' : Option (List ℕ)) (front tail now : List ℕ) (n : ℕ) → now ≡ front ++ tail → n ≤ length front → AreTaken left left' (take n front) → AreTaken left left' (take n now)
piece-taken left left' front tail now n is fits taken = subst (λ x. AreTaken left left' (take n x)) (sym is) (rw (take-append-le n front tail fits) taken)

pub front-fits : (front tail : List ℕ) (n : ℕ) → n ≤ length front → n ≤ length (front ++ tail)
front-fits front tail n fits = omega (arith, fits, length-append front tail)

pub piece-length : (front tail now : List ℕ) (n : ℕ) → now ≡ front ++ tail → n ≤ length front → length (take n now) ≡ n
piece-length front tail now n is fits = omega (arith, length-take n now, ap (λ x. length x) is, length-append front tail)

open-le : (o : Option Ending) → while_open o ≤ 9
open-le None = omega arith
open-le (Some e) = omega arith

handed_end : (reader reader' : PageReader) (old : Shown) (e : Ending) → length (joined old.journal.pieces) ≤ PAGE_LIMIT → reader'.left ≡ reader.left → Handed reader reader' old (with_ending e old)
handed_end reader reader' old e within left = record {
  pieces = of_ending e ∷ [];
  desk = refl;
  text = sym (append-nil (joined old.journal.pieces));
  within = within;
  others = refl;
  less = omega (arith, left);
}

module _ (reader reader' : PageReader) (old : Shown) (n : ℕ) (text : List ℕ) (some : 0 < n) (left : reader'.left + n ≡ reader.left) (within : length (joined (old.journal.pieces ++ text ∷ [])) ≤ PAGE_LIMIT) where
  handed_piece : Handed reader reader' old (with_piece text old)
  handed_piece = record {
    pieces = of_text text ∷ [];
    desk = refl;
    text = joined-more old.journal.pieces text ∙ ap (λ x. joined old.journal.pieces ++ x) (sym (append-nil text));
    within = within;
    others = refl;
    less = let le = open-le old.journal.ending in omega (arith, left, some);
  }

  handed_both : (e : Ending) → Handed reader reader' old (with_ending e (with_piece text old))
  handed_both e = record {
    pieces = of_text text ∷ of_ending e ∷ [];
    desk = ap (λ ys. record old.desk { to_send = ys }) (append_assoc old.desk.to_send (of_text text ∷ []) (of_ending e ∷ []));
    text = joined-more old.journal.pieces text ∙ ap (λ x. joined old.journal.pieces ++ x) (sym (append-nil text));
    within = within;
    others = refl;
    less = omega (arith, left, some);
  }

reading-within : (reader : PageReader) (pieces : List (List ℕ)) → IsReading reader pieces → length (joined pieces) ≤ PAGE_LIMIT
reading-within reader pieces at = let le = text-le PAGE_LIMIT at.read in let is = at.text in omega (arith, le, ap (λ t. length t) is)

module _ (now after : Seen) (reader : PageReader) (old : Shown) (reading : IsReading reader old.journal.pieces) where
  none_handed : (spent : Bool) (new : Shown) → new ≡ record old { spent = spent } → ((before : Seen) → PageOpen before now reader old.journal.pieces → PageFor before after old.journal.pieces None) → ReadsInPart now after reader old new
  none_handed spent new is at = subst (λ z. ReadsInPart now after reader old z) (sym is) (record { at = at; own = refl; others = refl })

  -- no more bytes came
  module _ (e : Ending) (closes : (read : List ℕ) → HasRead PAGE_LIMIT reader.decoder read → ClosesAt now after read e) where
    pub reads_end : (reader' : PageReader) (new : Shown) → reader'.left ≡ reader.left → new ≡ with_ending e old → ReadsPiece now after reader reader' old new
    reads_end reader' new left is = subst (λ z. ReadsPiece now after reader reader' old z) (sym is) (record {
      handed = handed_end reader reader' old e (reading-within reader old.journal.pieces reading) left;
      at = λ before at. closed before now after reader old.journal.pieces at e (closes at.reading.read at.reading.decoded);
    })

    pub reads_end_cut : (new : Shown) → new ≡ record old { spent = true } → ReadsInPart now after reader old new
    reads_end_cut new is =
        none_handed true new is (λ before at. forget before after old.journal.pieces e (closed before now after reader old.journal.pieces at e (closes at.reading.read at.reading.decoded)))

  -- a piece came
  module _ (n : ℕ) (piece : List ℕ) (some : 0 < n) (size : length piece ≡ n) (fits : n ≤ reader.left) (taken : AreTaken (now.left port.Page) (after.left port.Page) piece) (quiet : NoFault port.Page now after)
      (most : ℕ) (made : CallsAt port.Page now after (reads most (Ok n) ∷ [])) where
    pub reads_cut : (spent : Bool) (new : Shown) → new ≡ record old { spent = spent } → ReadsInPart now after reader old new
    reads_cut spent new is = none_handed spent new is (λ before at. piece_cut before now after reader old.journal.pieces at n piece size fits taken quiet most made)

    module _ (text : List ℕ) (gives : (limit : ℕ) (read : List ℕ) → HasRead limit reader.decoder read → text_of limit (read ++ piece) ≡ text_of limit read ++ text) where
      text_within : length (joined (old.journal.pieces ++ text ∷ [])) ≤ PAGE_LIMIT
      text_within =
          let is : joined (old.journal.pieces ++ text ∷ []) ≡ text_of PAGE_LIMIT (reading.read ++ piece) =
          joined-more old.journal.pieces text ∙ ap (λ t. t ++ text) reading.text ∙ sym (gives PAGE_LIMIT reading.read reading.decoded) in
          let le = text-le PAGE_LIMIT (reading.read ++ piece) in
          subst (λ t. length t ≤ PAGE_LIMIT) (sym is) le

      -- so the document's side takes it
      pub piece_within : length (joined old.journal.pieces) + length text ≤ PAGE_LIMIT
      piece_within = let le = text_within in omega (arith, ap (λ t. length t) (joined-more old.journal.pieces text), length-append (joined old.journal.pieces) text)

      module _ (e : Option Ending) (shows : (limit : ℕ) (read : List ℕ) → HasRead limit reader.decoder read → e ≡ shown limit (read ++ piece)) where
        pub reads_open : (reader' : PageReader) (new : Shown) → e ≡ None → ((limit : ℕ) (read : List ℕ) → HasRead limit reader.decoder read → HasRead limit reader'.decoder (read ++ piece)) → reader'.left + n ≡ reader.left
            → old.journal.ending ≡ None → new ≡ with_piece text old → ReadsPiece now after reader reader' old new
        reads_open reader' new none has left open_ is = subst (λ z. ReadsPiece now after reader reader' old z) (sym is) (record {
          handed = handed_piece reader reader' old n text some left text_within;
          at = λ before at. subst (λ o. PageAt before after reader' (old.journal.pieces ++ text ∷ []) o) (sym open_)
              (piece_open before now after reader old.journal.pieces at n piece size fits taken quiet most made text (gives PAGE_LIMIT at.reading.read at.reading.decoded) reader'
              (has PAGE_LIMIT at.reading.read at.reading.decoded) (sym (shows PAGE_LIMIT at.reading.read at.reading.decoded) ∙ none) left);
        })

        pub reads_shut : (reader' : PageReader) (new : Shown) (ending : Ending) → e ≡ Some ending → reader'.left + n ≡ reader.left → new ≡ with_ending ending (with_piece text old) → ReadsPiece now after reader reader' old new
        reads_shut reader' new ending some_ left is = subst (λ z. ReadsPiece now after reader reader' old z) (sym is) (record {
          handed = handed_both reader reader' old n text some left text_within ending;
          at = λ before at. piece_shut before now after reader old.journal.pieces at n piece size fits taken quiet most made text (gives PAGE_LIMIT at.reading.read at.reading.decoded) ending
              (sym (shows PAGE_LIMIT at.reading.read at.reading.decoded) ∙ some_);
        })

        -- it was handed in, and the ending wasn't
        pub reads_shut_cut : (new : Shown) (ending : Ending) → e ≡ Some ending → new ≡ record (with_piece text old) { spent = true } → ReadsInPart now after reader old new
        reads_shut_cut new ending some_ is = subst (λ z. ReadsInPart now after reader old z) (sym is) (record {
          at = λ before at. forget before after (old.journal.pieces ++ text ∷ []) ending
              (piece_shut before now after reader old.journal.pieces at n piece size fits taken quiet most made text (gives PAGE_LIMIT at.reading.read at.reading.decoded) ending
              (sym (shows PAGE_LIMIT at.reading.read at.reading.decoded) ∙ some_));
          own = refl;
          others = refl;
        })

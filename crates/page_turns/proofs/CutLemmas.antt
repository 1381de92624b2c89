-- Each read of the page gives a piece.
use Rattle.std.proofs.Common.{◌≡◌, ◌<◌, ℕ, ◌+◌, ◌-◌, min, Bool, true, false, List, [], ◌∷◌, ◌++◌, length, Option, Some, None, Ok, IfSome, refl, sym, ap, subst, ◌∙◌, append_assoc, append-nil, length-append, arith}
use Rattle.html_types.specs.declared.ending.Ending.{Ending}
use Rattle.outside.specs.Outside.{Call, reads, Seen, KeepsOthers}
use Rattle.outside.specs.declared.traits.Port.TheVariants as port
use Rattle.serial.specs.Page.{text_of}
use Rattle.utf8_pieces.specs.Decoder.{HasRead}
use Rattle.core_definitions.specs.Core.{joined}
use Rattle.core_steps.specs.Sides.{Shown, with_piece, with_ending}
use Rattle.page_turns.specs.declared.page.TheConstants.{PAGE_LIMIT}
use Rattle.page_turns.specs.declared.reader.PageReader.{PageReader}
use Rattle.page_turns.specs.Calls.{CallsAt}
use Rattle.page_turns.specs.Pages.{AreTaken, ClosesAt, IsUnread}
use Rattle.page_turns.specs.Cuts.{GivesPiece, AreCut, IsLast, IsCut, IsCutSoFar, CutAt, CutsOn, CutsShort}
use Rattle.page_turns.proofs.CallLemmas.{called_none, called_then, called_stays}
use Rattle.page_turns.proofs.PageTakenLemmas.{taken_none, taken_then}
use Rattle.page_turns.proofs.ReadLemmas.{joined-more}

-- ---- one piece more

cut-more : (most : ℕ) (read : List ℕ) (parts : List (List ℕ)) (calls : List Call) (pieces : List (List ℕ)) (part piece : List ℕ) (call : Call) → AreCut most read parts calls pieces
    → GivesPiece most (read ++ joined parts) part call piece → AreCut most read (parts ++ part ∷ []) (calls ++ call ∷ []) (pieces ++ piece ∷ [])
cut-more most read [] [] [] part piece call cut gives = (subst (λ r. GivesPiece most r part call piece) (append-nil read) gives, tt)
cut-more most read (x ∷ parts) (c ∷ calls) (p ∷ pieces) part piece call (first, cut) gives =
    (first, cut-more most (read ++ x) parts calls pieces part piece call cut (subst (λ r. GivesPiece most r part call piece) (sym (append_assoc read x (joined parts))) gives))
cut-more most read parts calls pieces part piece call cut gives = absurd cut

front_of : (whole left : Option (List ℕ)) (read : List ℕ) → AreTaken whole left read → IfSome whole (λ all. (rest : List ℕ) × (all ≡ read ++ rest))
front_of None left read taken = tt
front_of (Some all) left read taken = (taken.so_far.0, taken.so_far.1)

-- ---- no read more

pub cut_now : (most : ℕ) (before now : Seen) (reader : PageReader) (pieces : List (List ℕ)) → IsCutSoFar most before now reader pieces → IsCut most false before now pieces
cut_now most before now reader pieces so_far = record {
  parts = so_far.parts;
  calls = so_far.calls;
  last = [];
  made = subst (λ cs. CallsAt port.Page before now cs) (sym (append-nil so_far.calls)) so_far.made;
  is_last = tt;
  cut = so_far.cut;
  front = front_of _ _ _ so_far.taken;
}

pub cut_at : (most : ℕ) (before now : Seen) (reader : PageReader) (pieces : List (List ℕ)) (o : Option Ending) → CutAt most before now reader pieces o → IsCut most false before now pieces
cut_at most before now reader pieces None at = cut_now most before now reader pieces at
cut_at most before now reader pieces (Some e) at = at

is-last : (calls : List Call) → IsLast false calls → IsLast true calls
is-last [] last = tt
is-last (reads most answer ∷ []) last = tt
is-last calls last = absurd last

-- where memory ran out later
pub cut_short : (most : ℕ) (before now : Seen) (pieces : List (List ℕ)) → IsCut most false before now pieces → IsCut most true before now pieces
cut_short most before now pieces c = record { parts = c.parts; calls = c.calls; last = c.last; made = c.made; is_last = is-last c.last c.is_last; cut = c.cut; front = c.front }

pub cut_first : (most : ℕ) (before : Seen) (reader : PageReader) → IsUnread reader → IsCutSoFar most before before reader []
cut_first most before reader unread = record {
  parts = [];
  calls = [];
  made = called_none _ _ refl;
  cut = tt;
  taken = taken_none (before.left port.Page);
  decoded = unread.decoded;
  left_is = let left = unread.left in omega arith;
}

-- the page stays as it is while another port is read
so-far-past : (most : ℕ) (before now after : Seen) (reader : PageReader) (pieces : List (List ℕ)) → KeepsOthers port.Script now after → IsCutSoFar most before now reader pieces → IsCutSoFar most before after reader pieces
so-far-past most before now after reader pieces keeps c = record {
  parts = c.parts;
  calls = c.calls;
  made = called_stays _ _ _ c.calls c.made (keeps.calls port.Page (λ e. cc e));
  cut = c.cut;
  taken = subst (λ left. AreTaken (before.left port.Page) left (joined c.parts)) (sym (keeps.left port.Page (λ e. cc e))) c.taken;
  decoded = c.decoded;
  left_is = c.left_is;
}

pub cut_past : (most : ℕ) (before now after : Seen) (ran_out : Bool) (pieces : List (List ℕ)) → KeepsOthers port.Script now after → IsCut most ran_out before now pieces → IsCut most ran_out before after pieces
cut_past most before now after ran_out pieces keeps c = record {
  parts = c.parts;
  calls = c.calls;
  last = c.last;
  made = called_stays _ _ _ (c.calls ++ c.last) c.made (keeps.calls port.Page (λ e. cc e));
  is_last = c.is_last;
  cut = c.cut;
  front = c.front;
}

pub cut_at_past : (most : ℕ) (before now after : Seen) (reader : PageReader) (pieces : List (List ℕ)) (o : Option Ending) → KeepsOthers port.Script now after → CutAt most before now reader pieces o → CutAt most before after reader pieces o
cut_at_past most before now after reader pieces None keeps at = so-far-past most before now after reader pieces keeps at
cut_at_past most before now after reader pieces (Some e) keeps at = cut_past most before now after false pieces keeps at

-- the journal has the same pieces
pub cut_at_same : (most : ℕ) (before now : Seen) (reader : PageReader) (ps ps' : List (List ℕ)) (o o' : Option Ending) → ps' ≡ ps → o' ≡ o → CutAt most before now reader ps o → CutAt most before now reader ps' o'
cut_at_same most before now reader ps ps' o o' p e at = subst (λ x. CutAt most before now reader x o') (sym p) (subst (λ y. CutAt most before now reader ps y) (sym e) at)

-- and so it ends
pub cut_as : (most : ℕ) (before now : Seen) (reader : PageReader) (ps ps' : List (List ℕ)) (o : Option Ending) → ps' ≡ ps → CutAt most before now reader ps o → IsCut most false before now ps'
cut_as most before now reader ps ps' o p at = subst (λ x. IsCut most false before now x) (sym p) (cut_at most before now reader ps o at)

pub cut_short_as : (most : ℕ) (before now : Seen) (reader : PageReader) (ps ps' : List (List ℕ)) (o : Option Ending) → ps' ≡ ps → CutAt most before now reader ps o → IsCut most true before now ps'
cut_short_as most before now reader ps ps' o p at = cut_short most before now ps' (cut_as most before now reader ps ps' o p at)

-- ---- a read more

module _ (most : ℕ) (before now after : Seen) (reader : PageReader) (pieces : List (List ℕ)) (so_far : IsCutSoFar most before now reader pieces) where
  -- one that gave none
  pub cut_end : (e : Ending) → ClosesAt now after (joined so_far.parts) e → IsCut most false before after pieces
  cut_end e closes = record {
    parts = so_far.parts;
    calls = so_far.calls;
    last = reads closes.most closes.answer ∷ [];
    made = called_then _ _ _ so_far.calls _ so_far.made closes.made;
    is_last = closes.gave_none;
    cut = so_far.cut;
    front = front_of _ _ _ so_far.taken;
  }

  module _ (asked n : ℕ) (part : List ℕ) (some : 0 < n) (size : length part ≡ n) (asks : asked ≡ min most reader.left) (taken : AreTaken (now.left port.Page) (after.left port.Page) part) (made : CallsAt port.Page now after (reads asked (Ok n) ∷ [])) where
    made_all : CallsAt port.Page before after (so_far.calls ++ reads asked (Ok n) ∷ [])
    made_all = called_then _ _ _ so_far.calls _ so_far.made made

    taken_all : AreTaken (before.left port.Page) (after.left port.Page) (joined so_far.parts ++ part)
    taken_all = taken_then _ _ _ (joined so_far.parts) part so_far.taken taken

    -- memory ran out before its piece was handed in
    pub cut_unused : IsCut most true before after pieces
    cut_unused = record {
      parts = so_far.parts;
      calls = so_far.calls;
      last = reads asked (Ok n) ∷ [];
      made = made_all;
      is_last = tt;
      cut = so_far.cut;
      front = front_of _ _ _ so_far.taken;
    }

    module _ (text : List ℕ) (gives : text_of PAGE_LIMIT (joined so_far.parts ++ part) ≡ text_of PAGE_LIMIT (joined so_far.parts) ++ text) where
      gives_piece : GivesPiece most (joined so_far.parts) part (reads asked (Ok n)) text
      gives_piece =
          let left = so_far.left_is in
          let room : asked ≡ min most (PAGE_LIMIT + 1 - length (joined so_far.parts)) = asks ∙ ap (λ k. min most k) (omega (arith, left)) in
          (subst (λ k. 0 < k) (sym size) some, ap (λ k. reads k (Ok n)) room ∙ ap (λ k. reads (min most (PAGE_LIMIT + 1 - length (joined so_far.parts))) (Ok k)) (sym size), gives)

      cut_all : AreCut most [] (so_far.parts ++ part ∷ []) (so_far.calls ++ reads asked (Ok n) ∷ []) (pieces ++ text ∷ [])
      cut_all = cut-more most [] so_far.parts so_far.calls pieces part text (reads asked (Ok n)) so_far.cut gives_piece

      parts_all : joined (so_far.parts ++ part ∷ []) ≡ joined so_far.parts ++ part
      parts_all = joined-more so_far.parts part

      pub cut_piece : (reader' : PageReader) → HasRead PAGE_LIMIT reader'.decoder (joined so_far.parts ++ part) → reader'.left + n ≡ reader.left → IsCutSoFar most before after reader' (pieces ++ text ∷ [])
      cut_piece reader' decoded left = record {
        parts = so_far.parts ++ part ∷ [];
        calls = so_far.calls ++ reads asked (Ok n) ∷ [];
        made = made_all;
        cut = cut_all;
        taken = subst (λ r. AreTaken (before.left port.Page) (after.left port.Page) r) (sym parts_all) taken_all;
        decoded = subst (λ r. HasRead PAGE_LIMIT reader'.decoder r) (sym parts_all) decoded;
        left_is = let was = so_far.left_is in omega (arith, was, left, size, ap (λ l. length l) parts_all, length-append (joined so_far.parts) part);
      }

      -- and the page ends with it
      pub cut_shut : IsCut most false before after (pieces ++ text ∷ [])
      cut_shut = record {
        parts = so_far.parts ++ part ∷ [];
        calls = so_far.calls ++ reads asked (Ok n) ∷ [];
        last = [];
        made = subst (λ cs. CallsAt port.Page before after cs) (sym (append-nil (so_far.calls ++ reads asked (Ok n) ∷ []))) made_all;
        is_last = tt;
        cut = cut_all;
        front = front_of _ _ _ (subst (λ r. AreTaken (before.left port.Page) (after.left port.Page) r) (sym parts_all) taken_all);
      }

-- ---- as the calls answer

module _ (most : ℕ) (now after : Seen) (reader : PageReader) (old : Shown) where
  module _ (e : Ending) (closes : (read : List ℕ) → HasRead PAGE_LIMIT reader.decoder read → ClosesAt now after read e) where
    pub cuts_end : (reader' : PageReader) (new : Shown) → new ≡ with_ending e old → CutsOn most now after reader reader' old new
    cuts_end reader' new is = subst (λ z. CutsOn most now after reader reader' old z) (sym is)
        (record { at = λ before c. cut_end most before now after reader old.journal.pieces c e (closes (joined c.parts) c.decoded) })

    pub cuts_end_short : (new : Shown) → new ≡ record old { spent = true } → CutsShort most now after reader old new
    cuts_end_short new is = subst (λ z. CutsShort most now after reader old z) (sym is)
        (record { at = λ before c. cut_short most before after old.journal.pieces (cut_end most before now after reader old.journal.pieces c e (closes (joined c.parts) c.decoded)) })

  module _ (asked n : ℕ) (part : List ℕ) (some : 0 < n) (size : length part ≡ n) (asks : asked ≡ min most reader.left) (taken : AreTaken (now.left port.Page) (after.left port.Page) part) (made : CallsAt port.Page now after (reads asked (Ok n) ∷ [])) where
    pub cuts_unused : (spent : Bool) (new : Shown) → new ≡ record old { spent = spent } → CutsShort most now after reader old new
    cuts_unused spent new is = subst (λ z. CutsShort most now after reader old z) (sym is)
        (record { at = λ before c. cut_unused most before now after reader old.journal.pieces c asked n part some size asks taken made })

    module _ (text : List ℕ) (gives : (limit : ℕ) (read : List ℕ) → HasRead limit reader.decoder read → text_of limit (read ++ part) ≡ text_of limit read ++ text) where
      pub cuts_piece : (reader' : PageReader) (new : Shown) → ((limit : ℕ) (read : List ℕ) → HasRead limit reader.decoder read → HasRead limit reader'.decoder (read ++ part)) → reader'.left + n ≡ reader.left → old.journal.ending ≡ None
          → new ≡ with_piece text old → CutsOn most now after reader reader' old new
      cuts_piece reader' new has left open_ is = subst (λ z. CutsOn most now after reader reader' old z) (sym is) (record {
        at = λ before c. subst (λ o. CutAt most before after reader' (old.journal.pieces ++ text ∷ []) o) (sym open_)
            (cut_piece most before now after reader old.journal.pieces c asked n part some size asks taken made text (gives PAGE_LIMIT (joined c.parts) c.decoded) reader' (has PAGE_LIMIT (joined c.parts) c.decoded) left);
      })

      pub cuts_shut : (reader' : PageReader) (new : Shown) (e : Ending) → new ≡ with_ending e (with_piece text old) → CutsOn most now after reader reader' old new
      cuts_shut reader' new e is = subst (λ z. CutsOn most now after reader reader' old z) (sym is) (record {
        at = λ before c. cut_shut most before now after reader old.journal.pieces c asked n part some size asks taken made text (gives PAGE_LIMIT (joined c.parts) c.decoded);
      })

      pub cuts_shut_short : (new : Shown) → new ≡ record (with_piece text old) { spent = true } → CutsShort most now after reader old new
      cuts_shut_short new is = subst (λ z. CutsShort most now after reader old z) (sym is) (record {
        at = λ before c. cut_short most before after (old.journal.pieces ++ text ∷ [])
            (cut_shut most before now after reader old.journal.pieces c asked n part some size asks taken made text (gives PAGE_LIMIT (joined c.parts) c.decoded));
      })

-- ---- a turn that reads on

pub cuts_read : (most k : ℕ) (before now after : Seen) (reader reader' : PageReader) (old new : Shown) → k ≡ most → old.journal.ending ≡ None → CutsOn k now after reader reader' old new
    → CutAt most before now reader old.journal.pieces old.journal.ending → CutAt most before after reader' new.journal.pieces new.journal.ending
cuts_read most k before now after reader reader' old new same none on at =
    (subst (λ j. CutsOn j now after reader reader' old new) same on).at before (subst (λ o. CutAt most before now reader old.journal.pieces o) none at)

pub cuts_read_short : (most k : ℕ) (before now after : Seen) (reader : PageReader) (old new : Shown) → k ≡ most → old.journal.ending ≡ None → CutsShort k now after reader old new
    → CutAt most before now reader old.journal.pieces old.journal.ending → IsCut most true before after new.journal.pieces
cuts_read_short most k before now after reader old new same none short at =
    (subst (λ j. CutsShort j now after reader old new) same short).at before (subst (λ o. CutAt most before now reader old.journal.pieces o) none at)

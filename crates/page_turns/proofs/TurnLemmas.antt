-- What holds between two turns holds after each of them.
use Rattle.std.proofs.Common.{◌≡◌, ℕ, suc, ◌≤◌, ◌<◌, ◌+◌, nat_lt, List, [], ◌∷◌, ◌++◌, length, Bool, true, false, true≢false, Option, Some, None, flat_map, refl, sym, ap, subst, ◌∙◌, inl, inr, length-append, arith}
use Rattle.std.specs.Prelude.{◌⊎◌, IsTrue, IsSome, is_some, not, ◌&&◌, ◌||◌}
use Rattle.std.proofs.lemmas.Bool.{and_parts}
use Rattle.std.proofs.lemmas.Grind.{flat_map-append}
use Rattle.html_types.specs.declared.ending.Ending.{Ending}
use Rattle.serial.specs.declared.script.Line.{Line}
use Rattle.outside.specs.Outside.{Seen, KeepsOthers}
use Rattle.outside.specs.declared.traits.Port.TheVariants as port
use Rattle.standard.specs.Entities.{Entities}
use Rattle.serial.specs.Output.{line_text}
use Rattle.standard.specs.Parser.{Parser}
use Rattle.serial.specs.Scripts.{Fetched, faulted, missing, is_lawful}
use Rattle.serial.specs.Serial.{World, fetched_if, fetched}
use Rattle.core_definitions.specs.declared.event.Event.TheVariants as event
use Rattle.core_definitions.specs.Batches.{Piece}
use Rattle.core_definitions.specs.Core.{joined}
use Rattle.core_definitions.specs.Desk.{Phase, free, tagged, waits, done, Desk, outstanding, is_free, is_done, is_among, has_arrived, can_send, wants_reply, can_do, can_do_in, sends_first, sends, takes, Does}
use Rattle.core_definitions.specs.Settling.{is_empty}
use Rattle.core_steps.specs.Fetches.{names_of}
use Rattle.core_steps.specs.Journals.{found}
use Rattle.core_steps.specs.Sides.{Shown, first_shown, journaled, with_fetch, Shows, DoesShow, IsReplayed, awaiting, unless_arrived, standing_in, standing_of}
use Rattle.page_turns.specs.declared.page.TheConstants.{PAGE_LIMIT}
use Rattle.page_turns.specs.declared.reader.PageReader.{PageReader}
use Rattle.page_turns.specs.Given.{NoFault}
use Rattle.page_turns.specs.Taken.{Took}
use Rattle.page_turns.specs.Scripts.{Folder, folder_with, Met, IsGiven, GivenEarly, BeginsFile, Fetches, AreKnown}
use Rattle.page_turns.specs.Early.{GivesOneMore, IsNew}
use Rattle.page_turns.specs.Pages.{IsUnread, PageOpen, PageAt}
use Rattle.page_turns.specs.Turns.{Load, no_load, under_way, ReadsPiece, RunsOn, Arrives, BeginsTheAwaited, earlier, StoppedAt, StopsIn, Inside, Holds}
use Rattle.page_turns.proofs.KeepsLemmas.{later-others, later-entities, entities-same, entities-then, entities-others}
use Rattle.page_turns.proofs.PageTakenLemmas.{took_nothing, took_then}
use Rattle.page_turns.proofs.TextLemmas.{none-found, none-among, found-first, lawful-found}
use Rattle.page_turns.proofs.MeetLemmas.{fetches_same, fetches-more, fetches-then, fetches-past, fetch_one, fetch_early, may_meet_given, some-more, known_more}
use Rattle.standard_laws.specs.Laws.{GoesOnFrom}
use Rattle.page_turns.proofs.DeskLemmas as desk
use Rattle.page_turns.proofs.DoLines.{do-lines}
use Rattle.page_turns.proofs.ReachLemmas.{knows-met, found_or, scripts_with}
use Rattle.page_turns.proofs.ReadLemmas.{first_open, at_past}

-- ---- the first

pub holds_first : (es : Entities) (ahead : ℕ) (folder : Folder) (before : Seen) (t : Option (List ℕ)) (reader : PageReader) (l : Load) (s : Shown) → folder.given ≡ [] → s ≡ first_shown es ahead → l ≡ no_load → IsUnread reader → Holds es ahead folder before before t t reader l s
holds_first es ahead folder before t reader l s nothing is none unread =
    subst (λ z. Holds es ahead folder before before t t reader l z) (sym is) (subst (λ z. Holds es ahead folder before before t t reader z (first_shown es ahead)) (sym none) (record {
      outside = record { page = first_open before reader unread; begun = refl; open_at = refl; fetches = fetches_same [] folder before []; keeps = entities-same before };
      inside = record {
        entities = refl;
        ahead_is = refl;
        going = refl;
        known = record { lawful = tt; once = tt };
        arrived = refl;
        within = omega arith;
        count = refl;
        credit = omega arith;
        asked = omega arith;
        lines = refl;
      };
      early = λ name f given. absurd (subst (IsGiven name f) nothing given);
      faults = inl refl;
      took = took_nothing t;
    }))

-- where the parse stops, while it goes on
stops-same : (s s' : Shown) (p : Phase) → is_done p ≡ false → s'.journal.fetches ≡ s.journal.fetches → StopsIn p s → StopsIn p s'
stops-same s s' free going same stops = stops
stops-same s s' (tagged i held) going same stops = stops
stops-same s s' (waits name held) going same stops = ap (found name) same ∙ stops
stops-same s s' (done r) going same stops = absurd (true≢false going)

not-so : (b : Bool) → not b ≡ true → b ≡ false
not-so true e = absurd (true≢false (sym e))
not-so false e = refl

module _ (es : Entities) (ahead : ℕ) (folder : Folder) (before : Seen) (t : Option (List ℕ)) where
  -- ---- Send

  sent-first : (now : Seen) (t' : Option (List ℕ)) (reader : PageReader) (l : Load) (s : Shown) (ps : List Piece) → is_done s.desk.phase ≡ false → under_way l < ahead → s.desk.to_send ≡ ps → not (is_empty ps) ≡ true → Holds es ahead folder before now t t' reader l s
      → Holds es ahead folder before now t t' reader (record l { requests = suc l.requests }) (journaled event.Send (sends_first ps s.desk) s)
  sent-first now t' reader l s [] going less q some h = absurd (true≢false (sym some))
  sent-first now t' reader l s (x ∷ xs) going less q some h =
      let i = h.inside in
      let count = i.count in
      let asked = i.asked in
      record {
        outside = record { page = h.outside.page; begun = h.outside.begun; open_at = h.outside.open_at; fetches = h.outside.fetches; keeps = h.outside.keeps };
        inside = record {
          entities = i.entities;
          ahead_is = i.ahead_is;
          going = i.going;
          known = i.known;
          arrived = i.arrived;
          within = i.within;
          count = omega arith;
          credit = omega arith;
          asked = omega (arith, length-append s.desk.asked (x ∷ []));
          lines = i.lines;
        };
        early = h.early;
        faults = faults-of h.faults;
        took = h.took;
      }
    where
      faults-of : NoFault port.Script before now ⊎ StopsIn s.desk.phase s → NoFault port.Script before now ⊎ StopsIn s.desk.phase (journaled event.Send (sends_first (x ∷ xs) s.desk) s)
      faults-of (inl none) = inl none
      faults-of (inr stops) = inr (stops-same s (journaled event.Send (sends_first (x ∷ xs) s.desk) s) s.desk.phase going refl stops)

  credit-left : (l : Load) (s : Shown) → Inside es ahead l s → IsTrue (can_send s.ahead s.desk) → under_way l < ahead
  credit-left l s i can =
      let less : nat_lt (outstanding s.desk) s.ahead ≡ true = (and_parts (not (is_done s.desk.phase)) (nat_lt (outstanding s.desk) s.ahead) (and_parts (not (is_done s.desk.phase) && nat_lt (outstanding s.desk) s.ahead) (not (is_empty s.desk.to_send)) can).0).1 in
      let count = i.count in
      let is = i.ahead_is in
      grind (arith, less, count, is)

  pub holds_sent : (now : Seen) (t' : Option (List ℕ)) (reader : PageReader) (l : Load) (s : Shown) → IsTrue (can_send s.ahead s.desk) → Holds es ahead folder before now t t' reader l s
      → Holds es ahead folder before now t t' reader (record l { requests = suc l.requests }) (journaled event.Send (sends s.desk) s)
  holds_sent now t' reader l s can h =
      let going = not-so (is_done s.desk.phase) (and_parts (not (is_done s.desk.phase)) (nat_lt (outstanding s.desk) s.ahead) (and_parts (not (is_done s.desk.phase) && nat_lt (outstanding s.desk) s.ahead) (not (is_empty s.desk.to_send)) can).0).0 in
      sent-first now t' reader l s s.desk.to_send going (credit-left l s h.inside can) refl (and_parts _ _ can).1 h

  -- ---- reading on

  open-page : (now : Seen) (reader : PageReader) (ps : List (List ℕ)) (o : Option Ending) → o ≡ None → PageAt before now reader ps o → PageOpen before now reader ps
  open-page now reader ps o none at = subst (λ z. PageAt before now reader ps z) none at

  pub holds_open : (now : Seen) (t' : Option (List ℕ)) (reader : PageReader) (l : Load) (s : Shown) → s.journal.ending ≡ None → Holds es ahead folder before now t t' reader l s → PageOpen before now reader s.journal.pieces
  holds_open now t' reader l s none h = open-page now reader s.journal.pieces s.journal.ending none h.outside.page

  pub holds_read : (now after : Seen) (t' : Option (List ℕ)) (reader reader' : PageReader) (l : Load) (s s' : Shown) → is_done s.desk.phase ≡ false → s.journal.ending ≡ None → ReadsPiece now after reader reader' s s' → KeepsOthers port.Page now after → after.begun ≡ now.begun → after.open_at ≡ now.open_at
      → Holds es ahead folder before now t t' reader l s → Holds es ahead folder before after t t' reader' l s'
  holds_read now after t' reader reader' l s s' going none reads keeps begun opened h =
      let i = h.inside in
      let x = reads.handed in
      let o = x.others in
      let later = later-entities before now h.outside.keeps in
      let fetches_eq : s'.journal.fetches ≡ s.journal.fetches = ap (λ (z : Shown). z.journal.fetches) o in
      let given_eq : s'.given ≡ s.given = ap (λ (z : Shown). z.given) o in
      record {
        outside = record {
          page = reads.at before (holds_open now t' reader l s none h);
          begun = ap (λ b. b port.Page) begun ∙ h.outside.begun;
          open_at = ap (λ b. b port.Page) opened ∙ h.outside.open_at;
          fetches = subst (λ m. Fetches [] folder before after [] m) (sym fetches_eq)
              (fetches-then before now after later (later-others port.Page now after keeps) [] folder [] s.journal.fetches s.journal.fetches h.outside.fetches (fetches-past [] folder port.Page now after s.journal.fetches (λ e. cc e) keeps));
          keeps = entities-then before now after h.outside.keeps (entities-others port.Page now after (λ e. cc e) (λ e. cc e) keeps);
        };
        inside = record {
          entities = ap (λ (z : Shown). z.entities) o ∙ i.entities;
          ahead_is = ap (λ (z : Shown). z.ahead) o ∙ i.ahead_is;
          going = ap (λ (z : Shown). z.spent) o ∙ i.going;
          known = subst AreKnown (sym fetches_eq) i.known;
          arrived = ap (λ (z : Desk). z.arrived) x.desk ∙ (i.arrived ∙ ap names_of (sym fetches_eq));
          within = x.within;
          count = let count = i.count in let sent = ap (λ (z : Desk). z.sent) x.desk in let taken = ap (λ (z : Desk). z.taken) x.desk in omega arith;
          credit = i.credit;
          asked = subst (λ xs. length xs ≤ under_way l) (sym (ap (λ (z : Desk). z.asked) x.desk)) i.asked;
          lines = ap (λ (z : Desk). z.own.side.lines) x.desk ∙ (i.lines ∙ sym given_eq);
        };
        early = λ name f given. subst (λ m. IsSome (found name m)) (sym fetches_eq) (h.early name f given);
        faults = faults-of (ap (λ (z : Desk). z.phase) x.desk) fetches_eq h.faults;
        took = subst (λ g. Took t t' (flat_map line_text g)) (sym given_eq) h.took;
      }
    where
      faults-of : s'.desk.phase ≡ s.desk.phase → s'.journal.fetches ≡ s.journal.fetches → NoFault port.Script before now ⊎ StopsIn s.desk.phase s → NoFault port.Script before after ⊎ StopsIn s'.desk.phase s'
      faults-of p m (inl none) = inl (keeps.other_faults port.Script (λ e. cc e) ∙ none)
      faults-of p m (inr stops) = inr (subst (λ x. StopsIn x s') (sym p) (stops-same s s' s.desk.phase going m stops))

  -- ---- the parser's side

  pub holds_answered : (now : Seen) (t' : Option (List ℕ)) (reader : PageReader) (l l' : Load) (s : Shown) → under_way l' ≡ under_way l → Holds es ahead folder before now t t' reader l s → Holds es ahead folder before now t t' reader l' s
  holds_answered now t' reader l l' s same h =
      let i = h.inside in
      record {
        outside = h.outside;
        inside = record {
          entities = i.entities;
          ahead_is = i.ahead_is;
          going = i.going;
          known = i.known;
          arrived = i.arrived;
          within = i.within;
          count = ap (λ n. n + s.desk.taken) same ∙ i.count;
          credit = subst (λ n. n ≤ ahead) (sym same) i.credit;
          asked = subst (λ n. length s.desk.asked ≤ n) (sym same) i.asked;
          lines = i.lines;
        };
        early = h.early;
        faults = h.faults;
        took = h.took;
      }

  -- ---- Take

  free-of : (p : Phase) → is_free p ≡ true → p ≡ free
  free-of free q = refl
  free-of (tagged i held) q = absurd (true≢false (sym q))
  free-of (waits name held) q = absurd (true≢false (sym q))
  free-of (done r) q = absurd (true≢false (sym q))

  pub took-desk : (l l' : Load) (s : Shown) → l ≡ record l' { replies = suc l'.replies } → Inside es ahead l s → desk.Took s.desk (takes s.entities s.desk)
  took-desk l l' s one i =
      let some : 0 < under_way l = subst (λ z. 0 < under_way z) (sym one) (omega arith) in
      desk.takes-first s.entities s.desk (under_way l) i.count i.asked some

  pub holds_took : (now : Seen) (t' : Option (List ℕ)) (reader : PageReader) (l l' : Load) (s : Shown) → IsTrue (wants_reply s.desk) → l ≡ record l' { replies = suc l'.replies } → Holds es ahead folder before now t t' reader l s
      → Holds es ahead folder before now t t' reader l' (journaled event.Take (takes s.entities s.desk) s)
  holds_took now t' reader l l' s wants one h =
      let i = h.inside in
      let k = took-desk l l' s one i in
      let less : under_way l ≡ suc (under_way l') = ap under_way one ∙ omega arith in
      let count = i.count in
      let credit = i.credit in
      let sent = k.sent in
      let taken = k.taken in
      let asked = k.asked in
      record {
        outside = record { page = h.outside.page; begun = h.outside.begun; open_at = h.outside.open_at; fetches = h.outside.fetches; keeps = h.outside.keeps };
        inside = record {
          entities = i.entities;
          ahead_is = i.ahead_is;
          going = i.going;
          known = i.known;
          arrived = k.arrived ∙ i.arrived;
          within = i.within;
          count = omega arith;
          credit = omega arith;
          asked = omega arith;
          lines = ap (λ o. o.side.lines) k.own ∙ i.lines;
        };
        early = h.early;
        faults = faults-of h.faults;
        took = h.took;
      }
    where
      at_free : s.desk.phase ≡ free
      at_free = free-of s.desk.phase (and_parts _ _ (and_parts _ _ wants).0).0

      faults-of : NoFault port.Script before now ⊎ StopsIn s.desk.phase s → NoFault port.Script before now ⊎ StopsIn (takes s.entities s.desk).phase (journaled event.Take (takes s.entities s.desk) s)
      faults-of (inl none) = inl none
      faults-of (inr stops) = absurd (subst (λ p. StopsIn p s) at_free stops)

  -- ---- Do

  -- in a world with those entities and fetches
  did : (l : Load) (s s' : Shown) → Inside es ahead l s → DoesShow s.entities s.journal.fetches s.desk s'.desk
      → (d : Desk) × Does (record { entities = s.entities; scripts = scripts_with s.journal.fetches (λ name. missing) }) s.desk d × Shows d s'.desk
  did l s s' i does = does (record { entities = s.entities; scripts = scripts_with s.journal.fetches (λ name. missing) }) refl (knows-met s.entities s.journal.fetches (λ name. missing) i.known)

  pub keeps-desk : (l : Load) (s s' : Shown) → Inside es ahead l s → DoesShow s.entities s.journal.fetches s.desk s'.desk → desk.Keeps s.desk s'.desk
  keeps-desk l s s' i does =
      let (d, it, shows) = did l s s' i does in desk.do-keeps (record { entities = s.entities; scripts = scripts_with s.journal.fetches (λ name. missing) }) s.desk d s'.desk it shows

  -- its lines stand behind those that were there
  pub more-lines : (l : Load) (s s' : Shown) → Inside es ahead l s → DoesShow s.entities s.journal.fetches s.desk s'.desk → GoesOnFrom s.desk.own.side.lines s'.desk.own.side.lines
  more-lines l s s' i does =
      let (d, it, shows) = did l s s' i does in do-lines (record { entities = s.entities; scripts = scripts_with s.journal.fetches (λ name. missing) }) s.desk d s'.desk it shows

  lines-then : (a b c : Option (List ℕ)) (x y : List Line) → Took a b (flat_map line_text x) → Took b c (flat_map line_text y) → Took a c (flat_map line_text (x ++ y))
  lines-then a b c x y p q = subst (λ u. Took a c u) (sym (flat_map-append line_text x y)) (took_then a b c (flat_map line_text x) (flat_map line_text y) p q)

  pub holds_ran : (now : Seen) (t' t'' : Option (List ℕ)) (reader : PageReader) (l : Load) (s s' : Shown) → IsReplayed s → IsTrue (can_do s.desk) → RunsOn t' t'' s s' → Holds es ahead folder before now t t' reader l s → Holds es ahead folder before now t t'' reader l s'
  holds_ran now t' t'' reader l s s' replayed can ran h =
      let i = h.inside in
      let k = keeps-desk l s s' i ran.does in
      let o = ran.others in
      let pieces_eq : s'.journal.pieces ≡ s.journal.pieces = ap (λ (z : Shown). z.journal.pieces) o in
      let ending_eq : s'.journal.ending ≡ s.journal.ending = ap (λ (z : Shown). z.journal.ending) o in
      let fetches_eq : s'.journal.fetches ≡ s.journal.fetches = ap (λ (z : Shown). z.journal.fetches) o in
      let given_eq : s'.given ≡ s'.desk.own.side.lines = ap (λ (z : Shown). z.given) o in
      let count = i.count in
      let sent = k.sent in
      let taken = k.taken in
      let asked = k.asked in
      let asked' = i.asked in
      record {
        outside = record {
          page = subst (λ ps. PageAt before now reader ps s'.journal.ending) (sym pieces_eq) (subst (λ e. PageAt before now reader s.journal.pieces e) (sym ending_eq) h.outside.page);
          begun = h.outside.begun;
          open_at = h.outside.open_at;
          fetches = subst (λ m. Fetches [] folder before now [] m) (sym fetches_eq) h.outside.fetches;
          keeps = h.outside.keeps;
        };
        inside = record {
          entities = ap (λ (z : Shown). z.entities) o ∙ i.entities;
          ahead_is = ap (λ (z : Shown). z.ahead) o ∙ i.ahead_is;
          going = ap (λ (z : Shown). z.spent) o ∙ i.going;
          known = subst AreKnown (sym fetches_eq) i.known;
          arrived = k.arrived ∙ (i.arrived ∙ ap names_of (sym fetches_eq));
          within = subst (λ ps. length (joined ps) ≤ PAGE_LIMIT) (sym pieces_eq) i.within;
          count = omega arith;
          credit = i.credit;
          asked = omega arith;
          lines = sym given_eq;
        };
        early = λ name f given. subst (λ m. IsSome (found name m)) (sym fetches_eq) (h.early name f given);
        faults = faults-of h.faults;
        took = subst (λ g. Took t t'' (flat_map line_text g)) (sym (given_eq ∙ ran.lines)) (lines-then t t' t'' s.given ran.more h.took ran.took);
      }
    where
      stopped-at : (name : List ℕ) (held : Parser) → s.desk.phase ≡ waits name held → found name s.journal.fetches ≡ Some faulted → StoppedAt s'
      stopped-at name held q failed = record {
        name = name;
        held = held;
        events = s.journal.events;
        desk = s.desk;
        awaited = q;
        failed = ap (λ (z : Shown). found name z.journal.fetches) ran.others ∙ failed;
        replayed = subst (λ z. IsReplayed (earlier s.journal.events s.desk z)) (sym ran.others) replayed;
      }

      stops-in : (p : Phase) → s.desk.phase ≡ p → StopsIn p s → StopsIn s'.desk.phase s'
      stops-in free q stops = absurd stops
      stops-in (tagged j held) q stops = absurd stops
      stops-in (waits name held) q stops =
          let (d, it, shows) = did l s s' h.inside ran.does in
          let lawful : is_lawful name ≡ true = lawful-found name s.journal.fetches faulted h.inside.known.lawful stops in
          let w : World = record { entities = s.entities; scripts = scripts_with s.journal.fetches (λ name. missing) } in
          let is : fetched w name ≡ faulted = ap (λ b. fetched_if b w name) lawful ∙ ap (found_or missing) stops in
          subst (λ p. StopsIn p s') (sym (desk.fault-stops w name held s.desk d s'.desk q is it shows)) (stopped-at name held q stops)
      stops-in (done r) q stops = absurd (true≢false (sym can ∙ ap (λ p. can_do_in p s.desk) q))

      faults-of : NoFault port.Script before now ⊎ StopsIn s.desk.phase s → NoFault port.Script before now ⊎ StopsIn s'.desk.phase s'
      faults-of (inl none) = inl none
      faults-of (inr stops) = inr (stops-in s.desk.phase refl stops)

  -- ---- Arrive

  -- which name is awaited, and that it hasn't arrived
  pub awaits-in : (p : Phase) (d : Desk) (name : List ℕ) → standing_in p d ≡ awaiting name → (held : Parser) × (p ≡ waits name held) × (has_arrived name d ≡ false)
  awaits-in free d name is = absurd (cc is)
  awaits-in (tagged i held) d name is = absurd (cc is)
  awaits-in (waits n held) d name is = by (has_arrived n d) refl is
    where
      by : (b : Bool) → has_arrived n d ≡ b → unless_arrived b n ≡ awaiting name → (h : Parser) × (waits n held ≡ waits name h) × (has_arrived name d ≡ false)
      by true q e = absurd (cc e)
      by false q e = let same : n ≡ name = cc in (held, ap (λ x. waits x held) same, subst (λ x. has_arrived x d ≡ false) same q)
  awaits-in (done r) d name is = absurd (cc is)

  pub not-arrived : (a b : Bool) → (not a || b) ≡ false → (a ≡ true) × (b ≡ false)
  not-arrived true b e = (refl, e)
  not-arrived false b e = absurd (true≢false e)

  awaiting-same : (a b : List ℕ) → awaiting a ≡ awaiting b → a ≡ b
  awaiting-same a b e = cc

  -- it isn't there yet
  apart-of : (s : Shown) (name : List ℕ) → s.desk.arrived ≡ names_of s.journal.fetches → is_among name s.desk.arrived ≡ false → found name s.journal.fetches ≡ None
  apart-of s name same apart = none-found name s.journal.fetches (subst (λ names. is_among name names ≡ false) same apart)

  -- While a script is awaited no fetch has failed.
  quiet-while : (now : Seen) (s : Shown) (name : List ℕ) → standing_of s.desk ≡ awaiting name → s.desk.arrived ≡ names_of s.journal.fetches → NoFault port.Script before now ⊎ StopsIn s.desk.phase s → NoFault port.Script before now
  quiet-while now s name awaits same (inl quiet) = quiet
  quiet-while now s name awaits same (inr stops) =
      let waits_for = awaits-in s.desk.phase s.desk name awaits in
      let parts = not-arrived (is_lawful name) (is_among name s.desk.arrived) waits_for.2 in
      absurd (cc (sym (apart-of s name same parts.1) ∙ subst (λ p. StopsIn p s) waits_for.1 stops))

  pub holds_arrived : (now after : Seen) (t' : Option (List ℕ)) (reader : PageReader) (l : Load) (s s' : Shown) → Arrives folder now after s s' → BeginsTheAwaited folder.dir now after s.desk → KeepsOthers port.Script now after
      → Holds es ahead folder before now t t' reader l s → Holds es ahead folder before after t t' reader l s'
  holds_arrived now after t' reader l s s' arr begins keeps h = subst (λ z. Holds es ahead folder before after t t' reader l z) (sym arr.arrived) here
    where
      i : Inside es ahead l s
      i = h.inside

      name : List ℕ
      name = arr.name

      waits_for : (held : Parser) × (s.desk.phase ≡ waits name held) × (has_arrived name s.desk ≡ false)
      waits_for = awaits-in s.desk.phase s.desk name arr.awaits

      parts : (is_lawful name ≡ true) × (is_among name s.desk.arrived ≡ false)
      parts = not-arrived (is_lawful name) (is_among name s.desk.arrived) waits_for.2

      apart : is_among name (names_of s.journal.fetches) ≡ false
      apart = subst (λ names. is_among name names ≡ false) i.arrived parts.1

      none : found name s.journal.fetches ≡ None
      none = none-found name s.journal.fetches apart

      late : GivenEarly name folder.given → ⊥
      late (f, given) = let there : is_some (found name s.journal.fetches) ≡ true = h.early name f given in cc (sym there ∙ ap is_some none)

      begun_here : BeginsFile folder.dir name now after
      begun_here = subst (λ n. BeginsFile folder.dir n now after) (awaiting-same begins.0 name (sym begins.1 ∙ arr.awaits)) begins.2

      faults-of : NoFault port.Script now after ⊎ (arr.fetch ≡ faulted) → NoFault port.Script before after ⊎ StopsIn s.desk.phase (with_fetch name arr.fetch s)
      faults-of (inl quiet) = inl (quiet ∙ quiet-while now s name arr.awaits i.arrived h.faults)
      faults-of (inr is) = inr (subst (λ p. StopsIn p (with_fetch name arr.fetch s)) (sym waits_for.1) (found-first name arr.fetch s.journal.fetches ∙ ap Some is))

      here : Holds es ahead folder before after t t' reader l (with_fetch name arr.fetch s)
      here = record {
        outside = record {
          page = at_past before now after reader s.journal.pieces s.journal.ending keeps h.outside.page;
          begun = keeps.begun port.Page (λ e. cc e) ∙ h.outside.begun;
          open_at = keeps.open_at port.Page (λ e. cc e) ∙ h.outside.open_at;
          fetches = fetches-then before now after (later-entities before now h.outside.keeps) (later-others port.Script now after keeps) [] folder [] s.journal.fetches ((name, arr.fetch) ∷ s.journal.fetches)
              h.outside.fetches (fetch_one folder name now after parts.0 s.journal.fetches none arr.fetch arr.given late begun_here);
          keeps = entities-then before now after h.outside.keeps (entities-others port.Script now after (λ e. cc e) (λ e. cc e) keeps);
        };
        inside = record {
          entities = i.entities;
          ahead_is = i.ahead_is;
          going = i.going;
          known = known_more name arr.fetch s.journal.fetches parts.0 apart i.known;
          arrived = ap (λ names. name ∷ names) i.arrived;
          within = i.within;
          count = i.count;
          credit = i.credit;
          asked = i.asked;
          lines = i.lines;
        };
        early = λ n f given. some-more name arr.fetch s.journal.fetches n (h.early n f given);
        faults = faults-of arr.faults;
        took = h.took;
      }

-- ---- one comes early

module _ (es : Entities) (ahead : ℕ) (dir : List ℕ) (given given' : Met) (before now after : Seen) (t t' : Option (List ℕ)) (reader : PageReader) (l : Load) (s : Shown) (name : List ℕ) (f : Fetched)
    (one : GivesOneMore name f given given') (new : IsNew name s.journal.fetches) (same : after ≡ now) (keeps : KeepsOthers port.Script now after) (h : Holds es ahead (folder_with dir given) before now t t' reader l s) where
  abbrev folder' : Folder
  folder' = folder_with dir given'

  -- what was fetched may be that of more that was given
  pub fetches_given : Fetches [] folder' before now [] s.journal.fetches
  fetches_given = fetches-more dir given given' name f one before now [] s.journal.fetches new.1 h.outside.fetches

  pub holds_early : BeginsTheAwaited dir now after s.desk → Holds es ahead folder' before after t t' reader l (with_fetch name f s)
  holds_early begins = record {
    outside = record {
      page = at_past before now after reader s.journal.pieces s.journal.ending keeps h.outside.page;
      begun = keeps.begun port.Page (λ e. cc e) ∙ h.outside.begun;
      open_at = keeps.open_at port.Page (λ e. cc e) ∙ h.outside.open_at;
      fetches = fetches-then before now after (later-entities before now h.outside.keeps) (later-others port.Script now after keeps) [] folder' [] s.journal.fetches ((name, f) ∷ s.journal.fetches)
          fetches_given (fetch_early folder' name now after new.0 s.journal.fetches new.1 f (may_meet_given folder' now after name f one.here) same);
      keeps = entities-then before now after h.outside.keeps (entities-others port.Script now after (λ e. cc e) (λ e. cc e) keeps);
    };
    inside = record {
      entities = i.entities;
      ahead_is = i.ahead_is;
      going = i.going;
      known = known_more name f s.journal.fetches new.0 (none-among name s.journal.fetches new.1) i.known;
      arrived = ap (λ names. name ∷ names) i.arrived;
      within = i.within;
      count = i.count;
      credit = i.credit;
      asked = i.asked;
      lines = i.lines;
    };
    early = early_of;
    faults = inl (ap (λ (z : Seen). z.faults port.Script) same ∙ quiet-while es ahead (folder_with dir given) before t now s begins.0 begins.1 i.arrived h.faults);
    took = h.took;
  }
    where
      i : Inside es ahead l s
      i = h.inside

      early_of : (n : List ℕ) (g : Fetched) → IsGiven n g given' → IsSome (found n ((name, f) ∷ s.journal.fetches))
      early_of n g is = elim (one.only n g is) [
        | inl was ↦ some-more name f s.journal.fetches n (h.early n g was)
        | inr here ↦ subst (λ m. IsSome (found m ((name, f) ∷ s.journal.fetches))) (sym here) (ap is_some (found-first name f s.journal.fetches))
      ]

-- what was given is the same
pub holds_same : (es : Entities) (ahead : ℕ) (dir : List ℕ) (given given' : Met) (before now : Seen) (t t' : Option (List ℕ)) (reader : PageReader) (l : Load) (s : Shown) → given' ≡ given
    → Holds es ahead (folder_with dir given) before now t t' reader l s → Holds es ahead (folder_with dir given') before now t t' reader l s
holds_same es ahead dir given given' before now t t' reader l s same h = subst (λ g. Holds es ahead (folder_with dir g) before now t t' reader l s) (sym same) h

-- Where a run gives up, or is over, and what is still to come of it.
use Rattle.std.proofs.Common.{◌≡◌, ℕ, suc, ◌≤◌, ◌<◌, ◌+◌, ◌-◌, ◌*◌, nat_lt, List, [], ◌∷◌, ◌++◌, length, Bool, true, false, true≢false, Option, Some, None, flat_map, refl, sym, ap, subst, ◌∙◌, inl, inr, length-append, arith}
use Rattle.std.specs.Prelude.{IsTrue, not, ◌&&◌, ◌||◌, is_none, is_some}
use Rattle.std.proofs.lemmas.Bool.{and_parts, lt-ltb, ltb-false, ltb-true}
use Rattle.std.proofs.lemmas.Grind.{flat_map-append}
use Rattle.std.specs.List.{AllByRecursion}
use Rattle.html_types.specs.declared.ending.Ending.{Ending}
use Rattle.serial.specs.declared.script.Line.{Line}
use Rattle.outside.specs.Outside.{Seen, KeepsOthers}
use Rattle.outside.specs.declared.traits.Port.TheVariants as port
use Rattle.standard.specs.Entities.{Entities}
use Rattle.serial.specs.Output.{line_text}
use Rattle.serial.specs.Scripts.{Fetched, is_lawful, missing}
use Rattle.serial.specs.Serial.{World, Serial}
use Rattle.core_definitions.specs.declared.event.Event.TheVariants as event
use Rattle.core_definitions.specs.Batches.{Piece}
use Rattle.core_definitions.specs.Core.{joined}
use Rattle.core_definitions.specs.Desk.{Phase, free, tagged, waits, done, Desk, outstanding, is_done, is_free, is_among, has_arrived, can_send, wants_reply, can_do, can_do_in, can_arrive, sends_first, sends, takes, arrives}
use Rattle.core_definitions.specs.Settling.{is_empty}
use Rattle.core_definitions.specs.StandsFor.{text_of}
use Rattle.speculation.specs.Asking.{Asked}
use Rattle.core_steps.specs.Journals.{found}
use Rattle.core_steps.specs.Sides.{Shown, ShowsIn, journaled, with_fetch, IsReplayed, Standing, running, awaiting, over, unless_arrived, standing_in, standing_of, left_to_do}
use Rattle.parse_machine.specs.declared.end.End.{End}
use Rattle.page_turns.specs.declared.reader.PageReader.{PageReader}
use Rattle.page_turns.specs.Given.{KeepsEntities}
use Rattle.page_turns.specs.Taken.{Took, TookFront}
use Rattle.page_turns.specs.Scripts.{Folder, Met, GivenEarly, Fetches, AreKnown}
use Rattle.parse_machine.specs.Ends.{result_of}
use Rattle.page_turns.specs.Pages.{PageFor}
use Rattle.page_turns.specs.Turns.{Load, under_way, weight_of, Asks, Answers, while_open, while_awaiting, ReadsPiece, ReadsInPart, StaysRead, RunsOn, RunsInPart, unwritten, part_written, Arrives, BeginsTheAwaited, StopsIn, Holds, text_to_come, steps_to_come, turns_to_come, Leaves, LeavesAlone, GivesUp, RunsOut}
use Rattle.page_turns.proofs.KeepsLemmas.{later-others, later-entities, entities-then, entities-others}
use Rattle.page_turns.specs.WrittenInPart.{HasDone, IsDue, no_line, lines_of_do, WritesInPart}
use Rattle.page_turns.proofs.PageTakenLemmas.{front_nothing, front_of_all, front_then, with_front, with_none}
use Rattle.page_turns.proofs.ReplayLemmas.{replays-to}
use Rattle.page_turns.proofs.MeetLemmas.{fetches-then, fetches-past, fetch_cut}
use Rattle.page_turns.proofs.TextLemmas.{same-refl, none-found}
use Rattle.page_turns.proofs.DeskLemmas as desk
use Rattle.page_turns.proofs.ReachLemmas.{reached_whole, knows-met, scripts_with}
use Rattle.page_turns.proofs.ReadLemmas.{page_for, for_past}
use Rattle.page_turns.proofs.Stuck.{never-free}
use Rattle.page_turns.specs.Along.{IsSentSoFar, IsAwaitedIn, Stays, MayDo, Goes}
use Rattle.page_turns.proofs.AlongLemmas.{stays_read, goes_stays, goes_did, goes_arrived}
use Rattle.page_turns.proofs.TurnLemmas.{holds_open, holds_sent, holds_answered, holds_took, holds_ran, awaits-in, not-arrived, keeps-desk, more-lines, took-desk}

none-left : (n taken sent : ℕ) → n + taken ≡ sent → nat_lt 0 (sent - taken) ≡ false → n ≡ 0
none-left n taken sent count quiet = let le = ltb-false 0 (sent - taken) quiet in omega (arith, count, le)

module _ (es : Entities) (ahead : ℕ) (folder : Folder) (before : Seen) (t : Option (List ℕ)) where
  -- ---- giving up

  alone-of : (after : Seen) (met : Met) (ps : List (List ℕ)) (o : Option Ending) → KeepsEntities before after → after.begun port.Page ≡ before.begun port.Page → after.open_at port.Page ≡ before.open_at port.Page
      → PageFor before after ps o → {unmet : List (List ℕ)} → Fetches unmet folder before after [] met → LeavesAlone folder.dir before after
  alone-of after met ps o keeps begun opened for fetches = record {
    keeps = keeps;
    read = for.read;
    begun = begun;
    open_at = opened;
    within = for.within;
    scripts = fetches.no_further;
    scripts_within = fetches.within;
    names = fetches.begins.which;
  }

  pub front-of : (t' : Option (List ℕ)) (s : Shown) → s.desk.own.side.lines ≡ s.given → Took t t' (flat_map line_text s.given) → TookFront t t' (flat_map line_text s.desk.own.side.lines)
  front-of t' s lines took = subst (λ l. TookFront t t' (flat_map line_text l)) (sym lines) (front_of_all t t' (flat_map line_text s.given) took)

  pub left-stays : (after : Seen) (s s' : Shown) → StaysRead s s' → (left : Leaves es ahead folder before after s) → AllByRecursion (λ name. standing_of s'.desk ≡ awaiting name) left.unmet → Leaves es ahead folder before after s'
  left-stays after s s' stays left awaited =
      subst (λ z. Leaves es ahead folder before after z) (sym stays) (record { entities = left.entities; ahead_is = left.ahead_is; page = left.page; unmet = left.unmet; fetches = left.fetches; awaited = awaited; known = left.known })

  module _ (now : Seen) (t' : Option (List ℕ)) (reader : PageReader) (l : Load) (s : Shown) (h : Holds es ahead folder before now t t' reader l s) where
    abbrev pub leaves_now : Leaves es ahead folder before now s
    leaves_now = record {
      entities = h.inside.entities;
      ahead_is = h.inside.ahead_is;
      page = page_for before now reader s.journal.pieces s.journal.ending h.outside.page;
      unmet = [];
      fetches = h.outside.fetches;
      awaited = tt;
      known = h.inside.known;
    }

    pub alone_now : LeavesAlone folder.dir before now
    alone_now = alone-of now s.journal.fetches s.journal.pieces s.journal.ending h.outside.keeps h.outside.begun h.outside.open_at leaves_now.page leaves_now.fetches

    -- ---- the end

    pub runs_out : (o : End) → s.desk.phase ≡ done (result_of o) → RunsOut es ahead folder before now t t' s o
    runs_out o q = record {
      leaves = leaves_now;
      alone = alone_now;
      phase = q;
      going = h.inside.going;
      faults = elim h.faults [ inl none ↦ inl none | inr stops ↦ inr (subst (λ p. StopsIn p s) q stops) ];
      took = subst (λ g. Took t t' (flat_map line_text g)) (sym h.inside.lines) h.took;
    }

    module _ (replayed : IsReplayed s) where
      -- all lines of what is shown were written
      pub part_none : (s' : Shown) → s'.entities ≡ es → s'.ahead ≡ ahead → s'.desk.own.side.lines ≡ s.desk.own.side.lines → IsReplayed s' → WritesInPart es ahead t t' (IsDue s')
      part_none s' entities credit same there = record {
        before = s';
        replays = replays-to es ahead s' entities credit there;
        due = [];
        is_due = no_line refl refl;
        took = with_none t t' (flat_map line_text s'.desk.own.side.lines) (subst (λ g. Took t t' (flat_map line_text g)) (sym (same ∙ h.inside.lines)) h.took);
      }

      -- of the lines of a Do a front was written
      part_done : (t'' : Option (List ℕ)) (s' : Shown) (more : List Line) → HasDone s s' more → TookFront t' t'' (flat_map line_text more) → WritesInPart es ahead t t'' (IsDue s')
      part_done t'' s' more did front = record {
        before = s;
        replays = replays-to es ahead s h.inside.entities h.inside.ahead_is replayed;
        due = flat_map line_text more;
        is_due = lines_of_do more did refl;
        took = with_front t t' t'' (flat_map line_text s.desk.own.side.lines) (flat_map line_text more) (subst (λ g. Took t t' (flat_map line_text g)) (sym h.inside.lines) h.took) front;
      }

      -- whatever else the document's side has become
      gives_up_as : Goes folder.given None s → (s' : Shown) → StaysRead s s' → (IsReplayed s' → WritesInPart es ahead t t' (IsDue s')) → GivesUp es ahead folder before now t t' s'
      gives_up_as goes s' stays part = record { left = left-stays now s s' stays leaves_now tt; shown = s; replayed = λ _. replayed; leaves = leaves_now; goes = goes; alone = alone_now; front = front-of t' s h.inside.lines h.took; part = part }

      -- with no line more
      pub gives_up : Goes folder.given None s → (s' : Shown) → StaysRead s s' → s'.desk.own.side.lines ≡ s.desk.own.side.lines → GivesUp es ahead folder before now t t' s'
      gives_up goes s' stays same = gives_up_as goes s' stays (part_none s' (ap (λ (z : Shown). z.entities) stays ∙ h.inside.entities) (ap (λ (z : Shown). z.ahead) stays ∙ h.inside.ahead_is) same)

      -- while the page was read on
      pub gives_up_reading : (after : Seen) (s' : Shown) → Goes folder.given None s' → s.journal.ending ≡ None → ReadsInPart now after reader s s' → KeepsOthers port.Page now after → after.begun ≡ now.begun → after.open_at ≡ now.open_at → GivesUp es ahead folder before after t t' s'
      gives_up_reading after s' goes none part keeps begun opened =
          let o = part.others in
          let fetched : s'.journal.fetches ≡ s.journal.fetches = ap (λ (z : Shown). z.journal.fetches) o in
          let fetches : Fetches [] folder before after [] s.journal.fetches =
          fetches-then before now after (later-entities before now h.outside.keeps) (later-others port.Page now after keeps) [] folder [] s.journal.fetches s.journal.fetches h.outside.fetches (fetches-past [] folder port.Page now after s.journal.fetches (λ e. cc e) keeps) in
          let left : Leaves es ahead folder before after s' = record {
            entities = ap (λ (z : Shown). z.entities) o ∙ h.inside.entities;
            ahead_is = ap (λ (z : Shown). z.ahead) o ∙ h.inside.ahead_is;
            page = subst (λ e. PageFor before after s'.journal.pieces e) (sym (ap (λ (z : Shown). z.journal.ending) o ∙ none)) (part.at before (holds_open es ahead folder before t now t' reader l s none h));
            unmet = [];
            fetches = subst (λ m. Fetches [] folder before after [] m) (sym fetched) fetches;
            awaited = tt;
            known = subst AreKnown (sym fetched) h.inside.known;
          } in
          record {
            left = left;
            shown = s';
            replayed = λ r. r;
            leaves = left;
            goes = goes;
            alone = alone-of after s'.journal.fetches s'.journal.pieces s'.journal.ending (entities-then before now after h.outside.keeps (entities-others port.Page now after (λ e. cc e) (λ e. cc e) keeps)) (ap (λ b. b port.Page) begun ∙ h.outside.begun) (ap (λ b. b port.Page) opened ∙ h.outside.open_at) left.page left.fetches;
            front = subst (λ (x : Serial). TookFront t t' (flat_map line_text x.side.lines)) (sym part.own) (front-of t' s h.inside.lines h.took);
            part = part_none s' left.entities left.ahead_is (ap (λ (x : Serial). x.side.lines) part.own);
          }

      -- while a script was fetched
      pub gives_up_fetching : Goes folder.given None s → (after : Seen) (s' : Shown) → Stays s s' → BeginsTheAwaited folder.dir now after s.desk → KeepsOthers port.Script now after → GivesUp es ahead folder before after t t' s'
      gives_up_fetching goes after s' stays (name, awaits, begins) keeps =
          let waits_for = awaits-in es ahead folder before t s.desk.phase s.desk name awaits in
          let parts : (is_lawful name ≡ true) × (is_among name s.desk.arrived ≡ false) = not-arrived es ahead folder before t (is_lawful name) (is_among name s.desk.arrived) waits_for.2 in
          let none = none-found name s.journal.fetches (subst (λ names. is_among name names ≡ false) h.inside.arrived parts.1) in
          let late : GivenEarly name folder.given → ⊥ = (λ e. (let there : is_some (found name s.journal.fetches) ≡ true = h.early name e.0 e.1 in cc (sym there ∙ ap is_some none))) in
          let for : PageFor before after s.journal.pieces s.journal.ending = for_past before now after s.journal.pieces s.journal.ending keeps leaves_now.page in
          let fetches : Fetches (name ∷ []) folder before after [] s.journal.fetches =
          fetches-then before now after (later-entities before now h.outside.keeps) (later-others port.Script now after keeps) (name ∷ []) folder [] s.journal.fetches s.journal.fetches h.outside.fetches (fetch_cut folder name now after parts.0 s.journal.fetches none late begins) in
          let leaves : Leaves es ahead folder before after s = record { entities = h.inside.entities; ahead_is = h.inside.ahead_is; page = for; unmet = name ∷ []; fetches = fetches; awaited = (awaits, tt); known = h.inside.known } in
          let left : Leaves es ahead folder before after s' = left-stays after s s' (stays_read s s' stays) leaves (ap (λ (z : Shown). standing_of z.desk) stays ∙ awaits, tt) in
          record {
            left = left;
            shown = s;
            replayed = λ _. replayed;
            leaves = leaves;
            goes = goes;
            alone = alone-of after s.journal.fetches s.journal.pieces s.journal.ending (entities-then before now after h.outside.keeps (entities-others port.Script now after (λ e. cc e) (λ e. cc e) keeps)) (keeps.begun port.Page (λ e. cc e) ∙ h.outside.begun) (keeps.open_at port.Page (λ e. cc e) ∙ h.outside.open_at) for fetches;
            front = front-of t' s h.inside.lines h.took;
            part = part_none s' left.entities left.ahead_is (ap (λ (z : Shown). z.desk.own.side.lines) stays);
          }

      -- before the lines of a Do were taken
      gives_up_unwritten : Goes folder.given None s → (s' : Shown) → StaysRead s s' → MayDo s s' → GivesUp es ahead folder before now t t' s'
      gives_up_unwritten goes s' stays (inl none) = gives_up goes s' stays (ap (λ (z : Shown). z.desk.own.side.lines) none)
      gives_up_unwritten goes s' stays (inr did) =
          let (more, lines) = more-lines es ahead folder before t l s s' h.inside did.does in
          gives_up_as goes s' stays (λ _. part_done t' s' more (record { journal = ap (λ (z : Shown). z.journal) did.others; lines = lines }) (front_nothing t' (flat_map line_text more)))

      -- while lines were written
      pub gives_up_running : Goes folder.given None s → (t'' : Option (List ℕ)) (s' : Shown) → Goes folder.given None s' → StaysRead s s' → MayDo s s' → RunsInPart t' t'' s s' → GivesUp es ahead folder before now t t'' s'
      gives_up_running goes t'' s' goes' stays may (unwritten same) = subst (λ z. GivesUp es ahead folder before now t z s') (sym same) (gives_up_unwritten goes s' stays may)
      gives_up_running goes t'' s' goes' stays may (part_written more o lines took) = record {
        left = left-stays now s s' stays leaves_now tt;
        shown = s';
        replayed = λ r. r;
        leaves = left-stays now s s' stays leaves_now tt;
        goes = goes';
        alone = alone_now;
        front = subst (λ x. TookFront t t'' x) (sym (ap (flat_map line_text) lines ∙ flat_map-append line_text s.given more)) (front_then t t' t'' (flat_map line_text s.given) (flat_map line_text more) h.took took);
        part = λ _. part_done t'' s' more (record { journal = ap (λ (z : Shown). z.journal) o; lines = lines ∙ ap (λ ls. ls ++ more) (sym h.inside.lines) }) took;
      }

      -- ---- never stuck

      empty-of : {A : Type 0} (xs : List A) → not (is_empty xs) ≡ false → is_empty xs ≡ true
      empty-of [] e = refl
      empty-of (x ∷ xs) e = absurd (true≢false e)

      some-ending : (o : Option Ending) → is_none o ≡ false → (e : Ending) × (o ≡ Some e)
      some-ending None q = absurd (true≢false q)
      some-ending (Some e) q = (e, refl)

      module _ (some : 0 < ahead) (going : is_done s.desk.phase ≡ false) (may : (nat_lt (under_way l) ahead && is_none s.journal.ending) ≡ false) (send : can_send s.ahead s.desk ≡ false) (reply : wants_reply s.desk ≡ false) (acts : can_do s.desk ≡ false) where
        stuck : s.desk.phase ≡ free → ⊥
        stuck q =
            let hand : is_empty s.desk.hand ≡ true = empty-of s.desk.hand (sym (ap (λ p. can_do_in p s.desk) q) ∙ acts) in
            let quiet : nat_lt 0 (outstanding s.desk) ≡ false = sym (ap (λ b. (b && is_empty s.desk.hand) && nat_lt 0 (outstanding s.desk)) (ap is_free q) ∙ ap (λ b. b && nat_lt 0 (outstanding s.desk)) hand) ∙ reply in
            let count = h.inside.count in
            let none : under_way l ≡ 0 = none-left (under_way l) s.desk.taken s.desk.sent count quiet in
            let room : nat_lt (under_way l) ahead ≡ true = ap (λ n. nat_lt n ahead) none ∙ lt-ltb 0 ahead some in
            let ended : (e : Ending) × (s.journal.ending ≡ Some e) = some-ending s.journal.ending (sym (ap (λ b. b && is_none s.journal.ending) room) ∙ may) in
            let w : World = record { entities = s.entities; scripts = scripts_with s.journal.fetches (λ name. missing) } in
            let (d, reached, shows) = reached_whole w s ended.0 ended.1 refl (knows-met s.entities s.journal.fetches (λ name. missing) h.inside.known) replayed in
            let is : d ≡ s.desk = subst (λ p. ShowsIn p d s.desk) q shows in
            never-free (record { world = w; pieces = s.journal.pieces; ending = ended.0; ahead = s.ahead }) s.journal.events d (subst (λ n. 0 < n) (sym h.inside.ahead_is) some) reached
            (ap (can_send s.ahead) is ∙ send) (ap can_do is ∙ acts) (subst (λ (z : Desk). z.taken ≡ z.sent) (sym is) (omega (arith, count, none))) (ap (λ (z : Desk). z.phase) is ∙ q)

        pub awaits_name : (name : List ℕ) × (standing_of s.desk ≡ awaiting name)
        awaits_name = by s.desk.phase refl
          where
            by : (p : Phase) → s.desk.phase ≡ p → (name : List ℕ) × (standing_of s.desk ≡ awaiting name)
            by free q = absurd (stuck q)
            by (tagged i held) q = absurd (true≢false (sym (ap (λ p. can_do_in p s.desk) q) ∙ acts))
            by (waits name held) q = (name, ap (λ p. standing_in p s.desk) q ∙ ap (λ b. unless_arrived b name) (sym (ap (λ p. can_do_in p s.desk) q) ∙ acts))
            by (done r) q = absurd (true≢false (sym (ap is_done q) ∙ going))

-- ---- a measure

standing-same : (p : Phase) (d d' : Desk) → d'.arrived ≡ d.arrived → standing_in p d' ≡ standing_in p d
standing-same free d d' e = refl
standing-same (tagged i held) d d' e = refl
standing-same (waits name held) d d' e = ap (λ names. unless_arrived (not (is_lawful name) || is_among name names) name) e
standing-same (done r) d d' e = refl

awaiting-same : (d d' : Desk) → d'.phase ≡ d.phase → d'.arrived ≡ d.arrived → while_awaiting (standing_of d') ≡ while_awaiting (standing_of d)
awaiting-same d d' p e = ap while_awaiting (ap (λ x. standing_in x d') p ∙ standing-same d.phase d d' e)

awaiting-le : (st : Standing) → while_awaiting st ≤ 1
awaiting-le running = omega arith
awaiting-le (awaiting name) = omega arith
awaiting-le (over r) = omega arith

-- what is to be written isn't more, and all else is less
less-steps : (a a' b b' : ℕ) → a' ≤ a → b' < b → 300 * a' + b' < 300 * a + b
less-steps a a' b b' p q = omega arith

le-steps : (a a' b b' : ℕ) → a' ≤ a → b' ≤ b → 300 * a' + b' ≤ 300 * a + b
le-steps a a' b b' p q = omega arith

less-text : (a a' b b' : ℕ) → a' < a → b' ≤ b + 270 → 300 * a' + b' < 300 * a + b
less-text a a' b b' p q = omega arith

sent-first-less : (reader : PageReader) (l : Load) (s : Shown) (ps : List Piece) → s.desk.to_send ≡ ps → not (is_empty ps) ≡ true
    → turns_to_come reader (record l { requests = suc l.requests }) (journaled event.Send (sends_first ps s.desk) s) < turns_to_come reader l s
sent-first-less reader l s [] q some = absurd (true≢false (sym some))
sent-first-less reader l s (x ∷ xs) q some =
    let s' : Shown = journaled event.Send (sends_first (x ∷ xs) s.desk) s in
    let one : length s.desk.to_send ≡ suc (length xs) = ap (λ ys. length ys) q in
    let left : left_to_do s'.desk ≡ left_to_do s.desk = ap (λ ps. left_to_do (sends_first ps s.desk)) (sym q) ∙ desk.sends-left s.desk in
    let still : while_awaiting (standing_of s'.desk) ≡ while_awaiting (standing_of s.desk) = awaiting-same s.desk s'.desk refl refl in
    less-steps (text_to_come s) (text_to_come s') (steps_to_come reader l s) (steps_to_come reader (record l { requests = suc l.requests }) s') (omega (arith, left)) (omega (arith, one, still))

pub sent_less : (reader : PageReader) (l : Load) (s : Shown) → IsTrue (can_send s.ahead s.desk) → turns_to_come reader (record l { requests = suc l.requests }) (journaled event.Send (sends s.desk) s) < turns_to_come reader l s
sent_less reader l s can = sent-first-less reader l s s.desk.to_send refl (and_parts _ _ can).1

pub read_less : (now after : Seen) (reader reader' : PageReader) (l : Load) (s s' : Shown) → s.journal.ending ≡ None → ReadsPiece now after reader reader' s s' → turns_to_come reader' l s' < turns_to_come reader l s
read_less now after reader reader' l s s' none reads =
    let x = reads.handed in
    let open_ : while_open s.journal.ending ≡ 9 = ap while_open none in
    let longer : length (joined s'.journal.pieces) ≡ length (joined s.journal.pieces) + length (text_of x.pieces) = ap (λ t. length t) x.text ∙ length-append (joined s.journal.pieces) (text_of x.pieces) in
    let within = x.within in
    let less = x.less in
    let left : left_to_do s'.desk ≤ left_to_do s.desk + 3 * length (text_of x.pieces) = subst (λ d. left_to_do d ≤ left_to_do s.desk + 3 * length (text_of x.pieces)) (sym x.desk) (desk.more-left x.pieces s.desk) in
    let more : length s'.desk.to_send ≡ length s.desk.to_send + length x.pieces = ap (λ (z : Desk). length z.to_send) x.desk ∙ length-append s.desk.to_send x.pieces in
    let still : while_awaiting (standing_of s'.desk) ≡ while_awaiting (standing_of s.desk) = awaiting-same s.desk s'.desk (ap (λ (z : Desk). z.phase) x.desk) (ap (λ (z : Desk). z.arrived) x.desk) in
    less-steps (text_to_come s) (text_to_come s') (steps_to_come reader l s) (steps_to_come reader' l s') (omega (arith, longer, within, left)) (omega (arith, open_, less, more, still))

pub answered_less : (reader : PageReader) (l l' : Load) (s : Shown) → weight_of l' < weight_of l → turns_to_come reader l' s < turns_to_come reader l s
answered_less reader l l' s less = less-steps (text_to_come s) (text_to_come s) (steps_to_come reader l s) (steps_to_come reader l' s) (omega arith) (omega (arith, less))

pub took_less : (reader : PageReader) (l l' : Load) (s : Shown) → l ≡ record l' { replies = suc l'.replies } → desk.Took s.desk (takes s.entities s.desk) → turns_to_come reader l' (journaled event.Take (takes s.entities s.desk) s) < turns_to_come reader l s
took_less reader l l' s one k =
    let s' : Shown = journaled event.Take (takes s.entities s.desk) s in
    let left = k.left in
    let weight : weight_of l ≡ suc (weight_of l') = ap weight_of one ∙ omega arith in
    let more : length s'.desk.to_send ≡ length s.desk.to_send = ap (λ ys. length ys) k.to_send in
    let still : while_awaiting (standing_of s'.desk) ≡ while_awaiting (standing_of s.desk) = awaiting-same s.desk s'.desk k.phase k.arrived in
    less-steps (text_to_come s) (text_to_come s') (steps_to_come reader l s) (steps_to_come reader l' s') (omega (arith, left)) (omega (arith, weight, more, still))

pub ran_less : (t t' : Option (List ℕ)) (reader : PageReader) (l : Load) (s s' : Shown) → RunsOn t t' s s' → desk.Keeps s.desk s'.desk → length s.desk.asked ≤ 64 → turns_to_come reader l s' < turns_to_come reader l s
ran_less t t' reader l s s' ran k asked =
    let o = ran.others in
    let pieces : length (joined s'.journal.pieces) ≡ length (joined s.journal.pieces) = ap (λ (z : Shown). length (joined z.journal.pieces)) o in
    let open_ : while_open s'.journal.ending ≡ while_open s.journal.ending = ap (λ (z : Shown). while_open z.journal.ending) o in
    let left = ran.less in
    let again = k.to_send in
    let one = awaiting-le (standing_of s'.desk) in
    less-text (text_to_come s) (text_to_come s') (steps_to_come reader l s) (steps_to_come reader l s') (omega (arith, pieces, left)) (omega (arith, open_, again, one, asked))

arrived-standing : (p : Phase) (d : Desk) (name : List ℕ) → standing_in p d ≡ awaiting name → while_awaiting (standing_in p (arrives name d)) ≡ 0
arrived-standing free d name is = absurd (cc is)
arrived-standing (tagged i held) d name is = absurd (cc is)
arrived-standing (waits n held) d name is = by (has_arrived n d) refl is
  where
    either : (a b : Bool) → b ≡ true → (not a || b) ≡ true
    either true b e = e
    either false b e = refl

    by : (b : Bool) → has_arrived n d ≡ b → unless_arrived b n ≡ awaiting name → while_awaiting (unless_arrived (has_arrived n (arrives name d)) n) ≡ 0
    by true q e = absurd (cc e)
    by false q e =
        let same : n ≡ name = cc in
        let among : is_among n (name ∷ d.arrived) ≡ true = subst (λ x. is_among x (name ∷ d.arrived) ≡ true) (sym same) (ap (λ b. b || is_among name d.arrived) (same-refl name)) in
        ap (λ b. while_awaiting (unless_arrived b n)) (either (is_lawful n) (is_among n (name ∷ d.arrived)) among)
arrived-standing (done r) d name is = absurd (cc is)

pub arrived_less : (folder : Folder) (now after : Seen) (reader : PageReader) (l : Load) (s s' : Shown) → Arrives folder now after s s' → turns_to_come reader l s' < turns_to_come reader l s
arrived_less folder now after reader l s s' arr =
    let z : Shown = with_fetch arr.name arr.fetch s in
    let left : left_to_do z.desk ≡ left_to_do s.desk = desk.arrives-left arr.name s.desk in
    let was : while_awaiting (standing_of s.desk) ≡ 1 = ap while_awaiting arr.awaits in
    let is : while_awaiting (standing_of z.desk) ≡ 0 = arrived-standing s.desk.phase s.desk arr.name arr.awaits in
    subst (λ x. turns_to_come reader l x < turns_to_come reader l s) (sym arr.arrived)
    (less-steps (text_to_come s) (text_to_come z) (steps_to_come reader l s) (steps_to_come reader l z) (omega (arith, left)) (omega (arith, was, is)))

-- another that comes early, while one is awaited
pub early_less : (reader : PageReader) (l : Load) (s : Shown) (name awaited : List ℕ) (f : Fetched) → standing_of s.desk ≡ awaiting awaited → turns_to_come reader l (with_fetch name f s) ≤ turns_to_come reader l s
early_less reader l s name awaited f awaits =
    let z : Shown = with_fetch name f s in
    let left : left_to_do z.desk ≡ left_to_do s.desk = desk.arrives-left name s.desk in
    let was : while_awaiting (standing_of s.desk) ≡ 1 = ap while_awaiting awaits in
    let is : while_awaiting (standing_of z.desk) ≤ 1 = awaiting-le (standing_of z.desk) in
    le-steps (text_to_come s) (text_to_come z) (steps_to_come reader l s) (steps_to_come reader l z) (omega (arith, left)) (omega (arith, was, is))

-- and answers that are to come
pub less_still : {a b : ℕ} (n : ℕ) → a < b → a + n < b + n
less_still {a} {b} n less = omega (arith, less)

pub less_then : {a b : ℕ} (n n' : ℕ) → a < b → n' ≤ n → a + n' < b + n
less_then {a} {b} n n' less le = omega (arith, less, le)

-- ---- as the calls answer

pub none-of : (a b : Bool) (o : Option Ending) → b ≡ (a && is_none o) → b ≡ true → o ≡ None
none-of a b o is true_ = by o (and_parts a (is_none o) (sym is ∙ true_)).1
  where
    by : (o : Option Ending) → is_none o ≡ true → o ≡ None
    by None e = refl
    by (Some x) e = absurd (true≢false (sym e))

pub answers-as : (a b : Bool) (l l' : Load) → a ≡ b → Answers a l l' → Answers b l l'
answers-as a b l l' same h = subst (λ x. Answers x l l') same h

-- a reply stands, where one is wanted and nothing else is under way
pub stands_reply : (l l' : Load) (d : Desk) → under_way l + d.taken ≡ d.sent → Answers false l l' → wants_reply d ≡ true → 0 < l'.replies
stands_reply l l' d count (same, requests, hand) wants =
    let some = ltb-true 0 (outstanding d) (and_parts (is_free d.phase && is_empty d.hand) (nat_lt 0 (outstanding d)) wants).1 in
    let replies : l'.replies ≡ l.replies = ap (λ (x : Load). x.replies) same in
    omega (arith, count, requests, hand, some, replies)

module _ (es : Entities) (ahead : ℕ) (folder : Folder) (before : Seen) (t : Option (List ℕ)) (now : Seen) (t' : Option (List ℕ)) (reader : PageReader) (l : Load) (s : Shown) (h : Holds es ahead folder before now t t' reader l s) where
  abbrev one_more : Load
  one_more = record l { requests = suc l.requests }

  pub after_sent : (l' : Load) (s' : Shown) → IsTrue (can_send s.ahead s.desk) → s' ≡ journaled event.Send (sends s.desk) s → Asks l l' → Holds es ahead folder before now t t' reader l' s'
  after_sent l' s' can is asks =
      let one = asks.one in
      let more : under_way l' ≡ under_way one_more = omega (arith, one) in
      holds_answered es ahead folder before t now t' reader one_more l' s' more
      (subst (λ x. Holds es ahead folder before now t t' reader one_more x) (sym is) (holds_sent es ahead folder before t now t' reader l s can h))

  pub after_sent_less : (l' : Load) (s' : Shown) → IsTrue (can_send s.ahead s.desk) → s' ≡ journaled event.Send (sends s.desk) s → Asks l l' → turns_to_come reader l' s' < turns_to_come reader l s
  after_sent_less l' s' can is asks =
      let less : turns_to_come reader one_more s' < turns_to_come reader l s = subst (λ x. turns_to_come reader one_more x < turns_to_come reader l s) (sym is) (sent_less reader l s can) in
      let weight = asks.weight in
      omega (arith, less, weight)

  -- before a Do, and before a script that is awaited is fetched, as much is sent as may be
  pub sent_so_far : is_done s.desk.phase ≡ false → (nat_lt (under_way l) ahead && is_none s.journal.ending) ≡ false → can_send s.ahead s.desk ≡ false → IsSentSoFar s.ahead s.journal.ending s.desk
  sent_so_far going may send = by (nat_lt (under_way l) ahead) refl
    where
      count : under_way l + s.desk.taken ≡ s.desk.sent
      count = h.inside.count

      is : nat_lt (outstanding s.desk) s.ahead ≡ nat_lt (under_way l) ahead
      is = let there : outstanding s.desk ≡ under_way l = omega (arith, count) in ap (λ n. nat_lt n s.ahead) there ∙ ap (λ n. nat_lt (under_way l) n) h.inside.ahead_is

      nil-of : (ps : List Piece) → not (is_empty ps) ≡ false → ps ≡ []
      nil-of [] e = refl
      nil-of (x ∷ xs) e = absurd (true≢false e)

      read-of : (o : Option Ending) → is_none o ≡ false → is_some o ≡ true
      read-of None e = absurd (true≢false e)
      read-of (Some x) e = refl

      by : (b : Bool) → nat_lt (under_way l) ahead ≡ b → IsSentSoFar s.ahead s.journal.ending s.desk
      by false q = inl (is ∙ q)
      by true q = inr (
        read-of s.journal.ending (sym (ap (λ b. b && is_none s.journal.ending) q) ∙ may),
        nil-of s.desk.to_send (sym (ap (λ b. (not b && nat_lt (outstanding s.desk) s.ahead) && not (is_empty s.desk.to_send)) going ∙ ap (λ b. b && not (is_empty s.desk.to_send)) (is ∙ q)) ∙ send),
      )

  module _ (m : Load) (none : Answers false l m) where
    pub with_same : Holds es ahead folder before now t t' reader m s
    with_same = subst (λ x. Holds es ahead folder before now t t' reader x s) (sym none.0) h

    same-turns : turns_to_come reader m s ≡ turns_to_come reader l s
    same-turns = ap (λ x. turns_to_come reader x s) none.0

    pub after_took : (l' : Load) (s' : Shown) → IsTrue (wants_reply s.desk) → m ≡ record l' { replies = suc l'.replies } → s' ≡ journaled event.Take (takes s.entities s.desk) s → Holds es ahead folder before now t t' reader l' s'
    after_took l' s' wants one is = subst (λ x. Holds es ahead folder before now t t' reader l' x) (sym is) (holds_took es ahead folder before t now t' reader m l' s wants one with_same)

    pub after_took_less : (l' : Load) (s' : Shown) → m ≡ record l' { replies = suc l'.replies } → s' ≡ journaled event.Take (takes s.entities s.desk) s → turns_to_come reader l' s' < turns_to_come reader l s
    after_took_less l' s' one is =
        subst (λ n. turns_to_come reader l' s' < n) same-turns
        (subst (λ x. turns_to_come reader l' x < turns_to_come reader m s) (sym is) (took_less reader m l' s one (took-desk es ahead folder before t m l' s one with_same.inside)))

    pub took_sent : (l' : Load) → m ≡ record l' { replies = suc l'.replies } → (takes s.entities s.desk).sent ≡ s.desk.sent
    took_sent l' one = (took-desk es ahead folder before t m l' s one with_same.inside).sent

    -- what was put, and that it goes on so
    pub goes_may_do : (asks : Option (List Asked)) (s' : Shown) → Goes folder.given asks s → IsTrue (can_do s.desk) → IsSentSoFar s.ahead s.journal.ending s.desk → MayDo s s' → Goes folder.given asks s'
    goes_may_do asks s' g can looks (inl stays) = goes_stays asks s s' stays g
    goes_may_do asks s' g can looks (inr did) = goes_did asks s g s' can looks did.does (keeps-desk es ahead folder before t l s s' h.inside did.does).sent did.others

    pub goes_fetched : (asks : Option (List Asked)) (after : Seen) (s' : Shown) → Goes folder.given asks s → is_done s.desk.phase ≡ false → IsSentSoFar s.ahead s.journal.ending s.desk → Arrives folder now after s s' → Goes folder.given asks s'
    goes_fetched asks after s' g going looks arr =
        let waits_for = awaits-in es ahead folder before t s.desk.phase s.desk arr.name arr.awaits in
        let parts : (is_lawful arr.name ≡ true) × (is_among arr.name s.desk.arrived ≡ false) = not-arrived es ahead folder before t (is_lawful arr.name) (is_among arr.name s.desk.arrived) waits_for.2 in
        let can : can_arrive arr.name s.desk ≡ true = ap (λ b. b && not (is_among arr.name s.desk.arrived)) parts.0 ∙ ap not parts.1 in
        goes_arrived asks s g arr.name arr.fetch s' going can (inl (subst (λ p. IsAwaitedIn arr.name p) (sym waits_for.1) refl)) looks arr.arrived

    pub after_ran : (t'' : Option (List ℕ)) (s' : Shown) → IsReplayed s → IsTrue (can_do s.desk) → RunsOn t' t'' s s' → Holds es ahead folder before now t t'' reader m s'
    after_ran t'' s' replayed can ran = holds_ran es ahead folder before t now t' t'' reader m s s' replayed can ran with_same

    pub after_ran_less : (t'' : Option (List ℕ)) (s' : Shown) → ahead ≤ 64 → RunsOn t' t'' s s' → turns_to_come reader m s' < turns_to_come reader l s
    after_ran_less t'' s' few ran =
        let i = with_same.inside in
        let asked = i.asked in
        let credit = i.credit in
        subst (λ n. turns_to_come reader m s' < n) same-turns
        (ran_less t' t'' reader m s s' ran (keeps-desk es ahead folder before t m s s' i ran.does) (omega (arith, asked, credit, few)))

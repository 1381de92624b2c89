-- What those who watch were shown, from event to event.
use Rattle.std.proofs.Common.{◌≡◌, ℕ, ◌+◌, Bool, true, false, List, [], ◌∷◌, ◌++◌, Option, None, Result, Ok, Err, OnOk, OnErr, IsTrue, refl, sym, ap, subst, ◌∙◌, inl, inr, append_assoc, append-nil, fold, if◌then◌else◌, ◌≤◌, length, arith}
use Rattle.std.proofs.lemmas.Grind.{flat_map-append}
use Rattle.std.proofs.lemmas.List.{length-append}
use Rattle.std.proofs.lemmas.List.Sums.{fold-append}
use Rattle.std.specs.Prelude.{nat_lt}
use Rattle.serial.specs.declared.script.Line.{Line}
use Rattle.serial.specs.Scripts.{Fetched}
use Rattle.standard.specs.Act.{Doc, new_doc}
use Rattle.standard.specs.Entities.{Entities}
use Rattle.core_definitions.specs.declared.event.Event.{Event}
use Rattle.core_definitions.specs.declared.event.Event.TheVariants.{Do, Arrive}
use Rattle.core_definitions.specs.Batches.{Piece, Batch}
use Rattle.core_definitions.specs.Desk.{Desk, pieces_with, stale, drops, with_batches, answer_called_for, takes}
use Rattle.core_steps.specs.Sides.{Shown, first_shown, journaled, with_fetch, IsReplayed}
use Rattle.doc_changes.specs.declared.change.Change.{Change}
use Rattle.doc_changes.specs.Changes.{changed, single, singles, after, counted}
use Rattle.doc_changes.specs.Logs.{LogView, with_more}
use Rattle.core_steps.specs.Changing.{DoMakes, LogsDo}
use Rattle.page_turns.specs.Along.{Stays, Did, MayDo, Hands}
use Rattle.outside.specs.Outside.{Seen as Outside}
use Rattle.tree_watch.specs.declared.shown.Stand.{Stand}
use Rattle.tree_watch.specs.declared.watcher.Seen.{Seen}
use Rattle.tree_watch.proofs.Counting.{is-after}
use Rattle.std.specs.List.{All}
use Rattle.std.proofs.lemmas.List.Elements.{All-nil, All-weaker}
use Rattle.page_turns.specs.Scripts.{Folder, Met}
use Rattle.page_turns.specs.Turns.{Brings, from_file, came_early, said_nothing, RunsOn, RunsInPart, part_written, StaysRead}
use Rattle.page_turns.specs.Watched.{Grown, ungrown, grown_by, shown_with, GoesOn, Passed, AllPassed, AreOthers, Rests, RunMade, at_first, by_others, by_do, WasTold, of_all, of_earlier, HasTold, Follows, SeesLast, AreLast, IsLast}
use Rattle.page_turns.proofs.PageTakenLemmas.{front_of_all}

-- ---- the run goes on

keeps_on : (old new : Shown) (more : List Event) → new.entities ≡ old.entities → new.ahead ≡ old.ahead → new.journal.pieces ≡ old.journal.pieces → new.journal.ending ≡ old.journal.ending
    → new.journal.fetches ≡ old.journal.fetches → new.journal.events ≡ old.journal.events ++ more → GoesOn old new
keeps_on old new more entities ahead pieces ending fetches events = record {
  entities = entities;
  ahead = ahead;
  page = ([], ap (λ (ps : List (List ℕ)). pieces_with ps new.journal.ending) pieces ∙ (ap (pieces_with old.journal.pieces) ending ∙ sym (append-nil _)));
  fetches = ([], fetches);
  events = (more, events);
}

pub stands_on : (s : Shown) → GoesOn s s
stands_on s = keeps_on s s [] refl refl refl refl refl (sym (append-nil s.journal.events))

pub stays_on : (old new : Shown) → Stays old new → GoesOn old new
stays_on old new stays = subst (GoesOn old) (sym stays) (keeps_on old (record old { given = new.given; spent = new.spent }) [] refl refl refl refl refl (sym (append-nil old.journal.events)))

pub event_on : (v : Event) (d : Desk) (old new : Shown) → new ≡ record (journaled v d old) { given = new.given; spent = new.spent } → GoesOn old new
event_on v d old new is = subst (GoesOn old) (sym is) (keeps_on old (record (journaled v d old) { given = new.given; spent = new.spent }) (v ∷ []) refl refl refl refl refl refl)

pub journaled_on : (v : Event) (d : Desk) (old new : Shown) → new ≡ journaled v d old → GoesOn old new
journaled_on v d old new is = subst (GoesOn old) (sym is) (keeps_on old (journaled v d old) (v ∷ []) refl refl refl refl refl refl)

pub did_on : (old new : Shown) → MayDo old new → GoesOn old new
did_on old new (inl stays) = stays_on old new stays
did_on old new (inr did) = event_on Do new.desk old new did.others

pub hands_on : (old new : Shown) → old.journal.ending ≡ None → Hands old new → GoesOn old new
hands_on old new none hands = record {
  entities = ap (λ (s : Shown). s.entities) hands.others;
  ahead = ap (λ (s : Shown). s.ahead) hands.others;
  page = (hands.pieces, hands.page ∙ ap (λ e. pieces_with old.journal.pieces e ++ hands.pieces) (sym none));
  fetches = ([], ap (λ (s : Shown). s.journal.fetches) hands.others);
  events = ([], ap (λ (s : Shown). s.journal.events) hands.others ∙ sym (append-nil _));
}

pub fetch_on : (name : List ℕ) (f : Fetched) (old new : Shown) → new ≡ with_fetch name f old → GoesOn old new
fetch_on name f old new is = subst (GoesOn old) (sym is) (record {
  entities = refl;
  ahead = refl;
  page = ([], sym (append-nil _));
  fetches = ((name, f) ∷ [], refl);
  events = (Arrive name ∷ [], refl);
})

-- ---- it rests

-- these events and no others were made
rests_by : (old new : Shown) (more : List Event) → GoesOn old new → AreOthers more → new.journal.events ≡ old.journal.events ++ more → new.desk.own.side.doc ≡ old.desk.own.side.doc → Rests old new
rests_by old new more on others is doc = record { goes_on = record on { events = (more, is) }; others = others; doc = doc }

-- none was made
rests_still : (old new : Shown) → GoesOn old new → new.journal.events ≡ old.journal.events → new.desk.own.side.doc ≡ old.desk.own.side.doc → Rests old new
rests_still old new on is doc = rests_by old new [] on tt (is ∙ sym (append-nil old.journal.events)) doc

pub stands_rests : (s : Shown) → Rests s s
stands_rests s = rests_still s s (stands_on s) refl refl

pub stays_rests : (old new : Shown) → Stays old new → Rests old new
stays_rests old new stays = rests_still old new (stays_on old new stays) (ap (λ (z : Shown). z.journal.events) stays) (ap (λ (z : Shown). z.desk.own.side.doc) stays)

pub journaled_rests : (v : Event) (d : Desk) (old new : Shown) → AreOthers (v ∷ []) → new ≡ journaled v d old → d.own.side.doc ≡ old.desk.own.side.doc → Rests old new
journaled_rests v d old new others is doc =
    rests_by old new (v ∷ []) (journaled_on v d old new is) others (ap (λ (z : Shown). z.journal.events) is) (ap (λ (z : Shown). z.desk.own.side.doc) is ∙ doc)

pub hands_rests : (old new : Shown) → old.journal.ending ≡ None → Hands old new → Rests old new
hands_rests old new none hands =
    rests_still old new (hands_on old new none hands) (ap (λ (z : Shown). z.journal.events) hands.others) (ap (λ (d : Desk). d.own.side.doc) hands.desk)

fetch_rests : (name : List ℕ) (f : Fetched) (old new : Shown) → new ≡ with_fetch name f old → Rests old new
fetch_rests name f old new is =
    rests_by old new (Arrive name ∷ []) (fetch_on name f old new is) tt (ap (λ (z : Shown). z.journal.events) is) (ap (λ (z : Shown). z.desk.own.side.doc) is)

-- a script that is awaited was brought, or another came early
module _ (o : Folder) (before after : Outside) (given : Met) (n n' : ℕ) (old new : Shown) where
  pub brought_rests : Brings o before after given n n' old new → Rests old new
  brought_rests (from_file arr same le) = fetch_rests arr.name arr.fetch old new arr.arrived
  brought_rests (came_early name f one unmet still is less) = fetch_rests name f old new is
  brought_rests (said_nothing still same is less) = subst (Rests old) (sym is) (stands_rests old)

pub then_on : (a b c : Shown) → GoesOn a b → GoesOn b c → GoesOn a c
then_on a b c first next = record {
  entities = next.entities ∙ first.entities;
  ahead = next.ahead ∙ first.ahead;
  page = (first.page.0 ++ next.page.0, next.page.1 ∙ (ap (λ ps. ps ++ next.page.0) first.page.1 ∙ append_assoc _ first.page.0 next.page.0));
  fetches = (next.fetches.0 ++ first.fetches.0, next.fetches.1 ∙ (ap (λ fs. next.fetches.0 ++ fs) first.fetches.1 ∙ sym (append_assoc next.fetches.0 first.fetches.0 a.journal.fetches)));
  events = (first.events.0 ++ next.events.0, next.events.1 ∙ (ap (λ vs. vs ++ next.events.0) first.events.1 ∙ append_assoc a.journal.events first.events.0 next.events.0));
}

-- ---- what it passed through

pub passed_on : (old new : Shown) (d : Doc) → GoesOn old new → Passed old d → Passed new d
passed_on old new d on passed = record { state = passed.state; replayed = passed.replayed; goes_on = then_on passed.state old new passed.goes_on on; doc = passed.doc }

pub all_passed_on : (old new : Shown) (ds : List Doc) → GoesOn old new → AllPassed old ds → AllPassed new ds
all_passed_on old new [] on all = tt
all_passed_on old new (d ∷ ds) on all = (passed_on old new d on all.0, all_passed_on old new ds on all.1)

pub passed_here : (s : Shown) → IsReplayed s → Passed s s.desk.own.side.doc
passed_here s replayed = record { state = s; replayed = replayed; goes_on = stands_on s; doc = refl }

passed_last : (s : Shown) (ds : List Doc) (d : Doc) → AllPassed s ds → Passed s d → AllPassed s (ds ++ d ∷ [])
passed_last s [] d all one = (one, tt)
passed_last s (x ∷ xs) d all one = (all.0, passed_last s xs d all.1 one)

-- ---- the changes that it made

pub counted-append : (a b : List Change) → counted (a ++ b) ≡ counted a + counted b
counted-append a b = ap length (flat_map-append single a b) ∙ length-append (singles a) (singles b)

pub made_leads : (s : Shown) (changes : List Change) → RunMade s changes → fold changed new_doc changes ≡ s.desk.own.side.doc
made_leads s _ (at_first es ahead) = refl
made_leads s changes (by_others old new cs before rests) = made_leads old cs before ∙ sym rests.doc
made_leads s _ (by_do old new cs more before replayed did makes) =
    fold-append changed new_doc cs more ∙ (ap (λ (d : Doc). fold changed d more) (made_leads old cs before) ∙ makes.leads)

-- before any event
pub follows_first : (es : Entities) (ahead : ℕ) (s : Shown) (g : Grown) (shown : List Doc) → s ≡ first_shown es ahead → g ≡ ungrown → shown ≡ [] → Follows s g shown
follows_first es ahead s g shown first empty none = record {
  changes = [];
  run = subst (λ (z : Shown). RunMade z []) (sym first) (at_first es ahead);
  count = ap (λ (z : Grown). z.count) empty;
  doc_is = ap (λ (z : Grown). z.doc) empty ∙ sym (ap (λ (z : Shown). z.desk.own.side.doc) first);
  passed = subst (AllPassed s) (sym none) tt;
}

-- the document stays, and what was shown
pub follows_on : (old new : Shown) (g : Grown) (shown : List Doc) → Rests old new → Follows old g shown → Follows new g shown
follows_on old new g shown rests follows = record {
  changes = follows.changes;
  run = by_others old new follows.changes follows.run rests;
  count = follows.count;
  doc_is = follows.doc_is ∙ sym rests.doc;
  passed = all_passed_on old new shown rests.goes_on follows.passed;
}

-- the same after other events but Do
pub passed_as : (b : Bool) (old new : Shown) (g : Grown) (shown : List Doc) → GoesOn old new → (IsTrue b → Follows old g shown) → IsTrue b → AllPassed new shown
passed_as b old new g shown on follows is = all_passed_on old new shown on (follows is).passed

-- all was told
pub told_all : (s : Shown) (g : Grown) (shown : List Doc) → Follows s g shown → HasTold s g
told_all s g shown follows = record { changes = follows.changes; count = follows.count; told = of_all follows.run follows.doc_is }

-- the document is still the one to which all led that was told
pub told_same : (old new : Shown) (g : Grown) (shown : List Doc) → Rests old new → Follows old g shown → HasTold new g
told_same old new g shown rests follows = told_all new g shown (follows_on old new g shown rests follows)

-- what a Do did wasn't told
pub told_before : (old new : Shown) (g : Grown) (shown : List Doc) → IsReplayed old → MayDo old new → Follows old g shown → HasTold new g
told_before old new g shown replayed (inl stays) follows = told_same old new g shown (stays_rests old new stays) follows
told_before old new g shown replayed (inr did) follows = record {
  changes = follows.changes;
  count = follows.count;
  told = of_earlier old replayed (event_on Do new.desk old new did.others) (ap (λ (z : Shown). z.journal.events) did.others) follows.run follows.doc_is;
}

-- at the end
pub told_at : {T E : Type 0} (r : Result T E) (s : Shown) (g : Grown) (shown : List Doc) → OnOk r (Follows s g shown) → OnErr r (HasTold s g) → HasTold s g
told_at (Ok x) s g shown follows told = told_all s g shown follows
told_at (Err e) s g shown follows told = told

-- what was told led to a document of the run
was-passed : (s : Shown) (changes : List Change) (doc : Doc) → IsReplayed s → WasTold s changes doc → Passed s doc
was-passed s changes doc replayed (of_all run same) = subst (Passed s) (sym same) (passed_here s replayed)
was-passed s changes doc replayed (of_earlier earlier was on events run is) =
    subst (Passed s) (sym is) (passed_on earlier s earlier.desk.own.side.doc on (passed_here earlier was))

pub told_passed : (s : Shown) (g : Grown) → IsReplayed s → HasTold s g → Passed s g.doc
told_passed s g replayed has = was-passed s has.changes g.doc replayed has.told

pub told_leads : (s : Shown) (changes : List Change) (doc : Doc) → WasTold s changes doc → fold changed new_doc changes ≡ doc
told_leads s changes doc (of_all run same) = made_leads s changes run ∙ sym same
told_leads s changes doc (of_earlier earlier was on events run is) = made_leads earlier changes run ∙ sym is

-- a log that is kept
pub log_on : (b : Bool) (log : LogView) → log ≡ record { on = b; list = [] } → b ≡ true → log ≡ record { on = true; list = [] }
log_on b log is on = subst (λ (x : Bool). log ≡ record { on = x; list = [] }) on is

-- a Do whose lines were written
abbrev with_given : Shown → List Line → Bool → Shown
with_given s lines spent = record s { given = lines; spent = spent }

pub ran_did : (t t' : Option (List ℕ)) (old new : Shown) → RunsOn t t' old new → Did old new
ran_did t t' old new ran = record {
  does = ran.does;
  others =
      let s : Shown = journaled Do new.desk old in
      let lines : new.given ≡ new.desk.own.side.lines = ap (λ (z : Shown). z.given) ran.others in
      let spent : new.spent ≡ old.spent = ap (λ (z : Shown). z.spent) ran.others in
      ran.others ∙ sym (ap (λ (ls : List Line). with_given s ls new.spent) lines ∙ ap (λ (b : Bool). with_given s new.desk.own.side.lines b) spent);
}

-- of which all was told
module _ (old new : Shown) (log log' : LogView) (changes : List Change) (log_is : log ≡ record { on = true; list = [] })
    (logs : LogsDo old.entities old.journal.fetches old.desk new.desk log log') (changes_is : changes ≡ log'.list) where
  does-make : DoMakes old.entities old.journal.fetches old.desk new.desk changes
  does-make =
      let all : changes ≡ logs.more = changes_is ∙ (ap (λ (l : LogView). l.list) logs.adds ∙ ap (λ (l : LogView). (with_more logs.more l).list) log_is) in
      subst (DoMakes old.entities old.journal.fetches old.desk new.desk) (sym all) logs.made

  pub did_follow : (g g' : Grown) (shown shown' : List Doc) → Did old new → IsReplayed old → IsReplayed new → g' ≡ grown_by g changes →
      shown' ≡ shown_with changes shown (fold changed g.doc changes) → Follows old g shown → Follows new g' shown'
  did_follow g g' shown shown' did was replayed grown shown_is follows = record {
    changes = follows.changes ++ changes;
    run = by_do old new follows.changes changes follows.run was did does-make;
    count =
        ap (λ (z : Grown). z.count) grown
        ∙ (ap (λ n. n + counted changes) follows.count ∙ sym (counted-append follows.changes changes));
    doc_is = ap (λ (z : Grown). z.doc) grown ∙ leads;
    passed = subst (AllPassed new) (sym shown_is) (by changes);
  }
    where
      leads : fold changed g.doc changes ≡ new.desk.own.side.doc
      leads = ap (λ (d : Doc). fold changed d changes) follows.doc_is ∙ does-make.leads

      before : AllPassed new shown
      before = all_passed_on old new shown (event_on Do new.desk old new did.others) follows.passed

      now : Passed new (fold changed g.doc changes)
      now = subst (Passed new) (sym leads) (passed_here new replayed)

      by : (cs : List Change) → AllPassed new (shown_with cs shown (fold changed g.doc changes))
      by [] = before
      by (c ∷ cs) = passed_last new shown (fold changed g.doc changes) before now

-- ---- what was seen last

-- the document after all changes is the one to which they lead
after-all : (changes : List Change) (n : ℕ) (doc : Doc) → n ≡ counted changes → fold changed new_doc changes ≡ doc → after changes n ≡ doc
after-all changes n doc count leads =
    let s : Stand = record { doc = doc; changes = n; opened = true; last = true } in
    ap (λ (l : List Change). after l n) (sym (append-nil changes)) ∙ is-after changes [] s (record { doc = sym leads; count = count })

-- what was told is what was seen
pub saw_last : (s : Shown) (g : Grown) (has : HasTold s g) (seen : List Seen) → AreLast g seen → All (IsLast has.changes g.doc) seen
saw_last s g has seen each = All-weaker _ _ one seen each
  where
    one : (x : Seen) → SeesLast g x → IsLast has.changes g.doc x
    one x sees =
        let counts : x.changes ≡ counted has.changes = sees.counts ∙ has.count in
        record {
          text = sees.text;
          after_first = after-all has.changes x.changes g.doc counts (told_leads s has.changes g.doc has.told);
          counts = counts;
          marked = sees.marked;
        }

-- ---- nobody watches

-- none are no more than so many
pub few_none : {A : Type 0} (xs : List A) (n : ℕ) → xs ≡ [] → length xs ≤ n
few_none xs n none = let least : 0 ≤ n = omega arith in subst (λ l. length l ≤ n) (sym none) least

pub none_seen : (g : Grown) (seen : List Seen) → seen ≡ [] → AreLast g seen
none_seen g seen none = subst (AreLast g) (sym none) (All-nil (SeesLast g))

-- ---- a Take leaves the document

with-own : (bs : List Batch) (xs : List Piece) (d : Desk) → (with_batches bs xs d).own ≡ d.own
with-own bs [] d = refl
with-own bs (x ∷ xs) d = refl

pub takes-own : (es : Entities) (d : Desk) → (takes es d).own ≡ d.own
takes-own es d = by (nat_lt 0 (stale d))
  where
    by : (b : Bool) → (if b then drops d else with_batches (answer_called_for es d d.asked) d.asked d).own ≡ d.own
    by true = refl
    by false = with-own (answer_called_for es d d.asked) d.asked d

-- ---- memory ran out behind a Do whose lines were written

pub ran_in_part : (t t' : Option (List ℕ)) (old new : Shown) → RunsOn t t' old new → RunsInPart t t' old new
ran_in_part t t' old new ran = part_written ran.more ran.others ran.lines (front_of_all t t' _ ran.took)

pub ran_read : (t t' : Option (List ℕ)) (old new : Shown) → RunsOn t t' old new → StaysRead old new
ran_read t t' old new ran = subst (λ z. StaysRead old z) (sym ran.others) refl

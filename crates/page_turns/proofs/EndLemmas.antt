-- What the run of a page comes to, by its journal.
use Rattle.std.proofs.Common.{◌≡◌, ℕ, Bool, List, ◌++◌, Option, None, Ok, Err, OnErr, flat_map, sym, ap, subst, ◌∙◌, inl, inr, append_assoc}
use Rattle.std.specs.Prelude.{Result, IfOk}
use Rattle.std.proofs.lemmas.Grind.{flat_map-append}
use Rattle.outside.specs.Outside.{Seen}
use Rattle.standard.specs.Entities.{Entities}
use Rattle.serial.specs.Output.{line_text, result_with, output_with}
use Rattle.serial.specs.Serial.{World, Serial, Outcome, IsSerial}
use Rattle.serial.specs.Serial as serial
use Rattle.standard_laws.specs.Laws.{GoesOnFrom}
use Rattle.standard_laws.proofs.Total.{has_outcome}
use Rattle.core_definitions.specs.Core.{whole_page}
use Rattle.core_definitions.specs.Desk.{Phase, free, tagged, waits, done, Desk}
use Rattle.core_laws.proofs.Standing.{ends-as-serial, lines-begin}
use Rattle.core_steps.specs.Sides.{Shown, ShowsIn, IsReplayed}
use Rattle.parse_machine.specs.declared.end.End.{End}
use Rattle.page_turns.specs.Taken.{Took, TookFront}
use Rattle.parse_machine.specs.Ends.{result_of}
use Rattle.speculation.specs.Asking.{Asked}
use Rattle.page_turns.specs.Along.{Goes}
use Rattle.page_turns.specs.Scripts.{Folder}
use Rattle.page_turns.specs.Pages.{PageRead, page_at, world_of, ComesTo, BeginsAwaited, EndsWithScripts, FrontWithScripts}
use Rattle.page_turns.specs.Turns.{LeavesAlone, Leaves, GivesUp, RunsOut}
use Rattle.page_turns.specs.WrittenInPart.{IsDue, WritesInPart}
use Rattle.page_turns.proofs.PageTakenLemmas.{front_longer}
use Rattle.page_turns.proofs.DeskLemmas.{shows-phase}
use Rattle.page_turns.proofs.SameWorlds.{serial-same, serial-back}
use Rattle.page_turns.proofs.ReachLemmas.{scripts_with, knows-met, IsRun, is_run}
use Rattle.page_turns.proofs.WorldLemmas.{HasWorld, has_world}
use Rattle.page_turns.proofs.StopLemmas.{stops_there}
use Rattle.page_turns.proofs.AwaitLemmas.{all_awaited}

pub shown-lines : (p : Phase) (d v : Desk) → ShowsIn p d v → d.own.side.lines ≡ v.own.side.lines
shown-lines free d v is = ap (λ (z : Desk). z.own.side.lines) is
shown-lines (tagged i held) d v is = ap (λ (z : Desk). z.own.side.lines) is
shown-lines (waits name held) d v is = ap (λ (z : Desk). z.own.side.lines) is
shown-lines (done r) d v (is, doc, lines, counts) = lines

module _ (es : Entities) (ahead : ℕ) (folder : Folder) (before after : Seen) (s : Shown) (replayed : IsReplayed s) (leaves : Leaves es ahead folder before after s) where
  pub has : HasWorld folder before after s.journal.fetches
  has = has_world folder before after s.journal.fetches leaves.fetches

  abbrev page : PageRead
  page = leaves.page.page

  -- the world of the folder, and the one in which all that was fetched is as the journal has it
  abbrev w : World
  w = world_of es has.scripts

  abbrev v : World
  v = record { entities = es; scripts = scripts_with s.journal.fetches has.scripts }

  run : IsRun (page_at page) v s.ahead s
  run = is_run (page_at page) v s leaves.page.is (sym leaves.entities) (knows-met es s.journal.fetches has.scripts leaves.known) replayed

  in_run : (o : Outcome) → IsSerial (page_at page) v o → IsSerial (whole_page run.run) run.run.world o
  in_run o comes = subst (λ x. IsSerial (whole_page run.run) x o) (sym run.world) (subst (λ p. IsSerial p v o) (sym run.page_is) comes)

  own_is : run.desk.own ≡ run.replayed.own
  own_is = ap (λ (z : Desk). z.own) run.same.1

  lines_are : run.desk.own.side.lines ≡ s.desk.own.side.lines
  lines_are = ap (λ (z : Serial). z.side.lines) own_is ∙ shown-lines s.desk.phase run.replayed s.desk run.shows

  phase_is : run.desk.phase ≡ s.desk.phase
  phase_is = ap (λ (z : Desk). z.phase) run.same.1 ∙ shows-phase run.replayed s.desk run.shows

  -- the lines begin those of the outcome
  pub begins : (o : Outcome) → ComesTo w page o → GoesOnFrom s.desk.own.side.lines o.last.side.lines
  begins o comes =
      subst (λ l. GoesOnFrom l o.last.side.lines) lines_are (lines-begin run.run s.journal.events run.desk o run.reached (in_run o (serial-same w (scripts_with s.journal.fetches has.scripts) has.alike (page_at page) o comes)))

  -- each script that was begun is awaited
  pub begins_here : (asks : Option (List Asked)) → Goes folder.given asks s → BeginsAwaited w (page_at page) folder.dir before after
  begins_here asks goes =
      let begins = leaves.fetches.begins in
      record {
        names = begins.which.names;
        begun = begins.which.begun;
        awaited = all_awaited (page_at page) es has.scripts s leaves.page.is leaves.entities leaves.known has.alike replayed folder.given asks goes leaves.unmet begins.which.names begins.met leaves.awaited begins.late;
      }

  pub front_here : (t t' : Option (List ℕ)) → BeginsAwaited w (page_at page) folder.dir before after → TookFront t t' (flat_map line_text s.desk.own.side.lines) → FrontWithScripts es folder before after t t'
  unfolding output_with
  front_here t t' awaited front = record {
    scripts = has.scripts;
    are_scripts = has.are_scripts;
    page = page;
    read_from = leaves.page.read_from;
    begins = awaited;
    front = front_of;
  }
    where
      front_of : (dump : Bool) (o : Outcome) → ComesTo w page o → TookFront t t' (output_with dump o)
      front_of dump o comes =
          let more = begins o comes in
          let rest = result_with dump o.result o.last.side.doc.tree in
          subst (λ text. TookFront t t' (text ++ rest)) (sym (ap (flat_map line_text) more.1 ∙ flat_map-append line_text s.desk.own.side.lines more.0))
          (subst (λ text. TookFront t t' text) (sym (append_assoc (flat_map line_text s.desk.own.side.lines) (flat_map line_text more.0) rest))
          (front_longer t t' (flat_map line_text s.desk.own.side.lines) (flat_map line_text more.0 ++ rest) front))

  -- where the parse is over
  module _ (r : serial.Result) (over_there : s.desk.phase ≡ done r) where
    pub outcome : (o : Outcome) × IsSerial (page_at page) v o
    outcome = has_outcome (page_at page) v

    same_end : (r ≡ outcome.0.result) × (run.desk.own.side.lines ≡ outcome.0.last.side.lines) × (run.desk.own.side.doc.tree ≡ outcome.0.last.side.doc.tree)
    same_end = ends-as-serial run.run s.journal.events run.desk r outcome.0 run.reached (phase_is ∙ over_there) (in_run outcome.0 outcome.1)

    doc_is : run.desk.own.side.doc ≡ s.desk.own.side.doc
    doc_is = ap (λ (z : Serial). z.side.doc) own_is ∙ (subst (λ p. ShowsIn p run.replayed s.desk) over_there run.shows).1

    pub comes : ComesTo w page outcome.0
    comes = serial-back w (scripts_with s.journal.fetches has.scripts) has.alike (page_at page) outcome.0 outcome.1

-- in either case what is left alone
pub left_alone : {E : Type 0} (es : Entities) (ahead : ℕ) (folder : Folder) (before after : Seen) (t t' : Option (List ℕ)) (s : Shown) (r : Result End E) → IfOk r (λ o. RunsOut es ahead folder before after t t' s o)
    → OnErr r (GivesUp es ahead folder before after t t' s) → LeavesAlone folder.dir before after
left_alone es ahead folder before after t t' s (Ok o) out gives = out.alone
left_alone es ahead folder before after t t' s (Err e) out gives = gives.alone

-- and what is in the journal
pub left_behind : {E : Type 0} (es : Entities) (ahead : ℕ) (folder : Folder) (before after : Seen) (t t' : Option (List ℕ)) (s : Shown) (r : Result End E) → IfOk r (λ o. RunsOut es ahead folder before after t t' s o)
    → OnErr r (GivesUp es ahead folder before after t t' s) → Leaves es ahead folder before after s
left_behind es ahead folder before after t t' s (Ok o) out gives = out.leaves
left_behind es ahead folder before after t t' s (Err e) out gives = gives.left

-- the sink took a front
pub gave_up : (es : Entities) (ahead : ℕ) (folder : Folder) (before after : Seen) (t t' : Option (List ℕ)) (s : Shown) → IsReplayed s → GivesUp es ahead folder before after t t' s → FrontWithScripts es folder before after t t'
gave_up es ahead folder before after t t' s replayed gives = front_here es ahead folder before after gives.shown (gives.replayed replayed) gives.leaves t t' (begins_here es ahead folder before after gives.shown (gives.replayed replayed) gives.leaves None gives.goes) gives.front

-- all lines of the events before the refused one, and a front of what that one was to write
pub gave_part : (es : Entities) (ahead : ℕ) (folder : Folder) (before after : Seen) (t t' : Option (List ℕ)) (s : Shown) → IsReplayed s → GivesUp es ahead folder before after t t' s → WritesInPart es ahead t t' (IsDue s)
gave_part es ahead folder before after t t' s replayed gives = gives.part replayed

-- or all
pub ran_out : (es : Entities) (ahead : ℕ) (folder : Folder) (before after : Seen) (t t' : Option (List ℕ)) (s : Shown) (o : End) (asks : Option (List Asked)) → IsReplayed s → Goes folder.given asks s → RunsOut es ahead folder before after t t' s o
    → EndsWithScripts es folder before after s.desk.own.side.doc s.desk.own.side.lines t t' o
ran_out es ahead folder before after t t' s o asks replayed goes out =
    let there = has es ahead folder before after s replayed out.leaves in
    let end = same_end es ahead folder before after s replayed out.leaves (result_of o) out.phase in
    let last = outcome es ahead folder before after s replayed out.leaves (result_of o) out.phase in
    record {
      scripts = there.scripts;
      are_scripts = there.are_scripts;
      page = out.leaves.page.page;
      read_from = out.leaves.page.read_from;
      ended = record {
        outcome = last.0;
        comes = comes es ahead folder before after s replayed out.leaves (result_of o) out.phase;
        result = sym end.0;
        tree = sym end.2 ∙ ap (λ d. d.tree) (doc_is es ahead folder before after s replayed out.leaves (result_of o) out.phase);
        lines = sym end.1 ∙ lines_are es ahead folder before after s replayed out.leaves;
        took = subst (λ l. Took t t' (flat_map line_text l)) (sym (lines_are es ahead folder before after s replayed out.leaves) ∙ end.1) out.took;
      };
      faults = elim out.faults [
        | inl none ↦ inl none
        | inr stop ↦ inr (stops_there (page_at out.leaves.page.page) es there.scripts s out.leaves.page.is out.leaves.entities out.leaves.known there.alike stop last.0 (comes es ahead folder before after s replayed out.leaves (result_of o) out.phase))
      ];
      begins = begins_here es ahead folder before after s replayed out.leaves asks goes;
    }

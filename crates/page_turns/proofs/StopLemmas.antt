-- Where the parse stopped at a script whose fetch failed the serial parse stops at it too.
use Rattle.std.proofs.Common.{◌≡◌, ℕ, true, List, [], Some, refl, sym, ap, subst, ◌∙◌}
use Rattle.html_types.specs.declared.operation.NodeId.{NodeId}
use Rattle.html_types.specs.declared.ending.Why.TheVariants as why
use Rattle.standard.specs.Entities.{Entities}
use Rattle.serial.specs.Page.{Page}
use Rattle.serial.specs.Scripts.{Fetched, got, missing, faulted, is_lawful}
use Rattle.serial.specs.Serial.{World, fetched_if, fetched, Serial, first, Moment, reading, tag_ended, awaits, over, Outcome, refusal, after_fetch, moment_after, IsSerial, Passes}
use Rattle.standard_laws.proofs.Fuel.{one_outcome}
use Rattle.standard_laws.proofs.Passing.{leads-next, passes-over}
use Rattle.core_definitions.specs.Core.{whole_page}
use Rattle.core_definitions.specs.Desk.{waits, Desk}
use Rattle.core_definitions.specs.StandsFor.{CarriesMoment, own_moment, page_left}
use Rattle.core_laws.proofs.Standing.{always-stands_for}
use Rattle.core_steps.specs.Sides.{Shown}
use Rattle.page_turns.specs.Scripts.{Alike, AreKnown}
use Rattle.page_turns.specs.Pages.{IsPageBehind, StopsAtScript}
use Rattle.page_turns.specs.Turns.{earlier, StoppedAt}
use Rattle.page_turns.proofs.DeskLemmas.{shows-phase}
use Rattle.page_turns.proofs.ReachLemmas.{found_or, scripts_with, knows-met, IsRun, is_run}
use Rattle.page_turns.proofs.SameWorlds.{passes-back}
use Rattle.page_turns.proofs.TextLemmas.{lawful-found}

alike-faulted : (f : Fetched) → Alike f faulted → f ≡ faulted
alike-faulted (got bytes) same = absurd same
alike-faulted missing same = absurd same
alike-faulted faulted same = refl

-- a desk that waits for a script stands for a moment that awaits it
pub waits-stands : (r : NodeId → NodeId) (left : List ℕ) (name : List ℕ) (own : Serial) (m : Moment) → CarriesMoment r left m (awaits name own) → (last : Serial) × (m ≡ awaits name last)
waits-stands r left name own (reading s) carries = absurd carries
waits-stands r left name own (tag_ended i s) carries = absurd carries
waits-stands r left name own (awaits n s) (same, carries) = (s, ap (λ x. awaits x s) (sym same))
waits-stands r left name own (over o) carries = absurd carries

module _ (page : Page) (es : Entities) (scripts : List ℕ → Fetched) (s : Shown) (behind : IsPageBehind s.journal.ending s.journal.pieces page) (entities : s.entities ≡ es) (known : AreKnown s.journal.fetches)
    (alike : (name : List ℕ) → Alike (scripts name) (scripts_with s.journal.fetches scripts name)) (stop : StoppedAt s) where
  abbrev w : World
  w = record { entities = es; scripts = scripts }

  abbrev v : World
  v = record { entities = es; scripts = scripts_with s.journal.fetches scripts }

  abbrev was : Shown
  was = earlier stop.events stop.desk s

  run : IsRun page v was.ahead was
  run = is_run page v was behind (sym entities) (knows-met es s.journal.fetches scripts known) stop.replayed

  phase_is : run.desk.phase ≡ waits stop.name stop.held
  phase_is = ap (λ (z : Desk). z.phase) run.same.1 ∙ shows-phase run.replayed stop.desk run.shows ∙ stop.awaited

  awaited : (last : Serial) × Passes page w (awaits stop.name last)
  awaited =
      let (m, m', passes, stands, leads, stands') = always-stands_for run.run stop.events [] run.desk run.desk run.reached refl in
      let carries : CarriesMoment stands.0 (page_left run.desk) m (awaits stop.name run.desk.own) = subst (λ p. CarriesMoment stands.0 (page_left run.desk) m (own_moment p run.desk.own)) phase_is stands.2 in
      let (last, is) = waits-stands stands.0 (page_left run.desk) stop.name run.desk.own m carries in
      let there : Passes (whole_page run.run) run.run.world (awaits stop.name last) = subst (λ x. Passes (whole_page run.run) run.run.world x) is passes in
      let here : Passes page v (awaits stop.name last) = subst (λ x. Passes page x (awaits stop.name last)) run.world (subst (λ p. Passes p run.run.world (awaits stop.name last)) run.page_is there) in
      (last, passes-back w (scripts_with s.journal.fetches scripts) alike page (awaits stop.name last) here)

  lawful : is_lawful stop.name ≡ true
  lawful = lawful-found stop.name s.journal.fetches faulted known.lawful stop.failed

  failed : fetched w stop.name ≡ faulted
  failed =
      ap (λ b. fetched_if b w stop.name) lawful ∙ alike-faulted (scripts stop.name) (subst (λ f. Alike (scripts stop.name) f) (ap (found_or (scripts stop.name)) stop.failed) (alike stop.name))

  next : (last : Serial) → moment_after 0 page.ending w (awaits stop.name last) ≡ Some (over (refusal why.Fault last))
  unfolding moment_after
  next last = ap (λ f. after_fetch 0 w stop.name last f) failed

  ends : (last : Serial) → Passes page w (awaits stop.name last) → IsSerial page w (refusal why.Fault last)
  ends last passes =
      passes-over page w (refusal why.Fault last) (leads-next page.ending w (reading (first page)) 0 (awaits stop.name last) (over (refusal why.Fault last)) passes (next last))

  pub stops_there : (o : Outcome) → IsSerial page w o → StopsAtScript w page o
  stops_there o comes = record {
    name = stop.name;
    last = awaited.0;
    awaited = awaited.1;
    failed = failed;
    refused_there = one_outcome page w o (refusal why.Fault awaited.0) comes (ends awaited.0 awaited.1);
  }

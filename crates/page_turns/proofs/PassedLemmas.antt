-- What a run passed through, the serial parse passes through.
use Rattle.std.proofs.Common.{◌≡◌, ℕ, List, [], ◌∷◌, ◌++◌, Option, Some, None, refl, sym, ap, subst, ◌∙◌, append_assoc, append-nil}
use Rattle.html_types.specs.declared.ending.Ending.{Ending}
use Rattle.serial.specs.Scripts.{Fetched}
use Rattle.serial.specs.Serial.{World}
use Rattle.standard.specs.Act.{Doc}
use Rattle.core_definitions.specs.declared.event.Event.{Event}
use Rattle.core_definitions.specs.Batches.{Piece}
use Rattle.core_definitions.specs.Core.{Setup}
use Rattle.core_definitions.specs.Desk.{Desk, first_desk, pieces_with, with_more, MovesBy}
use Rattle.core_definitions.specs.Journal.{Knows, IsPageOf, IsRunOf}
use Rattle.core_laws.specs.DeskLaws.{IsReached}
use Rattle.core_laws.proofs.Handing.{more-may_follow}
use Rattle.core_laws.proofs.Standing.{always-stands_for}
use Rattle.core_steps.specs.Sides.{Shown, Shows}
use Rattle.page_turns.specs.Watched.{Passed, PassedStand}
use Rattle.page_turns.proofs.ReachLemmas.{pieces-more}
use Rattle.page_turns.proofs.ReplayLemmas.{shown-doc}

knows-older : (newer older : List (List ℕ × Fetched)) (w : World) → Knows (newer ++ older) w → Knows older w
knows-older [] older w knows = knows
knows-older (f ∷ fs) older w knows = knows-older fs older w knows.1

-- the pieces that the run has, with those behind
whole-page : (x : Setup) (o : Option Ending) (pieces : List (List ℕ)) → IsPageOf o pieces x → (behind : List Piece) × (pieces_with pieces o ++ behind ≡ pieces_with x.pieces (Some x.ending))
whole-page x None pieces (more, all) =
    (pieces_with more (Some x.ending), pieces-more pieces more x.ending ∙ ap (λ (ts : List (List ℕ)). pieces_with ts (Some x.ending)) (sym all))
whole-page x (Some e) pieces (all, end) =
    ([], append-nil _ ∙ (ap (λ (ts : List (List ℕ)). pieces_with ts (Some e)) (sym all) ∙ ap (λ (y : Ending). pieces_with x.pieces (Some y)) (sym end)))

record Reached (x : Setup) (d : Doc) : Type 0 where
  events : List Event
  desk : Desk
  is : IsReached x events desk
  doc : desk.own.side.doc ≡ d

passed-reached : (x : Setup) (s : Shown) (d : Doc) → IsRunOf s.entities s.ahead s.journal x → Passed s d → Reached x d
passed-reached x s d run passed = record {
  events = passed.state.journal.events;
  desk = with_more behind there.0;
  is = subst (λ n. MovesBy n x.world passed.state.journal.events (first_desk (pieces_with x.pieces (Some x.ending))) (with_more behind there.0)) (sym passed.goes_on.ahead ∙ sym run.credit)
      (subst (λ ps. MovesBy passed.state.ahead x.world passed.state.journal.events (first_desk ps) (with_more behind there.0)) all
      (more-may_follow passed.state.ahead x.world passed.state.journal.events behind (first_desk (pieces_with passed.state.journal.pieces passed.state.journal.ending)) there.0 there.1));
  doc = shown-doc passed.state.desk.phase there.0 passed.state.desk there.2 ∙ passed.doc;
}
  where
    there : (k : Desk) × MovesBy passed.state.ahead x.world passed.state.journal.events (first_desk (pieces_with passed.state.journal.pieces passed.state.journal.ending)) k × Shows k passed.state.desk
    there =
        passed.replayed x.world (run.entities ∙ passed.goes_on.entities)
        (knows-older passed.goes_on.fetches.0 passed.state.journal.fetches x.world (subst (λ fs. Knows fs x.world) passed.goes_on.fetches.1 run.fetches))

    rest : (behind : List Piece) × (pieces_with s.journal.pieces s.journal.ending ++ behind ≡ pieces_with x.pieces (Some x.ending))
    rest = whole-page x s.journal.ending s.journal.pieces run.page

    behind : List Piece
    behind = passed.goes_on.page.0 ++ rest.0

    all : pieces_with passed.state.journal.pieces passed.state.journal.ending ++ behind ≡ pieces_with x.pieces (Some x.ending)
    all =
        sym (append_assoc (pieces_with passed.state.journal.pieces passed.state.journal.ending) passed.goes_on.page.0 rest.0)
        ∙ (ap (λ ps. ps ++ rest.0) (sym passed.goes_on.page.1) ∙ rest.1)

pub passed-stand : PassedStand
passed-stand x s d run passed =
    let reached = passed-reached x s d run passed in
    let stands = always-stands_for x reached.events [] reached.desk reached.desk reached.is refl in
    (stands.0, stands.2, reached.desk, stands.3, reached.doc)

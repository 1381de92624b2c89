-- The journal of a page's run replays in the core.
use Rattle.std.proofs.Common.{◌≡◌, ℕ, List, ◌++◌, Option, Some, None, refl, sym, ap, subst, ◌∙◌}
use Rattle.html_types.specs.declared.ending.Ending.{Ending}
use Rattle.standard.specs.Entities.{Entities}
use Rattle.serial.specs.Serial.{Serial}
use Rattle.core_definitions.specs.Batches.{Piece}
use Rattle.core_definitions.specs.Core.{Setup, Core, first_core, Runs}
use Rattle.core_definitions.specs.Desk.{Phase, free, tagged, waits, done, Desk, first_desk, pieces_with, with_more, MovesBy}
use Rattle.core_definitions.specs.Journal.{IsPageOf, IsRunOf, with_replies}
use Rattle.core_laws.specs.DeskLaws.{IsReached}
use Rattle.core_laws.proofs.Handing.{more-may_follow}
use Rattle.core_laws.proofs.Replaying.{desk-is_core}
use Rattle.core_steps.specs.Sides.{Shown, ShowsIn, Shows, IsReplayed}
use Rattle.page_turns.specs.Replaying.{ReplaysTo}
use Rattle.page_turns.proofs.DeskLemmas.{shows-phase}
use Rattle.page_turns.proofs.ReachLemmas.{pieces-more}
use Rattle.page_turns.proofs.EndLemmas.{shown-lines}

pub shown-doc : (p : Phase) (d v : Desk) → ShowsIn p d v → d.own.side.doc ≡ v.own.side.doc
shown-doc free d v is = ap (λ (z : Desk). z.own.side.doc) is
shown-doc (tagged i held) d v is = ap (λ (z : Desk). z.own.side.doc) is
shown-doc (waits name held) d v is = ap (λ (z : Desk). z.own.side.doc) is
shown-doc (done r) d v (is, doc, lines, counts) = doc

record ReachesTo (x : Setup) (s : Shown) : Type 0 where
  desk : Desk
  reached : IsReached x s.journal.events desk
  replayed : Desk
  own : desk.own ≡ replayed.own
  phase : desk.phase ≡ replayed.phase
  shows : Shows replayed s.desk

reaches-to : (x : Setup) (s : Shown) → IsRunOf s.entities s.ahead s.journal x → IsReplayed s → ReachesTo x s
reaches-to x s run replayed = by s.journal.ending run.page (replayed x.world run.entities run.fetches).1
  where
    d : Desk
    d = (replayed x.world run.entities run.fetches).0

    by : (o : Option Ending) → IsPageOf o s.journal.pieces x → MovesBy s.ahead x.world s.journal.events (first_desk (pieces_with s.journal.pieces o)) d → ReachesTo x s
    by None (more, all) moves =
        let behind : List Piece = pieces_with more (Some x.ending) in
        let whole : pieces_with s.journal.pieces None ++ behind ≡ pieces_with x.pieces (Some x.ending) = pieces-more s.journal.pieces more x.ending ∙ ap (λ ts. pieces_with ts (Some x.ending)) (sym all) in
        record {
          desk = with_more behind d;
          reached = subst (λ n. MovesBy n x.world s.journal.events (first_desk (pieces_with x.pieces (Some x.ending))) (with_more behind d)) (sym run.credit)
              (subst (λ ps. MovesBy s.ahead x.world s.journal.events (first_desk ps) (with_more behind d)) whole (more-may_follow s.ahead x.world s.journal.events behind (first_desk (pieces_with s.journal.pieces None)) d moves));
          replayed = d;
          own = refl;
          phase = refl;
          shows = (replayed x.world run.entities run.fetches).2;
        }
    by (Some e) (all, end) moves =
        let whole : pieces_with s.journal.pieces (Some e) ≡ pieces_with x.pieces (Some x.ending) = ap (λ ts. pieces_with ts (Some e)) (sym all) ∙ ap (λ y. pieces_with x.pieces (Some y)) (sym end) in
        record {
          desk = d;
          reached = subst (λ n. MovesBy n x.world s.journal.events (first_desk (pieces_with x.pieces (Some x.ending))) d) (sym run.credit) (subst (λ ps. MovesBy s.ahead x.world s.journal.events (first_desk ps) d) whole moves);
          replayed = d;
          own = refl;
          phase = refl;
          shows = (replayed x.world run.entities run.fetches).2;
        }

pub replays-to : (es : Entities) (ahead : ℕ) (s : Shown) → s.entities ≡ es → s.ahead ≡ ahead → IsReplayed s → ReplaysTo es ahead s
replays-to es ahead s entities credit replayed = record { replays = there }
  where
    there : (x : Setup) → IsRunOf es ahead s.journal x →
        (c : Core) × Runs x (with_replies s.journal.events) (first_core x) c × (c.desk.phase ≡ s.desk.phase) × (c.desk.own.side.doc ≡ s.desk.own.side.doc) × (c.desk.own.side.lines ≡ s.desk.own.side.lines)
    there x run =
        let to = reaches-to x s (subst (λ n. IsRunOf s.entities n s.journal x) (sym credit) (subst (λ e. IsRunOf e ahead s.journal x) (sym entities) run)) replayed in
        let (c, runs, is) = desk-is_core x s.journal.events to.desk to.reached in (
          c,
          runs,
          ap (λ (z : Desk). z.phase) is ∙ to.phase ∙ shows-phase to.replayed s.desk to.shows,
          ap (λ (z : Desk). z.own.side.doc) is ∙ ap (λ (o : Serial). o.side.doc) to.own ∙ shown-doc s.desk.phase to.replayed s.desk to.shows,
          ap (λ (z : Desk). z.own.side.lines) is ∙ ap (λ (o : Serial). o.side.lines) to.own ∙ shown-lines s.desk.phase to.replayed s.desk to.shows,
        )

-- The desk to which a journal's events lead, in a run in which all is as the journal has it.
use Rattle.std.proofs.Common.{◌≡◌, ℕ, Bool, true, false, List, [], ◌∷◌, ◌++◌, Option, Some, None, refl, sym, ◌∙◌, ap, subst, append_assoc, append-nil}
use Rattle.std.specs.Prelude.{◌≢◌, cond}
use Rattle.std.specs.List.{AllByRecursion}
use Rattle.html_types.specs.Text.{same_text}
use Rattle.html_types.specs.declared.ending.Ending.{Ending}
use Rattle.standard.specs.Entities.{Entities}
use Rattle.serial.specs.Page.{Page}
use Rattle.serial.specs.Scripts.{Fetched, is_lawful}
use Rattle.serial.specs.Serial.{World, fetched_if}
use Rattle.core_definitions.specs.Batches.{Piece}
use Rattle.core_definitions.specs.Core.{Setup, joined, whole_page}
use Rattle.core_definitions.specs.Desk.{Desk, first_desk, pieces_with, with_more, MovesBy}
use Rattle.core_definitions.specs.Journal.{Knows, IsPageOf, IsRunOf}
use Rattle.core_laws.specs.DeskLaws.{IsReached}
use Rattle.core_laws.proofs.Handing.{more-may_follow}
use Rattle.core_steps.specs.Fetches.{names_of}
use Rattle.core_steps.specs.Journals.{found}
use Rattle.core_steps.specs.Sides.{Shown, Shows, IsReplayed}
use Rattle.page_turns.specs.Scripts.{Met, AreDistinct, AreKnown}
use Rattle.page_turns.specs.Pages.{IsPageBehind}
use Rattle.page_turns.proofs.TextLemmas.{same-text, same-refl}

-- ---- a world in which the fetches are as they were

abbrev pub found_or : Fetched → Option Fetched → Fetched
found_or f None = f
found_or f (Some g) = g

-- the scripts that were fetched, and of other names those
abbrev pub scripts_with : Met → (List ℕ → Fetched) → List ℕ → Fetched
scripts_with met scripts name = found_or (scripts name) (found name met)

apart-found : (name : List ℕ) (met : Met) (n : List ℕ) (g : Fetched) → AllByRecursion (λ other. other ≢ name) (names_of met) → found n met ≡ Some g → n ≢ name
apart-found name [] n g apart is e = absurd (cc is)
apart-found name ((m, h) ∷ rest) n g apart is e = at (λ i. apart-found name rest n g apart.1 i e) (same_text m n) refl is
  where
    at : (found n rest ≡ Some g → ⊥) → (b : Bool) → same_text m n ≡ b → cond b (Some h) (found n rest) ≡ Some g → ⊥
    at there true q is = apart.0 (same-text m n q ∙ e)
    at there false q is = there is

found-behind : (name : List ℕ) (f : Fetched) (met : Met) (n : List ℕ) (g : Fetched) → AllByRecursion (λ other. other ≢ name) (names_of met) → found n met ≡ Some g → found n ((name, f) ∷ met) ≡ Some g
found-behind name f met n g apart is = by (same_text name n) refl
  where
    by : (b : Bool) → same_text name n ≡ b → cond b (Some f) (found n met) ≡ Some g
    by true q = absurd (apart-found name met n g apart is (sym (same-text name n q)))
    by false q = is

module _ (es : Entities) (all : List ℕ → Fetched) where
  abbrev world : World
  world = record { entities = es; scripts = all }

  knows-all : (met : Met) → AllByRecursion (λ name. is_lawful name ≡ true) (names_of met) → ((name : List ℕ) (f : Fetched) → found name met ≡ Some f → all name ≡ f) → AreDistinct (names_of met) → Knows met world
  knows-all [] lawful each once = tt
  knows-all ((name, f) ∷ met) lawful each once = (
    ap (λ b. fetched_if b world name) lawful.0 ∙ each name f (ap (λ b. cond b (Some f) (found name met)) (same-refl name)),
    knows-all met lawful.1 (λ n g is. each n g (found-behind name f met n g once.0 is)) once.1,
  )

pub knows-met : (es : Entities) (met : Met) (scripts : List ℕ → Fetched) → AreKnown met → Knows met (record { entities = es; scripts = scripts_with met scripts })
knows-met es met scripts known = knows-all es (scripts_with met scripts) met known.lawful (λ name f is. ap (found_or (scripts name)) is) known.once

-- ---- the desk

pub joined-append : (ts us : List (List ℕ)) → joined (ts ++ us) ≡ joined ts ++ joined us
joined-append [] us = refl
joined-append (t ∷ ts) us = ap (λ x. t ++ x) (joined-append ts us) ∙ sym (append_assoc t (joined ts) (joined us))

pub pieces-more : (ts us : List (List ℕ)) (e : Ending) → pieces_with ts None ++ pieces_with us (Some e) ≡ pieces_with (ts ++ us) (Some e)
pieces-more [] us e = refl
pieces-more (t ∷ ts) us e = ap (λ ps. record { text = t; ending = None } ∷ ps) (pieces-more ts us e)

-- a run of the page, its pieces those that were read, and perhaps more
pub record IsRun (page : Page) (w : World) (ahead : ℕ) (s : Shown) : Type 0 where
  pub run : Setup
  pub world : run.world ≡ w
  pub credit : run.ahead ≡ ahead
  pub page_is : whole_page run ≡ page
  pub is_of : IsRunOf s.entities ahead s.journal run
  pub desk : Desk
  pub reached : IsReached run s.journal.events desk
  -- but for the pieces to be sent it is that which is replayed
  pub replayed : Desk
  pub same : (more : List Piece) × (desk ≡ with_more more replayed)
  pub shows : Shows replayed s.desk

pub is_run : (page : Page) (w : World) (s : Shown) → IsPageBehind s.journal.ending s.journal.pieces page → w.entities ≡ s.entities → Knows s.journal.fetches w → IsReplayed s → IsRun page w s.ahead s
is_run page w s behind entities knows replayed = by s.journal.ending refl behind (replayed w entities knows).1
  where
    d : Desk
    d = (replayed w entities knows).0

    of : (run : Setup) (o : Option Ending) → s.journal.ending ≡ o → run.world ≡ w → run.ahead ≡ s.ahead → IsPageOf o s.journal.pieces run → IsRunOf s.entities s.ahead s.journal run
    of run o q world credit page_of = record {
      entities = ap (λ (x : World). x.entities) world ∙ entities;
      fetches = subst (λ x. Knows s.journal.fetches x) (sym world) knows;
      page = subst (λ e. IsPageOf e s.journal.pieces run) (sym q) page_of;
      credit = credit;
    }

    by : (o : Option Ending) → s.journal.ending ≡ o → IsPageBehind o s.journal.pieces page → MovesBy s.ahead w s.journal.events (first_desk (pieces_with s.journal.pieces o)) d → IsRun page w s.ahead s
    by None q (more, is) moves =
        let run : Setup = record { world = w; pieces = s.journal.pieces ++ more ∷ []; ending = page.ending; ahead = s.ahead } in
        let behind : List Piece = pieces_with (more ∷ []) (Some page.ending) in
        record {
          run = run;
          world = refl;
          credit = refl;
          is_of = of run None q refl refl (more ∷ [], refl);
          page_is = ap (λ t. record { text = t; ending = page.ending }) (joined-append s.journal.pieces (more ∷ []) ∙ ap (λ t. joined s.journal.pieces ++ t) (append-nil more) ∙ sym is);
          desk = with_more behind d;
          reached = subst (λ ps. MovesBy s.ahead w s.journal.events (first_desk ps) (with_more behind d)) (pieces-more s.journal.pieces (more ∷ []) page.ending)
              (more-may_follow s.ahead w s.journal.events behind (first_desk (pieces_with s.journal.pieces None)) d moves);
          replayed = d;
          same = (behind, refl);
          shows = (replayed w entities knows).2;
        }
    by (Some e) q is moves = record {
      run = record { world = w; pieces = s.journal.pieces; ending = e; ahead = s.ahead };
      world = refl;
      credit = refl;
      is_of = of (record { world = w; pieces = s.journal.pieces; ending = e; ahead = s.ahead }) (Some e) q refl refl (refl, refl);
      page_is = sym is;
      desk = d;
      reached = moves;
      replayed = d;
      same = ([], ap (λ ps. record d { to_send = ps }) (sym (append-nil d.to_send)));
      shows = (replayed w entities knows).2;
    }

-- where the ending was read
pub reached_whole : (w : World) (s : Shown) (e : Ending) → s.journal.ending ≡ Some e → w.entities ≡ s.entities → Knows s.journal.fetches w → IsReplayed s
    → (d : Desk) × IsReached (record { world = w; pieces = s.journal.pieces; ending = e; ahead = s.ahead }) s.journal.events d × Shows d s.desk
reached_whole w s e ended entities knows replayed =
    let (d, moves, shows) = replayed w entities knows in
    (d, subst (λ o. MovesBy s.ahead w s.journal.events (first_desk (pieces_with s.journal.pieces o)) d) ended moves, shows)

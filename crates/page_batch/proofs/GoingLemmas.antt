-- A page's two sides: one step, and one behind another.
use Rattle.std.proofs.Common.{◌≡◌, ◌≤◌, ℕ, Bool, true, false, true≢false, List, [], ◌∷◌, ◌++◌, flat_map, Some, append_assoc, append-nil, refl, sym, ap, subst, ◌∙◌, arith}
use Rattle.std.specs.Bool.{OnTrue}
use Rattle.std.specs.List.{AllByRecursion}
use Rattle.std.proofs.lemmas.Grind.{flat_map-append}
use Rattle.standard.specs.Entities.{Entities}
use Rattle.serial.specs.declared.script.Line.{Line}
use Rattle.serial.specs.Page.{Page, text_of, ending_of}
use Rattle.serial.specs.Scripts.{Fetched}
use Rattle.serial.specs.Serial.{World, Result, Outcome, IsSerial}
use Rattle.serial.specs.Output.{line_text, result_with, output_with}
use Rattle.core_definitions.specs.declared.event.Event.{Event}
use Rattle.core_definitions.specs.declared.event.Event.TheVariants.{Do, Arrive}
use Rattle.core_definitions.specs.Core.{Setup, Core, joined, whole_page}
use Rattle.core_definitions.specs.Desk.{Phase, free, tagged, waits, done, Desk, has_arrived}
use Rattle.core_steps.specs.Journals.{found}
use Rattle.core_steps.specs.Acting.{fetch_or_missing}
use Rattle.core_steps.specs.Sides.{over, running, awaiting, unless_arrived, standing_in, left_to_do}
use Rattle.core_pair.specs.Interleaving.{EndsInEach, unless_busy, standing_of_core}
use Rattle.core_pair.specs.Nearer.{NearsDo, IsNearer}
use Rattle.core_pair.specs.Pairs.{Paired, setup_of, is_busy, fetches_noted, stepped, brought}
use Rattle.core_pair.proofs.Worlds.{same-refl}
use Rattle.html_types.specs.Text.{same_text}
use Rattle.html_types.specs.declared.ending.Ending.{Ending}
use Rattle.page_turns.specs.declared.page.TheConstants.{PAGE_LIMIT}
use Rattle.page_turns.specs.Scripts.{Met}
use Rattle.page_turns.specs.Pages.{PageRead, page_at}
use Rattle.page_batch.specs.Parts.{end_number}
use Rattle.page_batch.specs.declared.read.PageBytes.{PageBytes}
use Rattle.page_batch.specs.Going.{StepTaken, SamePage, Nears, Receives, AreOf, GoesBy, IsOf, IsGoing, IsFirst, Settled}

-- ---- what was fetched is in the table

pub of-append : (table a b : Met) → AreOf table a → AreOf table b → AreOf table (a ++ b)
of-append table [] b first second = second
of-append table (f ∷ fs) b first second = (first.0, of-append table fs b first.1 second)

pub of-front : (table a b : Met) → AreOf table (a ++ b) → AreOf table a
of-front table [] b all = tt
of-front table (f ∷ fs) b all = (all.0, of-front table fs b all.1)

of-none : (table met : Met) → AreOf [] met → AreOf table met
of-none table [] all = tt
of-none table (f ∷ fs) all = absurd (cc all.0)

-- of no table there is nothing
pub none-of : (met : Met) → AreOf [] met → met ≡ []
none-of [] all = refl
none-of (f ∷ fs) all = absurd (cc all.0)

-- ---- before any event

pub first-is : (es : Entities) (page : PageBytes) (p q : Paired) → p ≡ q → q.entities ≡ es → q.spent ≡ false → joined q.journal.pieces ≡ text_of PAGE_LIMIT page.bytes.items → q.ending ≡ ending_of PAGE_LIMIT page.bytes.items page.fault
    → q.given ≡ [] → q.journal.fetches ≡ [] → IsFirst es page p
first-is es page p q is entities going text ending given fetches = record {
  of = record {
    entities = ap (λ (r : Paired). r.entities) is ∙ entities;
    going = ap (λ (r : Paired). r.spent) is ∙ going;
    page = ap (λ (r : Paired). whole_page (setup_of r)) is ∙ (ap (λ x. record { text = x; ending = q.ending }) text ∙ ap (λ (e : Ending). record { text = text_of PAGE_LIMIT page.bytes.items; ending = e }) ending);
  };
  given = ap (λ (r : Paired). r.given) is ∙ given;
  fetches = ap (λ (r : Paired). r.journal.fetches) is ∙ fetches;
}

-- ---- events

pub step-same : (v : Event) (old new : Paired) → fetches_noted v old.scripts old.journal.fetches ≡ old.journal.fetches → new ≡ stepped v new.core old → SamePage old new
step-same v old new none is = record {
  entities = ap (λ (p : Paired). p.entities) is;
  pieces = ap (λ (p : Paired). p.journal.pieces) is;
  ending = ap (λ (p : Paired). p.ending) is;
  given = ap (λ (p : Paired). p.given) is;
  spent = ap (λ (p : Paired). p.spent) is;
  fetches = ap (λ (p : Paired). p.journal.fetches) is ∙ none;
}

pub step-nears : (v : Event) (old new : Paired) → fetches_noted v old.scripts old.journal.fetches ≡ old.journal.fetches → NearsDo old.core new.core → new ≡ stepped v new.core old → Nears old new
step-nears v old new none nears is = record { same = step-same v old new none is; nears = nears }

-- an event before a Do, taken where those that were asked for before it weren't enabled
pub nears-by : (v : Event) (took : Bool) (old mid new : Paired) → fetches_noted v mid.scripts mid.journal.fetches ≡ mid.journal.fetches → (IsNearer v mid.core new.core → NearsDo mid.core new.core) → took ≡ true → OnTrue took (StepTaken v mid new) → mid ≡ old
    → Nears old new
nears-by v true old mid new none nearer is step same =
    let taken : StepTaken v mid new = step in subst (λ (p : Paired). Nears p new) same (step-nears v mid new none (nearer taken.nearer) taken.is)
nears-by v false old mid new none nearer is step same = absurd (true≢false (sym is))

pub same-refl-page : (p : Paired) → SamePage p p
same-refl-page p = record { entities = refl; pieces = refl; ending = refl; given = refl; spent = refl; fetches = refl }

pub same-then : (a b c : Paired) → SamePage a b → SamePage b c → SamePage a c
same-then a b c first second = record {
  entities = second.entities ∙ first.entities;
  pieces = second.pieces ∙ first.pieces;
  ending = second.ending ∙ first.ending;
  given = second.given ∙ first.given;
  spent = second.spent ∙ first.spent;
  fetches = second.fetches ∙ first.fetches;
}

pub received : (name : List ℕ) (f : Fetched) (old mid new : Paired) → mid ≡ brought name f old → new ≡ stepped (Arrive name) new.core mid → left_to_do new.core.desk ≡ left_to_do mid.core.desk → Receives name f old new
received name f old mid new brings is left =
    let there : new ≡ stepped (Arrive name) new.core (brought name f old) = is ∙ ap (λ (p : Paired). stepped (Arrive name) new.core p) brings in
    record {
      entities = ap (λ (p : Paired). p.entities) there;
      pieces = ap (λ (p : Paired). p.journal.pieces) there;
      ending = ap (λ (p : Paired). p.ending) there;
      given = ap (λ (p : Paired). p.given) there;
      spent = ap (λ (p : Paired). p.spent) there;
      fetches = ap (λ (p : Paired). p.journal.fetches) there ∙ by (same-refl name);
      left = left ∙ ap (λ (p : Paired). left_to_do p.core.desk) brings;
    }
  where
    by : same_text name name ≡ true → (name, fetch_or_missing (found name ((name, f) ∷ old.scripts))) ∷ old.journal.fetches ≡ (name, f) ∷ old.journal.fetches
    by same = rw same refl

-- ---- how far it went

pub goes-same : (table : Met) (old new : Paired) (t : List ℕ) → SamePage old new → GoesBy table old new t t
goes-same table old new t s = record {
  entities = s.entities;
  pieces = s.pieces;
  ending = s.ending;
  spent = s.spent;
  met = [];
  fetches = s.fetches;
  known = tt;
  lines = [];
  given = s.given ∙ sym (append-nil old.given);
  text_is = sym (append-nil t);
}

pub goes-refl : (table : Met) (p : Paired) (t : List ℕ) → GoesBy table p p t t
goes-refl table p t = goes-same table p p t (same-refl-page p)

pub goes-more : (table : Met) (old new : Paired) (t t' : List ℕ) → GoesBy [] old new t t' → GoesBy table old new t t'
goes-more table old new t t' h = record {
  entities = h.entities;
  pieces = h.pieces;
  ending = h.ending;
  spent = h.spent;
  met = h.met;
  fetches = h.fetches;
  known = of-none table h.met h.known;
  lines = h.lines;
  given = h.given;
  text_is = h.text_is;
}

pub goes-then : (table : Met) (a b c : Paired) (t u v : List ℕ) → GoesBy table a b t u → GoesBy table b c u v → GoesBy table a c t v
goes-then table a b c t u v first second = record {
  entities = second.entities ∙ first.entities;
  pieces = second.pieces ∙ first.pieces;
  ending = second.ending ∙ first.ending;
  spent = second.spent ∙ first.spent;
  met = second.met ++ first.met;
  fetches = second.fetches ∙ (ap (λ m. second.met ++ m) first.fetches ∙ sym (append_assoc second.met first.met a.journal.fetches));
  known = of-append table second.met first.met second.known first.known;
  lines = first.lines ++ second.lines;
  given = second.given ∙ (ap (λ g. g ++ second.lines) first.given ∙ append_assoc a.given first.lines second.lines);
  text_is = second.text_is ∙ (ap (λ x. x ++ flat_map line_text second.lines) first.text_is ∙ (append_assoc t (flat_map line_text first.lines) (flat_map line_text second.lines)
      ∙ ap (λ x. t ++ x) (sym (flat_map-append line_text first.lines second.lines))));
}

-- lines were taken
pub goes-lines : (old new : Paired) (lines : List Line) (t t' : List ℕ) → new ≡ record old { given = old.given ++ lines } → t' ≡ t ++ flat_map line_text lines → GoesBy [] old new t t'
goes-lines old new lines t t' is text = record {
  entities = ap (λ (p : Paired). p.entities) is;
  pieces = ap (λ (p : Paired). p.journal.pieces) is;
  ending = ap (λ (p : Paired). p.ending) is;
  spent = ap (λ (p : Paired). p.spent) is;
  met = [];
  fetches = ap (λ (p : Paired). p.journal.fetches) is;
  known = tt;
  lines = lines;
  given = ap (λ (p : Paired). p.given) is;
  text_is = text;
}

-- a Do, and its lines
pub goes-do : (old mid new : Paired) (t t' : List ℕ) → StepTaken Do old mid → GoesBy [] mid new t t' → GoesBy [] old new t t'
goes-do old mid new t t' step goes = goes-then [] old mid new t t t' (goes-same [] old mid t (step-same Do old mid refl step.is)) goes

-- a script of the table arrived, and ran
pub goes-run : (table : Met) (name : List ℕ) (f : Fetched) (old mid new : Paired) (t t' : List ℕ) → found name table ≡ Some f → Receives name f old mid → GoesBy [] mid new t t' → GoesBy table old new t t'
goes-run table name f old mid new t t' there r goes = goes-then table old mid new t t t' (record {
  entities = r.entities;
  pieces = r.pieces;
  ending = r.ending;
  spent = r.spent;
  met = (name, f) ∷ [];
  fetches = r.fetches;
  known = (there, tt);
  lines = [];
  given = r.given ∙ sym (append-nil old.given);
  text_is = sym (append-nil t);
}) (goes-more table mid new t t' goes)

-- ---- what is known of it stays

pub still-going : {es : Entities} {read : PageRead} (table : Met) (old new : Paired) (t t' : List ℕ) → GoesBy table old new t t' → IsGoing es read old t → IsGoing es read new t'
still-going {es = es} {read = read} table old new t t' goes h = record {
  of = record {
    entities = goes.entities ∙ h.of.entities;
    going = goes.spent ∙ h.of.going;
    page = ap (λ ps. record { text = joined ps; ending = new.ending }) goes.pieces
        ∙ (ap (λ e. record { text = joined old.journal.pieces; ending = e }) goes.ending ∙ h.of.page);
  };
  text_is = goes.text_is ∙ (ap (λ x. x ++ flat_map line_text goes.lines) h.text_is ∙ (sym (flat_map-append line_text old.given goes.lines) ∙ ap (flat_map line_text) (sym goes.given)));
}

pub still-of : (table : Met) (old new : Paired) (t t' : List ℕ) → GoesBy table old new t t' → AreOf table old.journal.fetches → AreOf table new.journal.fetches
still-of table old new t t' goes all = subst (AreOf table) (sym goes.fetches) (of-append table goes.met old.journal.fetches goes.known all)

-- ---- where it stops

over-at : (b : Bool) (p : Phase) (d : Desk) (r : Result) → over r ≡ unless_busy b (standing_in p d) → p ≡ done r
over-at true free d r is = absurd (cc is)
over-at true (tagged i held) d r is = absurd (cc is)
over-at true (waits name held) d r is = by (has_arrived name d) is
  where
    by : (a : Bool) → over r ≡ unless_busy true (unless_arrived a name) → waits name held ≡ done r
    by true is = absurd (cc is)
    by false is = absurd (cc is)
over-at true (done s) d r is = cc is
over-at false free d r is = absurd (cc is)
over-at false (tagged i held) d r is = absurd (cc is)
over-at false (waits name held) d r is = by (has_arrived name d) is
  where
    by : (a : Bool) → over r ≡ unless_busy false (unless_arrived a name) → waits name held ≡ done r
    by true is = absurd (cc is)
    by false is = absurd (cc is)
over-at false (done s) d r is = cc is

pub over-there : (x : Setup) (c : Core) (r : Result) → over r ≡ standing_of_core x c → c.desk.phase ≡ done r
over-there x c r is = over-at (is_busy x c) c.desk.phase c.desk r is

-- ---- its end

pub settles : {es : Entities} {read : PageRead} (p : Paired) (text last : List ℕ) (r : Result) → IsGoing es read p text → EndsInEach p → p.core.desk.phase ≡ done r → p.core.desk.own.side.lines ≡ p.given
    → last ≡ result_with false r p.core.desk.own.side.doc.tree → Settled es read p.journal.fetches (end_number r) (text ++ last)
unfolding output_with
settles {es = es} {read = read} p text last r h ends phase lines is = record {
  each = λ w entities knows o comes.
      let end = ends w (entities ∙ sym h.of.entities) knows r o phase (subst (λ (page : Page). IsSerial page w o) (sym h.of.page) comes) in (
        ap (λ t. t ++ last) (h.text_is ∙ ap (flat_map line_text) (sym lines ∙ end.1)) ∙ ap (λ l. flat_map line_text o.last.side.lines ++ l) (is ∙ (ap (λ k. result_with false k p.core.desk.own.side.doc.tree) end.0 ∙ ap (result_with false o.result) end.2)),
        ap end_number end.0,
      );
}

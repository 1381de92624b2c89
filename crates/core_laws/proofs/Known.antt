-- What is known of the document's side where it stands for a moment, and how its renaming is changed for the ids to come.
use Rattle.std.proofs.Common.{◌≡◌, ◌≢◌, ◌<◌, ℕ, suc, ◌+◌, List, [], ◌++◌, length, Some, None, sym, ◌∙◌, ap, arith}
use Rattle.html_types.specs.Operations.{later}
use Rattle.html_types.specs.declared.operation.NodeId.{NodeId}
use Rattle.html_types.specs.declared.ending.Ending.{Ending}
use Rattle.standard.specs.Act.{Doc}
use Rattle.standard.specs.Parser.{Parser}
use Rattle.serial.specs.Serial.{World, Serial, Moment, reading}
use Rattle.rule_laws.specs.Naming.{rename_parser}
use Rattle.core_definitions.specs.Verdict.{Watch, Watches}
use Rattle.core_definitions.specs.Desk.{Phase, free, tagged, waits, done, Desk}
use Rattle.core_definitions.specs.StandsFor.{own_moment}
use Rattle.core_laws.specs.Alike.{own_of, Okay, AreAlike}
use Rattle.core_laws.specs.Rebasing.{with_next, rebased, Rebases}
use Rattle.core_laws.proofs.Rebasing.{rebased-one, rebased-low}

-- the ids to come of a state that is held back have no names
pub record IsFree (r : NodeId → NodeId) (low : ℕ) (held : Parser) : Type 0 where
  pub next_is_low : held.open_state.next.realm < low
  pub avoids : (i : NodeId) (k : ℕ) → r i ≢ later k held.open_state.next

abbrev pub InPhase : Phase → (NodeId → NodeId) → List ℕ → ℕ → Type 0
InPhase free r input low = input ≡ []
InPhase (tagged i held) r input low = IsFree r low held
InPhase (waits name held) r input low = IsFree r low held
InPhase (done x) r input low = Unit {0}

-- no two ids have one name, and the names of the serial parse's ids are in realms below `low`
pub record Names (r : NodeId → NodeId) (low : ℕ) : Type 0 where
  pub one_to_one : (a b : NodeId) → r a ≡ r b → a ≡ b
  pub low_realms : (i : NodeId) → i.realm ≡ 0 → (r i).realm < low

-- the page's script in hand is to be compared with the state that is held back
abbrev pub InHand : (NodeId → NodeId) → List ℕ → Parser → Watch → Type 0
InHand r page held v = (p : Parser) × (v.page_left ≡ length page) × (v.after_tag ≡ Some p) × (held ≡ with_next held.open_state.next (rename_parser r p))

abbrev pub InWatch : Phase → (NodeId → NodeId) → List ℕ → Watch → Type 0
InWatch free r page v = (v.page_left ≡ length page) × (v.after_tag ≡ None)
InWatch (tagged i held) r page v = InHand r page held v
InWatch (waits name held) r page v = InHand r page held v
InWatch (done x) r page v = Unit {0}

-- the document's side stands for the moment m, and v is known there; each epoch but the first stands for a script that failed
pub record Known (r : NodeId → NodeId) (page : List ℕ) (d : Desk) (m : Moment) (v : Watch) : Type 0 where
  pub names : Names r d.realm
  pub alike : AreAlike r page m (own_moment d.phase d.own)
  pub in_phase : InPhase d.phase r d.own.input d.realm
  pub failed : v.failed + 1 ≡ d.epoch
  pub watch : InWatch d.phase r page v

-- the serial parse comes from m0 to such a moment
abbrev pub Stood : Ending → World → Moment → Watch → List ℕ → Desk → Type 0
Stood e w m0 v0 page d = (m : Moment) × (v : Watch) × (r : NodeId → NodeId) × Watches e w m0 v0 m v × Known r page d m v

-- ---- a new realm

pub renews : (r : NodeId → NodeId) (n low : ℕ) → Names r low → Rebases r n (record { realm = low; n = 0 }) (suc low)
renews r n low a = record {
  one_to_one = a.one_to_one;
  low_realms = λ i z. let l : (r i).realm < low = a.low_realms i z in omega (arith, l);
  next_is_low = omega arith;
  avoids = λ i k z b e.
      let l : (r i).realm < low = a.low_realms i z in
      let q : (r i).realm ≡ low = ap (λ j. j.realm) e in
      absurd (omega (arith, l, q));
}

pub names-rebased : (r : NodeId → NodeId) (n : ℕ) (next : NodeId) (low : ℕ) → Rebases r n next low → Names (rebased r n next low) low
names-rebased r n next low b = record { one_to_one = rebased-one r n next low b; low_realms = rebased-low r n next low b }

-- ---- a moment between two characters of the page

-- the serial parse's state, with the page's rest and without it
abbrev pub with_input : List ℕ → Serial → Serial
with_input t s = record s { input = t }

pub record Reads (r : NodeId → NodeId) (page : List ℕ) (m : Moment) (own : Serial) : Type 0 where
  pub s : Serial
  pub doc : Doc
  pub moment : m ≡ reading (with_input page s)
  pub is : own ≡ own_of r doc (with_input [] s)
  pub okay : Okay r s.parser s.side.doc doc
  pub idle : s.side.pending ≡ None

pub reads : (r : NodeId → NodeId) (page : List ℕ) (m : Moment) (own : Serial) → AreAlike r page m (reading own) → own.input ≡ [] → Reads r page m own
reads r page m own (s, doc, p, q, o, idle) nil =
    let none : s.input ≡ [] = ap (λ (t : Serial). t.input) (sym q) ∙ nil in
    record {
      s = s;
      doc = doc;
      moment = p ∙ ap (λ t. reading (with_input (t ++ page) s)) none;
      is = q ∙ ap (λ t. own_of r doc (with_input t s)) none;
      okay = o;
      idle = idle;
    }

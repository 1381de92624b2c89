-- Two states of the serial parse that are one: the second has its ids renamed, and hasn't the page's rest behind its input.
use Rattle.std.specs.Prelude.{None, ◌≡◌, ℕ, ◌+◌, false, List, ◌++◌, length, Some, IsTrue}
use Rattle.html_types.specs.declared.operation.NodeId.{NodeId}
use Rattle.html_types.specs.declared.ending.Ending.{Ending}
use Rattle.standard.specs.Act.{Doc, is_bound, SameUpTo}
use Rattle.standard.specs.Parser.{Parser}
use Rattle.rule_laws.specs.Naming.{Serves, CameBefore, Renames, rename_parser}
use Rattle.serial.specs.Serial.{World, Serial, Course, goes, refuses, starved, Moment, reading, tag_ended, awaits, over, Outcome, end_of_script, moment_after}
use Rattle.core_definitions.specs.Settling.{is_settled}

-- the state with its ids renamed, over this document
abbrev pub own_of : (NodeId → NodeId) → Doc → Serial → Serial
own_of r d s = record s { parser = rename_parser r s.parser; side = record s.side { doc = d } }

-- the state with more text behind its input
abbrev pub behind : List ℕ → Serial → Serial
behind page s = record s { input = s.input ++ page; point = s.point + length page }

-- The second document is the first under other ids, and has no others; the ids that come are renamed in order. Of the first: all ids that
-- the parser holds are bound, and all that are bound are of the serial parse's one realm and came before the next.
pub record Okay (r : NodeId → NodeId) (p : Parser) (d own : Doc) : Type 0 where
  pub same : SameUpTo r d own
  pub named : (j : NodeId) → IsTrue (is_bound own.bound j) → (i : NodeId) × (r i ≡ j)
  pub renames : Renames r p.open_state.next
  pub served : Serves CameBefore (is_bound d.bound) p.open_state
  pub serial : p.open_state.next.realm ≡ 0

-- What a part of the parse comes to, from a state with the page's rest and from its own.
abbrev pub Both : (NodeId → NodeId) → List ℕ → Course → Course → Type 0
Both r page f starved = f ≡ starved
Both r page f (goes t) = (s : Serial) × (d : Doc) × (f ≡ goes (behind page s)) × (t ≡ own_of r d s) × Okay r s.parser s.side.doc d
Both r page f (refuses why t) = (s : Serial) × (d : Doc) × (f ≡ refuses why (behind page s)) × (t ≡ own_of r d s) × SameUpTo r s.side.doc d

abbrev pub ScriptsRename : Type 0
ScriptsRename = (r : NodeId → NodeId) (page : List ℕ) (n : ℕ) (w : World) (i : NodeId) (s : Serial) (d : Doc) → Okay r s.parser s.side.doc d →
    Both r page (end_of_script n w i (behind page s)) (end_of_script n w (r i) (own_of r d s))

-- one moment is the other's, at level 0
abbrev pub AreAlike : (NodeId → NodeId) → List ℕ → Moment → Moment → Type 0
AreAlike r page m (reading t) = (s : Serial) × (d : Doc) × (m ≡ reading (record s { input = s.input ++ page })) × (t ≡ own_of r d s) × Okay r s.parser s.side.doc d × (s.side.pending ≡ None)
AreAlike r page m (tag_ended j t) =
    (i : NodeId) × (s : Serial) × (d : Doc) × (m ≡ tag_ended i (record s { input = s.input ++ page })) × (j ≡ r i) × (t ≡ own_of r d s) × Okay r s.parser s.side.doc d × (s.side.pending ≡ None)
AreAlike r page m (awaits name t) =
    (s : Serial) × (d : Doc) × (m ≡ awaits name (record s { input = s.input ++ page })) × (t ≡ own_of r d s) × Okay r s.parser s.side.doc d × (s.side.pending ≡ None)
AreAlike r page m (over o) = (u : Outcome) × (m ≡ over u) × (o.result ≡ u.result) × (o.last.side.lines ≡ u.last.side.lines) × SameUpTo r u.last.side.doc o.last.side.doc

-- from a moment that isn't settled the next is the other's next
abbrev pub MomentsRename : Type 0
MomentsRename = (r : NodeId → NodeId) (page : List ℕ) (n : ℕ) (e : Ending) (w : World) (m own own' : Moment) → AreAlike r page m own → is_settled own ≡ false →
    moment_after n e w own ≡ Some own' → (m' : Moment) × (moment_after n e w m ≡ Some m') × AreAlike r page m' own'

-- so it is from a script that is awaited
abbrev pub FetchesRename : Type 0
FetchesRename = (r : NodeId → NodeId) (page : List ℕ) (n : ℕ) (e : Ending) (w : World) (m : Moment) (name : List ℕ) (own : Serial) (own' : Moment) → AreAlike r page m (awaits name own) →
    moment_after n e w (awaits name own) ≡ Some own' → (m' : Moment) × (moment_after n e w m ≡ Some m') × AreAlike r page m' own'

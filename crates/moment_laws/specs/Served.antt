-- Which ids are bound at the moments of the serial parse.
use Rattle.std.specs.Prelude.{◌≡◌, ◌≢◌, ◌<◌, ◌⊎◌, ℕ, suc, Bool, IsTrue}
use Rattle.html_types.specs.declared.operation.NodeId.{NodeId}
use Rattle.html_types.specs.declared.ending.Ending.{Ending}
use Rattle.standard.specs.Act.{Doc, new_doc, is_bound}
use Rattle.standard.specs.Parser.{Parser, new_parser}
use Rattle.serial.specs.Serial.{World, Serial, Moment, reading, tag_ended, awaits, over, Leads}
use Rattle.rule_laws.specs.Naming.{Serves, AreFresh}
use Rattle.rule_laws.specs.NamingLaws.{DocsServeTexts, DocsServeEnds}
use Rattle.core_definitions.specs.Desk.{renewed}

-- ---- realms

-- no bound id has this realm or a later one
abbrev pub AreBelow : ℕ → (NodeId → Bool) → Type 0
AreBelow realm known = (id : NodeId) → IsTrue (known id) → id.realm < realm

-- None of the ids that come is bound, and neither they nor those that are bound have this realm or a later one.
pub record HasRoom (realm : ℕ) (known : NodeId → Bool) (next : NodeId) : Type 0 where
  pub fresh : AreFresh known next
  pub below : AreBelow realm known
  pub next_below : next.realm < realm

-- the ids that the parser holds are bound in the document, and there is that room for those that come
abbrev pub IsRoomy : ℕ → Parser → Doc → Type 0
IsRoomy realm p d = Serves (HasRoom realm) (is_bound d.bound) p.open_state

abbrev pub RoomServes : Type 0
RoomServes = (realm : ℕ) (p : Parser) (d : Doc) → IsRoomy realm p d → Serves AreFresh (is_bound d.bound) p.open_state

-- at the beginning of a page
abbrev pub FirstHasRoom : Type 0
FirstHasRoom = (realm : ℕ) → IsRoomy (suc realm) (new_parser realm) new_doc

abbrev pub TextsHaveRoom : Type 0
TextsHaveRoom = (realm : ℕ) → DocsServeTexts (HasRoom realm)

abbrev pub EndsHaveRoom : Type 0
EndsHaveRoom = (realm : ℕ) → DocsServeEnds (HasRoom realm)

-- the ids that come are of that realm from now on
abbrev pub RenewingHasRoom : Type 0
RenewingHasRoom = (realm : ℕ) (p : Parser) (d : Doc) → IsRoomy realm p d → IsRoomy (suc realm) (renewed realm p) d

-- ---- moments

-- the state in which the parse is at a moment
abbrev pub state_at : Moment → Serial
state_at (reading s) = s
state_at (tag_ended i s) = s
state_at (awaits name s) = s
state_at (over o) = o.last

-- all ids that the parser holds are bound then; `Coming` is what is asked of those that come
abbrev pub IsServedAt : ((NodeId → Bool) → NodeId → Type 0) → Moment → Type 0
IsServedAt Coming m = Serves Coming (is_bound (state_at m).side.doc.bound) (state_at m).parser.open_state

abbrev pub MomentsServe : ((NodeId → Bool) → NodeId → Type 0) → Type 0
MomentsServe Coming = (e : Ending) (w : World) (m m' : Moment) → Leads e w m m' → IsServedAt Coming m → IsServedAt Coming m'

abbrev pub MomentsHaveRoom : Type 0
MomentsHaveRoom = (realm : ℕ) → MomentsServe (HasRoom realm)

-- What was bound in the first state is bound in the second, and what is bound there anew is of the realm of the parser.
pub record Binds (s t : Serial) : Type 0 where
  pub stays : (id : NodeId) → IsTrue (is_bound s.side.doc.bound id) → IsTrue (is_bound t.side.doc.bound id)
  pub anew : (id : NodeId) → IsTrue (is_bound t.side.doc.bound id) → IsTrue (is_bound s.side.doc.bound id) ⊎ (id.realm ≡ s.parser.open_state.next.realm)
  pub realm : t.parser.open_state.next.realm ≡ s.parser.open_state.next.realm

abbrev pub MomentsBind : Type 0
MomentsBind = (e : Ending) (w : World) (m m' : Moment) → Leads e w m m' → IsServedAt AreFresh m → Binds (state_at m) (state_at m')

-- a parser that was held meanwhile, of another realm
abbrev pub HeldHaveRoom : Type 0
HeldHaveRoom =
    (realm : ℕ) (held : Parser) (s t : Serial) → Binds s t → held.open_state.next.realm ≢ s.parser.open_state.next.realm → AreBelow realm (is_bound t.side.doc.bound) →
    IsRoomy realm held s.side.doc → IsRoomy realm held t.side.doc

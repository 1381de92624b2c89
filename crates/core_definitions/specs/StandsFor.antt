-- Which moment of the serial parse the document's side stands for.
use Rattle.std.specs.Prelude.{◌≡◌, ℕ, List, [], ◌∷◌, ◌++◌}
use Rattle.html_types.specs.declared.operation.NodeId.{NodeId}
use Rattle.standard.specs.Act.{SameUpTo}
use Rattle.serial.specs.Serial.{Serial, Moment, reading, tag_ended, awaits, over}
use Rattle.rule_laws.specs.Naming.{rename_parser}
use Rattle.core_definitions.specs.Batches.{Piece}
use Rattle.core_definitions.specs.Desk.{Phase, free, tagged, waits, done, Desk}

-- A state is that of the serial parse under other ids, and without the rest of the page behind its input: the parser, the tree, the text
-- that was written and isn't used, and all else that the document's side holds (level, pending script, characters written, scripts
-- executed, lines).
pub record Carries (r : NodeId → NodeId) (page : List ℕ) (s own : Serial) : Type 0 where
  pub parser : own.parser ≡ rename_parser r s.parser
  pub doc : SameUpTo r s.side.doc own.side.doc
  pub input : s.input ≡ own.input ++ page
  pub side : own.side ≡ record s.side { doc = own.side.doc }

-- at the end: the result, the lines and the tree
abbrev pub CarriesMoment : (NodeId → NodeId) → List ℕ → Moment → Moment → Type 0
CarriesMoment r page (reading s) (reading own) = Carries r page s own
CarriesMoment r page (tag_ended i s) (tag_ended j own) = (j ≡ r i) × Carries r page s own
CarriesMoment r page (awaits name s) (awaits n own) = (n ≡ name) × Carries r page s own
CarriesMoment r page (over o) (over u) = (u.result ≡ o.result) × (u.last.side.lines ≡ o.last.side.lines) × SameUpTo r o.last.side.doc u.last.side.doc
CarriesMoment r page _ _ = ⊥

-- the moment at which the document's side is by itself
abbrev pub own_moment : Phase → Serial → Moment
own_moment free s = reading s
own_moment (tagged i held) s = tag_ended i s
own_moment (waits name held) s = awaits name s
own_moment (done r) s = over (record { result = r; last = s })

abbrev pub text_of : List Piece → List ℕ
text_of [] = []
text_of (x ∷ xs) = x.text ++ text_of xs

-- the rest of the page: of the piece in hand, of those that were sent, and of those that are to be
abbrev pub page_left : Desk → List ℕ
page_left d = text_of (d.left ∷ d.asked ++ d.to_send)

-- Under other ids, no two of which become one, and without the rest of the page, that moment is the document side's.
abbrev pub StandsFor : Desk → Moment → Type 0
StandsFor d m = (r : NodeId → NodeId) × ((a b : NodeId) → r a ≡ r b → a ≡ b) × CarriesMoment r (page_left d) m (own_moment d.phase d.own)

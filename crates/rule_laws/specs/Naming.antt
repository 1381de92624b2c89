-- States and operations beside others: behind other operations, with ids that are bound, and under other ids.
use Rattle.std.specs.Prelude.{◌≡◌, ℕ, ◌<◌, Bool, false, IsTrue, List, [], ◌∷◌, ◌++◌, map, Option, Some, None, option_map}
use Rattle.html_types.specs.Operations.{same_id, later}
use Rattle.html_types.specs.declared.operation.NodeId.{NodeId}
use Rattle.html_types.specs.declared.operation.Op.{Op}
use Rattle.html_types.specs.declared.open.OpenElement.{OpenElement}
use Rattle.html_types.specs.declared.open.FormattingEntry.{FormattingEntry}
use Rattle.html_types.specs.declared.open.FormattingEntry.TheVariants.{Marker, Element}
use Rattle.html_types.specs.declared.open.Open.{Open}
use Rattle.html_types.specs.declared.instruction.Flow.{Flow}
use Rattle.html_types.specs.declared.instruction.Flow.TheVariants.{On, Skip, Leave}
use Rattle.html_types.specs.declared.instruction.Instr.{Instr}
use Rattle.html_types.specs.declared.instruction.Instr.TheVariants as ins
use Rattle.html_types.specs.declared.instruction.Then.{Then}
use Rattle.html_types.specs.declared.instruction.Then.TheVariants.{Nothing, Link, Nobr}
use Rattle.html_types.specs.declared.instruction.Next.{Next}
use Rattle.html_types.specs.declared.instruction.Next.TheVariants as next
use Rattle.html_types.specs.declared.instruction.Stop.{Stop}
use Rattle.html_types.specs.declared.instruction.Stop.TheVariants as stop
use Rattle.standard.specs.Act.{known_after, rename_op}
use Rattle.standard.specs.Instructions.{Config, config}
use Rattle.standard.specs.Rules.{Answer, answer}
use Rattle.standard.specs.Parser.{Parser, Took, took, Finished, Parsed}

-- ---- behind other operations

abbrev pub config_behind : List Op → Config → Config
config_behind p c = record c { ops = p ++ c.ops }

abbrev pub answer_behind : List Op → Answer → Answer
answer_behind p a = record a { ops = p ++ a.ops }

-- ---- ids that are bound; `known` tells which are

abbrev pub AreOpenBound : (NodeId → Bool) → List OpenElement → Type 0
AreOpenBound known [] = Unit {0}
AreOpenBound known (e ∷ es) = IsTrue (known e.id) × AreOpenBound known es

abbrev pub AreFormatsBound : (NodeId → Bool) → List FormattingEntry → Type 0
AreFormatsBound known [] = Unit {0}
AreFormatsBound known (Marker ∷ fs) = AreFormatsBound known fs
AreFormatsBound known (Element id tag ∷ fs) = IsTrue (known id) × AreFormatsBound known fs

abbrev pub IsBoundIfAny : (NodeId → Bool) → Option NodeId → Type 0
IsBoundIfAny known None = Unit {0}
IsBoundIfAny known (Some id) = IsTrue (known id)

-- the ids in the parts of an open state are bound; `Coming` is what is asked of the ids that it gives from `next` on
pub record Holds (Coming : (NodeId → Bool) → NodeId → Type 0) (known : NodeId → Bool) (stack : List OpenElement) (formats : List FormattingEntry) (head form : Option NodeId) (next : NodeId) : Type 0 where
  pub stack_bound : AreOpenBound known stack
  pub formats_bound : AreFormatsBound known formats
  pub head_bound : IsBoundIfAny known head
  pub form_bound : IsBoundIfAny known form
  pub coming : Coming known next

-- none of the ids that come is bound
abbrev pub AreFresh : (NodeId → Bool) → NodeId → Type 0
AreFresh known next = (k : ℕ) → known (later k next) ≡ false

-- each bound id came before, in the same realm
abbrev pub CameBefore : (NodeId → Bool) → NodeId → Type 0
CameBefore known next = (id : NodeId) → IsTrue (known id) → (id.realm ≡ next.realm) × (id.n < next.n)

-- all ids that an open state holds are bound
abbrev pub Serves : ((NodeId → Bool) → NodeId → Type 0) → (NodeId → Bool) → Open → Type 0
Serves Coming known b = Holds Coming known b.stack b.formats b.head b.form b.next

-- which ids are bound once the operations are done
unfoldable pub known_after_all : (NodeId → Bool) → List Op → NodeId → Bool
known_after_all known [] = known
known_after_all known (o ∷ os) = known_after_all (known_after known o) os

-- the script that is asked to run is bound
abbrev pub IsNextBound : (NodeId → Bool) → Next → Type 0
IsNextBound known (next.Script id) = IsTrue (known id)
IsNextBound known _ = Unit {0}

abbrev pub IsStopBound : (NodeId → Bool) → Stop → Type 0
IsStopBound known (stop.Script id) = IsTrue (known id)
IsStopBound known _ = Unit {0}

-- ---- the same under other ids

abbrev pub rename_ops : (NodeId → NodeId) → List Op → List Op
rename_ops r ops = map (rename_op r) ops

abbrev pub rename_element : (NodeId → NodeId) → OpenElement → OpenElement
rename_element r e = record e { id = r e.id }

abbrev pub rename_format : (NodeId → NodeId) → FormattingEntry → FormattingEntry
rename_format r Marker = Marker
rename_format r (Element id tag) = Element (r id) tag

abbrev pub rename_open : (NodeId → NodeId) → Open → Open
rename_open r b = record b { stack = map (rename_element r) b.stack; formats = map (rename_format r) b.formats; head = option_map r b.head; form = option_map r b.form; next = r b.next }

abbrev pub rename_then : (NodeId → NodeId) → Then → Then
rename_then r Nothing = Nothing
rename_then r (Link id) = Link (r id)
rename_then r Nobr = Nobr

abbrev pub rename_next : (NodeId → NodeId) → Next → Next
rename_next r (next.Adopt w h) = next.Adopt w (rename_then r h)
rename_next r (next.Script id) = next.Script (r id)
rename_next r n = n

abbrev pub rename_flow : (NodeId → NodeId) → Flow → Flow
rename_flow r On = On
rename_flow r Skip = Skip
rename_flow r (Leave n) = Leave (rename_next r n)

-- an instruction that names an element
abbrev pub rename_instr : (NodeId → NodeId) → Instr → Instr
rename_instr r (ins.TakeOff id) = ins.TakeOff (r id)
rename_instr r i = i

abbrev pub rename_row : (NodeId → NodeId) → List Instr → List Instr
rename_row r row = map (rename_instr r) row

abbrev pub rename_config : (NodeId → NodeId) → Config → Config
rename_config r c = config (rename_open r c.open_state) (rename_ops r c.ops) (rename_flow r c.flow)

abbrev pub rename_answer : (NodeId → NodeId) → Answer → Answer
rename_answer r a = answer (rename_open r a.open_state) (rename_ops r a.ops) (rename_next r a.next)

abbrev pub rename_parser : (NodeId → NodeId) → Parser → Parser
rename_parser r p = record p { open_state = rename_open r p.open_state }

abbrev pub rename_stop : (NodeId → NodeId) → Stop → Stop
rename_stop r (stop.Script id) = stop.Script (r id)
rename_stop r s = s

abbrev pub rename_took : (NodeId → NodeId) → Took → Took
rename_took r (took ops p why) = took (rename_ops r ops) (rename_parser r p) (rename_stop r why)

abbrev pub rename_finished : (NodeId → NodeId) → Finished → Finished
rename_finished r f = record f { ops = rename_ops r f.ops; parser = rename_parser r f.parser }

abbrev pub rename_parsed : (NodeId → NodeId) → Parsed → Parsed
rename_parsed r p = record p { ops = rename_ops r p.ops; parser = rename_parser r p.parser; stop = rename_stop r p.stop }

-- no two ids become one, and those that come from this one on stay one behind another
pub record Renames (r : NodeId → NodeId) (next : NodeId) : Type 0 where
  pub apart : (a b : NodeId) → same_id (r a) (r b) ≡ same_id a b
  pub in_order : (k : ℕ) → r (later k next) ≡ later k (r next)

-- the id comes some later in the realm, or is the same
abbrev pub IsLater : NodeId → NodeId → Type 0
IsLater next id = (k : ℕ) × (id ≡ later k next)

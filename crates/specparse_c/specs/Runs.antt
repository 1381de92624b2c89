-- A page that is run with its scripts.
use Rattle.std.specs.Prelude.{◌≡◌, ◌≢◌, ◌<◌, ◌≤◌, ◌+◌, ◌==◌, ◌⊎◌, if◌then◌else◌, ℕ, false, List, [], ◌∷◌, length, take, drop, Contains, Some}
use Rattle.std.specs.Str.{IsUtf8, bytes_eq}
use Rattle.html_types.specs.declared.ending.Why.{Why}
use Rattle.html_types.specs.declared.ending.Why.TheVariants as why
use Rattle.standard.specs.Entities.{Entities}
use Rattle.serial.specs.Scripts.{Fetched, got, missing}
use Rattle.serial.specs.Serial.{Result, Outcome, finished, refused}
use Rattle.serial.specs.Output.{output_with}
use Rattle.page_turns.specs.Pages.{world_of, ComesTo}
use Rattle.memory_runner.specs.declared.running.Ran.{Ran}
use Rattle.memory_runner.specs.Runs.{Runs}
use Rattle.html_document.specs.declared.spans.Span.{Span}
use Rattle.html_document.specs.declared.spans.FlatAttribute.{FlatAttribute}
use Rattle.specparse_c.specs.declared.failure.Failure.{Failure}
use Rattle.specparse_c.specs.declared.failure.Failure.TheVariants as failure
use Rattle.specparse_c.specs.Entities.{entities_in}
use Rattle.specparse_c.specs.Calls.{NoEntities}

-- ---- the scripts, each a name and a text that are parts of the bytes

abbrev pub part_of : List ℕ → Span → List ℕ
part_of bs s = take s.length (drop s.start bs)

abbrev pub IsPart : List ℕ → Span → Type 0
IsPart bs s = s.start + s.length ≤ length bs

abbrev pub IsNamed : List ℕ → Span → Type 0
IsNamed bs s = IsPart bs s × IsUtf8 (part_of bs s)

abbrev pub IsScript : List ℕ → FlatAttribute → Type 0
IsScript bs r = IsNamed bs r.name × IsPart bs r.value

abbrev pub with_script : (List ℕ → Fetched) → List ℕ → FlatAttribute → List ℕ → Fetched
with_script scripts bs r name = if bytes_eq (part_of bs r.name) name then got (part_of bs r.value) else scripts name

abbrev pub scripts_behind : (List ℕ → Fetched) → List ℕ → List FlatAttribute → List ℕ → Fetched
scripts_behind scripts bs [] = scripts
scripts_behind scripts bs (r ∷ rs) = scripts_behind (with_script scripts bs r) bs rs

-- what there is under each name: of several scripts of one name the last
abbrev pub scripts_given : List ℕ → List FlatAttribute → List ℕ → Fetched
scripts_given bs rs = scripts_behind (λ name. missing) bs rs

-- one of them has no name or no text
abbrev pub NoScripts : List ℕ → List FlatAttribute → Type 0
NoScripts bs rs = (r : FlatAttribute) × Contains rs r × (IsScript bs r → ⊥)

abbrev pub AreNoWords : List ℕ → List FlatAttribute → ℕ → Type 0
AreNoWords bs rs flags = (1 < flags) ⊎ NoScripts bs rs

-- ---- the run

-- with those entities and those scripts, the page comes to that
abbrev pub ComesOf : List ℕ → List ℕ → List ℕ → List FlatAttribute → Outcome → Type 0
ComesOf entities page bs rs o = (es : Entities) × (entities_in entities ≡ Some es) × ComesTo (world_of es (scripts_given bs rs)) (record { bytes = page; fault = false }) o

abbrev pub HasRan : List ℕ → List ℕ → List ℕ → List FlatAttribute → ℕ → Ran → Type 0
HasRan entities page bs rs flags ran = (es : Entities) × (entities_in entities ≡ Some es) × Runs es (scripts_given bs rs) page (flags == 1) ran

abbrev pub FailsAtScript : List ℕ → FlatAttribute → Failure → Type 0
FailsAtScript bs r failure.Context = IsScript bs r → ⊥
FailsAtScript bs r failure.NoMemory = Unit {0}
FailsAtScript bs r _ = ⊥

abbrev pub FailsAtScripts : List ℕ → List FlatAttribute → Failure → Type 0
FailsAtScripts bs rs failure.Context = NoScripts bs rs
FailsAtScripts bs rs failure.NoMemory = Unit {0}
FailsAtScripts bs rs _ = ⊥

abbrev pub FailsAtFlags : ℕ → Failure → Type 0
FailsAtFlags flags failure.Context = 1 < flags
FailsAtFlags flags _ = ⊥

abbrev pub FailsAtRun : List ℕ → List ℕ → List FlatAttribute → ℕ → Failure → Type 0
FailsAtRun entities bs rs flags failure.Context = AreNoWords bs rs flags
FailsAtRun entities bs rs flags failure.Entities = NoEntities entities
FailsAtRun entities bs rs flags failure.NoMemory = Unit {0}
FailsAtRun entities bs rs flags _ = ⊥

-- ---- the call

-- the page ends so, and the front of the room is what the program prints of it
abbrev pub PrintsTo : List ℕ → List ℕ → List ℕ → List FlatAttribute → ℕ → Result → ℕ → List ℕ → Type 0
PrintsTo entities page bs rs flags res needed text =
    (o : Outcome) × ComesOf entities page bs rs o × (o.result ≡ res) × (needed ≤ length text) × (take needed text ≡ output_with (flags == 1) o)

abbrev pub PrintsAll : List ℕ → List ℕ → List ℕ → List FlatAttribute → ℕ → ℕ → List ℕ → Type 0
PrintsAll entities page bs rs flags needed text = PrintsTo entities page bs rs flags finished needed text

abbrev pub PrintsBad : List ℕ → List ℕ → List ℕ → List FlatAttribute → ℕ → ℕ → List ℕ → Type 0
PrintsBad entities page bs rs flags needed text = PrintsTo entities page bs rs flags (refused why.BadUtf8) needed text

abbrev pub PrintsLimit : List ℕ → List ℕ → List ℕ → List FlatAttribute → ℕ → ℕ → List ℕ → Type 0
PrintsLimit entities page bs rs flags needed text = (w : Why) × (w ≢ why.BadUtf8) × PrintsTo entities page bs rs flags (refused w) needed text

abbrev pub LacksPrintRoom : List ℕ → List ℕ → List ℕ → List FlatAttribute → ℕ → ℕ → List ℕ → Type 0
LacksPrintRoom entities page bs rs flags needed text =
    (o : Outcome) × ComesOf entities page bs rs o × (needed ≡ length (output_with (flags == 1) o)) × (length text < needed)

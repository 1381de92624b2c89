-- A pair of both sides: what it shows, and what an event makes of it.
use Rattle.std.specs.Prelude.{◌≡◌, ◌<◌, ℕ, Bool, true, false, ◌||◌, is_some, IsTrue, if◌then◌else◌, List, [], ◌∷◌, ◌++◌, Some, None}
use Rattle.std.specs.declared.snapshot.Snapshot.{Snapshot}
use Rattle.serial.specs.declared.script.Line.{Line}
use Rattle.html_types.specs.declared.ending.Ending.{Ending}
use Rattle.standard.specs.Entities.{Entities}
use Rattle.serial.specs.Scripts.{Fetched}
use Rattle.serial.specs.Serial.{World}
use Rattle.core_definitions.specs.declared.event.Event.{Event}
use Rattle.core_definitions.specs.declared.event.Event.TheVariants.{Send, Pick, Give, Take, Do, Arrive}
use Rattle.core_definitions.specs.Desk.{Desk, can_send, can_do, can_arrive, wants_reply, takes, arrives}
use Rattle.core_definitions.specs.Core.{Setup, Request, Reply, WorkSide, Core, first_core, enabled, sent_from, picked_from, given_to, Steps, Runs}
use Rattle.core_definitions.specs.Journal.{Journal, Knows, own_events}
use Rattle.core_pair.specs.declared.both.Could.{Could}
use Rattle.core_steps.specs.Acting.{fetch_or_missing}
use Rattle.core_steps.specs.Fetches.{names_of}
use Rattle.core_steps.specs.Journals.{found}
use Rattle.core_steps.specs.Sides.{Shown, Shows, DoesShow, with_piece}

-- ---- what it shows

pub record Paired : Type 0 where
  pub core : Core
  -- the document side's journal, which has the pieces of the page, and of its lines those that were taken
  pub journal : Journal
  pub given : List Line
  -- what else the pair was given
  pub entities : Entities
  pub scripts : List (List ℕ × Fetched)
  pub ending : Ending
  pub ahead : ℕ
  -- the events of both sides so far
  pub events : List Event
  -- memory ran out
  pub spent : Bool

-- the files of scripts are those that are listed, and all others are missing
abbrev pub setup_from : Entities → List (List ℕ × Fetched) → List (List ℕ) → Ending → ℕ → Setup
setup_from es files pieces e ahead = record { world = record { entities = es; scripts = λ name. fetch_or_missing (found name files) }; pieces = pieces; ending = e; ahead = ahead }

-- what the definitions' run is given
abbrev pub setup_of : Paired → Setup
setup_of p = setup_from p.entities p.scripts p.journal.pieces p.ending p.ahead

abbrev pub first_paired : Entities → List (List ℕ × Fetched) → List (List ℕ) → Ending → ℕ → Paired
first_paired es files pieces e ahead = record {
  core = first_core (setup_from es files pieces e ahead);
  journal = record { pieces = pieces; ending = Some e; fetches = []; events = [] };
  given = [];
  entities = es;
  scripts = files;
  ending = e;
  ahead = ahead;
  events = [];
  spent = false;
}

-- Of a core whose parse is over, result, document and lines are shown, and what is kept of the pieces; of any other all is shown.
abbrev pub ShowsCore : Core → Core → Type 0
ShowsCore c told = (d : Desk) × Shows d told.desk × (c ≡ record told { desk = d })

-- ---- what an event makes of it

-- From each core that is shown as the first, the event leads to one that is shown as the second.
abbrev pub StepsShown : Setup → Event → Core → Core → Type 0
StepsShown x v told told' = (c : Core) → ShowsCore c told → (c' : Core) × Steps x v c c' × ShowsCore c' told'

-- The journal gains the events of the document's side, and the file of a script that has arrived. Its pieces and its ending stay.
abbrev pub events_noted : Event → List Event → List Event
events_noted Send us = us ++ Send ∷ []
events_noted Pick us = us
events_noted Give us = us
events_noted Take us = us ++ Take ∷ []
events_noted Do us = us ++ Do ∷ []
events_noted (Arrive name) us = us ++ Arrive name ∷ []

abbrev pub fetches_noted : Event → List (List ℕ × Fetched) → List (List ℕ × Fetched) → List (List ℕ × Fetched)
fetches_noted Send files fs = fs
fetches_noted Pick files fs = fs
fetches_noted Give files fs = fs
fetches_noted Take files fs = fs
fetches_noted Do files fs = fs
fetches_noted (Arrive name) files fs = (name, fetch_or_missing (found name files)) ∷ fs

abbrev pub journal_noted : Event → List (List ℕ × Fetched) → Journal → Journal
journal_noted v files j = record j { fetches = fetches_noted v files j.fetches; events = events_noted v j.events }

-- nothing else is changed by it
abbrev pub stepped : Event → Core → Paired → Paired
stepped v c p = record p { core = c; journal = journal_noted v p.scripts p.journal; events = p.events ++ v ∷ [] }

-- ---- where it stands

-- what comes of fetching a script of that name is set anew
abbrev pub brought : List ℕ → Fetched → Paired → Paired
brought name f p = record p { scripts = (name, f) ∷ p.scripts }

-- an event is enabled that needs no script
abbrev pub is_busy : Setup → Core → Bool
is_busy x c = enabled x Send c || (enabled x Pick c || enabled x Give c)

-- ---- what it holds

abbrev pub told_of : Shown → List Request → WorkSide → List Reply → List (List ℕ × Fetched) → Ending → List Event → Paired
told_of d requests work replies files e events = record {
  core = record { desk = d.desk; requests = requests; work = work; replies = replies };
  journal = d.journal;
  given = d.given;
  entities = d.entities;
  scripts = files;
  ending = e;
  ahead = d.ahead;
  events = events;
  spent = d.spent;
}

abbrev pub events_of : List (Snapshot Event) → List Event
events_of [] = []
events_of (s ∷ ss) = s.value ∷ events_of ss

-- after want of memory it shows what it held before
abbrev pub paired_of : Paired → Paired → Bool → Paired
paired_of both before spent = record (if spent then before else both) { spent = spent }

-- pieces were read, one behind another
abbrev pub with_pieces : List (List ℕ) → Shown → Shown
with_pieces [] s = s
with_pieces (t ∷ ts) s = with_pieces ts (with_piece t s)

-- ---- an event, on what it holds

abbrev pub noted : Event → Journal → Journal
noted v j = record j { events = j.events ++ v ∷ [] }

abbrev pub noted_fetch : List ℕ → Fetched → Journal → Journal
noted_fetch name f j = record j { fetches = (name, f) ∷ j.fetches; events = j.events ++ Arrive name ∷ [] }

abbrev pub behind_first : {A : Type 0} → List A → List A
behind_first [] = []
behind_first (a ∷ rest) = rest

abbrev pub with_core : Core → Journal → Paired → Paired
with_core c j p = record p { core = c; journal = j }

abbrev pub with_event : Event → Paired → Paired
with_event v p = record p { events = p.events ++ v ∷ [] }

abbrev pub IsApplicable : Entities → Event → Paired → Type 0
IsApplicable es Send p = IsTrue (can_send p.ahead p.core.desk)
IsApplicable es Pick p = p.core.work.hand ≡ None
IsApplicable es Give p = (p.entities ≡ es) × IsTrue (is_some p.core.work.hand)
IsApplicable es Take p = (p.entities ≡ es) × IsTrue (wants_reply p.core.desk)
IsApplicable es Do p = IsTrue (can_do p.core.desk)
IsApplicable es (Arrive name) p = IsTrue (can_arrive name p.core.desk)

-- What the document side takes is the answer that is called for, whatever the reply says.
abbrev pub Applied : Event → Paired → Paired → Type 0
Applied Send p q = q ≡ with_core (sent_from p.core.desk.to_send p.core) (noted Send p.journal) p
Applied Pick p q = q ≡ with_core (picked_from p.core.requests p.core) p.journal p
Applied Give p q = q ≡ with_core (given_to p.core.work.hand p.entities p.core) p.journal p
Applied Take p q = q ≡ with_core (record p.core { desk = takes p.entities p.core.desk; replies = behind_first p.core.replies }) (noted Take p.journal) p
Applied Do p q = (d : Desk) × DoesShow p.entities p.journal.fetches p.core.desk d × (q ≡ with_core (record p.core { desk = d }) (noted Do p.journal) p)
Applied (Arrive name) p q = q ≡ with_core (record p.core { desk = arrives name p.core.desk }) (noted_fetch name (fetch_or_missing (found name p.scripts)) p.journal) p

-- ---- what is known of it

-- the same in another world
abbrev pub in_world : World → Setup → Setup
in_world w x = record x { world = w }

-- from the first core these events lead, each of them enabled, to one that is shown so
abbrev pub Reaches : Setup → List Event → Core → Type 0
Reaches x vs told = (c : Core) × Runs x vs (first_core x) c × ShowsCore c told

pub record IsRun (es : Entities) (p : Paired) : Type 0 where
  pub entities : p.entities ≡ es
  pub some : 0 < p.ahead
  pub knows : Knows p.journal.fetches (setup_of p).world
  pub arrived : p.core.desk.arrived ≡ names_of p.journal.fetches
  pub own : p.journal.events ≡ own_events p.events
  -- in each world with those entities, and in which the fetches are as they were
  pub reached : (w : World) → w.entities ≡ p.entities → Knows p.journal.fetches w → Reaches (in_world w (setup_of p)) p.events p.core

-- After want of memory the document's side tells what it told before, and these events were enabled then.
pub record IsTold (both before : Paired) (could : Could) : Type 0 where
  pub desk : both.core.desk ≡ before.core.desk
  pub ahead : both.ahead ≡ before.ahead
  pub pick : could.pick ≡ enabled (setup_of before) Pick before.core
  pub give : could.give ≡ enabled (setup_of before) Give before.core
  pub takes : could.take ≡ enabled (setup_of before) Take before.core

-- What is known of a pair; before want of memory it was as `before`.
pub record IsKept (es : Entities) (both before : Paired) (could : Could) (spent : Bool) : Type 0 where
  pub going : spent ≡ false → both.spent ≡ false
  pub failed : spent ≡ true → IsTold both before could
  pub journal : both.journal ≡ (paired_of both before spent).journal
  pub run : IsRun es (paired_of both before spent)

-- The rule of the board: there is one list of what was published, of which each thread has seen
-- the first.
use Rattle.std.specs.Prelude.{◌≡◌, ◌≢◌, ◌≤◌, ℕ, Bool, true, false, ◌⊎◌, List, [], ◌∷◌, ◌++◌, fold}
use mathlib.Core.Option.{some}
use lib.ListN.{get_elem?}
use Rattle.tree_watch.specs.declared.shown.Stand.{Stand}
use Rattle.tree_watch.specs.declared.rule.View.{View}
use Rattle.tree_watch.specs.Notes.{start}

abbrev pub Log : Type 0
Log = List Stand

abbrev pub StartsWith : Log → Log → Type 0
StartsWith log seen = (rest : Log) × (log ≡ seen ++ rest)

-- what was published last
abbrev pub latest : Log → Stand
latest log = fold (λ (a b : Stand). b) start log

-- what was published begins with what the thread has seen and with what it was told of; who leads
-- has seen all
abbrev pub Agrees : Log → View → Type 0
Agrees log v = StartsWith log v.seen × StartsWith log v.told × (v.leads ≡ true → log ≡ v.seen)

abbrev pub AllAgree : Log → List View → Type 0
AllAgree log views = (seat : ℕ) (v : View) → get_elem? views seat ≡ some v → Agrees log v

abbrev pub OneLeads : List View → Type 0
OneLeads views =
    (i j : ℕ) (v w : View) → get_elem? views i ≡ some v → get_elem? views j ≡ some w
    → v.leads ≡ true → w.leads ≡ true → i ≡ j

abbrev pub NoneLeads : List View → Type 0
NoneLeads views = (i : ℕ) (v : View) → get_elem? views i ≡ some v → v.leads ≡ false

-- the mark is in what was published last alone
abbrev pub MarkIsLast : Log → Type 0
MarkIsLast log = (p r : Log) → log ≡ p ++ r → r ≢ [] → (latest p).last ≡ false

-- the number of changes never falls
abbrev pub Grows : Log → Type 0
Grows log = (p r : Log) → log ≡ p ++ r → (latest p).changes ≤ (latest log).changes

pub record Kept (s : Stand) (views : List View) : Type 0 where
  pub log : Log
  pub stands : s ≡ latest log
  pub all_agree : AllAgree log views
  pub one_leads : OneLeads views
  -- before the board is opened nothing is published, and nobody leads
  pub closed : s.opened ≡ false → (log ≡ []) × NoneLeads views
  pub mark : MarkIsLast log
  pub grows : Grows log

abbrev pub newcomer : View
newcomer = record { seen = []; told = []; leads = false }

-- the board is opened: who does it leads
abbrev pub Opens : View → Stand → View → Type 0
Opens v y w = w ≡ record v { seen = y ∷ []; leads = true }

-- the notes are published
abbrev pub Publishes : View → Stand → View → Type 0
Publishes v y w = w ≡ record v { seen = v.seen ++ y ∷ [] }

-- a thread sees what was published last
pub record Sees (v : View) (y : Stand) (w : View) : Type 0 where
  pub seen : StartsWith w.seen v.seen
  pub told : StartsWith w.seen v.told
  pub is : y ≡ latest w.seen
  -- no fewer changes than were seen before, or told of
  pub seen_before : (latest v.seen).changes ≤ (latest w.seen).changes
  pub told_before : (latest v.told).changes ≤ (latest w.seen).changes
  pub others : w ≡ record v { seen = w.seen }

-- of what a thread has seen and what it was told, one begins with the other; where both have the
-- mark they are the same
pub record Ends (v w : View) : Type 0 where
  pub same : w ≡ v
  pub alike : StartsWith v.seen v.told ⊎ StartsWith v.told v.seen
  pub marked : (latest v.seen).last ≡ true → (latest v.told).last ≡ true → v.seen ≡ v.told

-- what was told is kept beside what was seen
abbrev pub informed : View → View → View
informed v w = record v { told = w.seen }

-- a note of what was seen
abbrev pub retold : View → View
retold v = record v { leads = false }

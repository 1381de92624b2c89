-- The helpers of a run: with their threads while it goes on, and as they come back.
use Rattle.std.specs.Prelude.{◌≡◌, ◌≤◌, ◌<◌, ◌+◌, ◌-◌, ◌⊎◌, ℕ, zero, suc, true, false, List, [], ◌∷◌, ◌++◌, length, map, flat_map, Option, Some, None, vec_len, slice_get}
use Rattle.std.specs.List.{AllByRecursion}
use Rattle.std.specs.String.{string_bytes}
use Rattle.std.specs.Vec.{vec_capacity}
use mathlib.Core.List.{IsPrefix}
use Rattle.outside.specs.Outside.{Seen, KeepsOthers}
use Rattle.outside.specs.declared.traits.Outside as Outside
use Rattle.outside.specs.declared.traits.Port.TheVariants.{Script}
use Rattle.serial.specs.Scripts.{Fetched, is_lawful}
use Rattle.core_steps.specs.Fetches.{fetched_of}
use Rattle.page_turns.specs.declared.prefetch.Early.{Early}
use Rattle.page_turns.specs.declared.prefetch.Early.TheVariants.{Unasked, Nothing, Came}
use Rattle.page_turns.specs.Scripts.{Met, Crew, Help, AreDistinct, IsGiven, GivesMore, MayHelp}
use Rattle.preload.specs.declared.messages.Wanted.{Wanted}
use Rattle.preload.specs.declared.messages.Wanted.TheVariants.{Ask, Stop}
use Rattle.preload.specs.declared.messages.Fetched.{Fetched as Answer}
use Rattle.preload.specs.declared.helper.Helper.{Helper}
use Rattle.preload.specs.declared.helper.HelperLanes.{HelperLanes}
use Rattle.preload.specs.declared.team.Fetcher.{Fetcher}
use Rattle.preload.specs.declared.team.Member.{Member}
use Rattle.preload.specs.declared.team.Member.TheVariants.{Works, Idle}
use Rattle.preload.specs.Names.{is_listed}
use Rattle.preload.specs.Fetching.{GivesAll, came_of, came_by, given_by}
use Rattle.preload.specs.Helping.{IsWorking}

-- what a contract sees of them
pub record Team (F : Type 0) : Type 0 where
  pub dir : List ℕ
  -- how many of the helpers may be used: the first
  pub used : ℕ
  -- all helpers, as they were
  pub was : List F
  -- what was given so far
  pub given : Met
  -- how many names may still be asked for, and answers are to come
  pub to_come : ℕ

abbrev pub crew_of : {F : Type 0} → Outside.Ghosts F → Team F → Crew
crew_of g t = record { dir = t.dir; used = t.used; was = map g.seen t.was }

-- ---- as they come back

-- A helper was asked for these names, which are lawful, each once, took all of them and then the word to stop, and gave each an answer, in order.
pub record Helped (dir : List ℕ) (lanes : HelperLanes) (before after : Seen) : Type 0 where
  pub names : List (List ℕ)
  pub lawful : AllByRecursion (λ name. is_lawful name ≡ true) names
  pub once : AreDistinct names
  pub few : length names ≤ 64
  pub asked : lanes.asked.put ≡ map Ask names ++ Stop ∷ []
  pub taken : lanes.asked.taken ≡ lanes.asked.put
  pub in_order : IsPrefix lanes.answers.taken lanes.answers.put
  pub gives : GivesAll dir names lanes.answers.put before after
  pub others : KeepsOthers Script before after

-- One without lanes is as it was.
abbrev pub HelpedBy : List ℕ → Option HelperLanes → Seen → Seen → Type 0
HelpedBy dir None before after = after ≡ before
HelpedBy dir (Some lanes) before after = Helped dir lanes before after

-- Each helper is back in its place, and so are those behind them, which are as they were.
abbrev pub HelpedEach : List ℕ → List (Option HelperLanes) → List Seen → List Seen → Type 0
HelpedEach dir [] before after = after ≡ before
HelpedEach dir (l ∷ lanes) (b ∷ before) (a ∷ after) = HelpedBy dir l b a × HelpedEach dir lanes before after
HelpedEach dir lanes before after = ⊥

-- the first so many helpers
abbrev pub helps_first : ℕ → List Seen → List Seen → List Help
helps_first zero before after = []
helps_first (suc n) [] after = []
helps_first (suc n) (b ∷ before) [] = []
helps_first (suc n) (b ∷ before) (a ∷ after) = record { before = b; after = a } ∷ helps_first n before after

-- ---- what went through their lanes

-- the names that were asked for
abbrev pub asked_in : List Wanted → List (List ℕ)
asked_in [] = []
asked_in (Ask name ∷ ws) = name ∷ asked_in ws
asked_in (Stop ∷ ws) = asked_in ws

abbrev pub names_in_lanes : Option HelperLanes → List (List ℕ)
names_in_lanes None = []
names_in_lanes (Some lanes) = asked_in lanes.asked.put

abbrev pub names_through : List (Option HelperLanes) → List (List ℕ)
names_through lanes = flat_map names_in_lanes lanes

-- what the answers say that were taken
abbrev pub given_in_lanes : Option HelperLanes → Met
given_in_lanes None = []
given_in_lanes (Some lanes) = came_by (asked_in lanes.asked.put) lanes.answers.taken

abbrev pub given_through : List (Option HelperLanes) → Met
given_through lanes = flat_map given_in_lanes lanes

-- ---- one helper, while it is at work

-- what comes of the script of that name, as the answer says
abbrev pub CameAs : List ℕ → Answer → Early → Type 0
CameAs name answer Unasked = ⊥
CameAs name answer Nothing = came_of name answer ≡ []
CameAs name answer (Came n fetch) = (n ≡ name) × (came_of name answer ≡ (name, fetched_of fetch) ∷ [])

-- A name more was asked for, or memory ran out.
abbrev pub AsksMore : List ℕ → List (List ℕ) → List (List ℕ) → Type 0
AsksMore name old new = (new ≡ old) ⊎ (new ≡ old ++ name ∷ [])

module _ {F : Type 0} (g : Outside.Ghosts F) where
  -- It works, and was asked for these names, each once.
  pub record IsAsked (f : Fetcher F) : Type 0 where
    pub working : IsWorking g (string_bytes f.helper.dir) f.helper
    pub put : f.helper.ask.put ≡ map Ask f.names.items
    pub told : vec_len f.told ≡ length f.helper.answers.taken
    pub so_far : vec_len f.told ≤ vec_len f.names
    pub lawful : AllByRecursion (λ name. is_lawful name ≡ true) f.names.items
    pub once : AreDistinct f.names.items
    pub few : vec_len f.names ≤ 64
    pub room : (64 ≤ vec_capacity f.names) × (64 ≤ vec_capacity f.told)

  abbrev pub IsMember : Member F → Type 0
  IsMember (Works f) = IsAsked f
  IsMember (Idle h) = Unit {0}

  abbrev pub AreMembers : List (Member F) → Type 0
  AreMembers [] = Unit {0}
  AreMembers (m ∷ ms) = IsMember m × AreMembers ms

  -- what it was before
  abbrev pub was_of : Member F → Seen
  was_of (Works f) = g.seen f.helper.was.value
  was_of (Idle h) = g.seen h

module _ {F : Type 0} where
  abbrev pub helper_of : Member F → F
  helper_of (Works f) = f.helper.was.value
  helper_of (Idle h) = h

  -- what it fetches, it fetches from the folder
  abbrev pub IsIn : List ℕ → Member F → Type 0
  IsIn dir (Works f) = string_bytes f.helper.dir ≡ dir
  IsIn dir (Idle h) = Unit {0}

  abbrev pub AreIn : List ℕ → List (Member F) → Type 0
  AreIn dir [] = Unit {0}
  AreIn dir (m ∷ ms) = IsIn dir m × AreIn dir ms

  -- the names that one was asked for, and all
  abbrev pub names_to : Member F → List (List ℕ)
  names_to (Works f) = f.names.items
  names_to (Idle h) = []

  abbrev pub names_in : List (Member F) → List (List ℕ)
  names_in members = flat_map names_to members

  -- how many names one may still be asked for, and how many answers it may still give; and all
  abbrev pub to_come_of : Fetcher F → ℕ
  to_come_of f = (64 - vec_len f.names) + (64 - vec_len f.told)

  abbrev pub to_come_to : Member F → ℕ
  to_come_to (Works f) = to_come_of f
  to_come_to (Idle h) = 0

  abbrev pub to_come_in : List (Member F) → ℕ
  to_come_in [] = 0
  to_come_in (m ∷ ms) = to_come_to m + to_come_in ms

  -- what was given by one, and by all
  abbrev pub given_of : Fetcher F → Met
  given_of f = given_by f.names.items f.told.items f.helper.answers.taken

  abbrev pub given_to : Member F → Met
  given_to (Works f) = given_of f
  given_to (Idle h) = []

  abbrev pub given_in : List (Member F) → Met
  given_in members = flat_map given_to members

  -- it began as the same helper, at the same folder
  abbrev pub SameHelper : Helper F → Helper F → Type 0
  SameHelper old new = (new.was ≡ old.was) × (new.dir ≡ old.dir)

  abbrev pub SameMember : Member F → Member F → Type 0
  SameMember (Works f) (Works f') = SameHelper f.helper f'.helper
  SameMember (Idle h) (Idle h') = h' ≡ h
  SameMember _ _ = ⊥

  abbrev pub SameMembers : List (Member F) → List (Member F) → Type 0
  SameMembers [] [] = Unit {0}
  SameMembers (m ∷ ms) (m' ∷ ms') = SameMember m m' × SameMembers ms ms'
  SameMembers _ _ = ⊥

  -- where a name stands among those that one was asked for, and who
  abbrev pub IsPlace : List ℕ → ℕ → Member F → Type 0
  IsPlace name place (Works f) = slice_get f.names.items place ≡ Some name
  IsPlace name place (Idle h) = ⊥

  abbrev pub HasPlace : List ℕ → ℕ → ℕ → List (Member F) → Type 0
  HasPlace name who place members = (m : Member F) × (slice_get members who ≡ Some m) × IsPlace name place m

  -- it wasn't asked for the name
  abbrev pub IsUnasked : List ℕ → Member F → Type 0
  IsUnasked name (Works f) = is_listed name f.names.items ≡ false
  IsUnasked name (Idle h) = Unit {0}

  abbrev pub AreUnasked : List ℕ → List (Member F) → Type 0
  AreUnasked name members = (k : ℕ) (m : Member F) → slice_get members k ≡ Some m → IsUnasked name m

  -- it may be asked for one more
  abbrev pub HasRoom : Member F → Type 0
  HasRoom (Works f) = vec_len f.names < 64
  HasRoom (Idle h) = ⊥

module _ {F : Type 0} where
  -- its names went through the lanes, and what it gave came through them
  abbrev pub IsAskedIn : Member F → Option HelperLanes → Type 0
  IsAskedIn m l = (names_in_lanes l ≡ names_to m) × GivesMore (given_to m) (given_in_lanes l)

module _ {F : Type 0} (g : Outside.Ghosts F) where
  -- A helper was given its fetcher, as long as there were fewer than so many, or put aside.
  pub data Placed (dir : List ℕ) (most : ℕ) (helper : F) (members members' : List (Member F)) (rest rest' : List F) : Type 0 where
    to_member : (m : Member F) → length members < most → IsMember g m → IsIn dir m → helper_of m ≡ helper → names_to m ≡ [] → given_to m ≡ [] → members' ≡ members ++ m ∷ [] → rest' ≡ rest
        → Placed dir most helper members members' rest rest'
    to_rest : most ≤ length members → members' ≡ members → rest' ≡ rest ++ helper ∷ [] → Placed dir most helper members members' rest rest'

module _ {F : Type 0} (g : Outside.Ghosts F) where
  -- How a member came back, with what went through its lanes.
  abbrev pub CameBack : Member F → Option HelperLanes → Seen → Type 0
  CameBack (Works f) lanes after = HelpedBy (string_bytes f.helper.dir) lanes (g.seen f.helper.was.value) after × (names_in_lanes lanes ≡ f.names.items) × GivesMore (given_of f) (given_in_lanes lanes)
  CameBack (Idle h) lanes after = (lanes ≡ None) × (after ≡ g.seen h)

  -- What it gave came of its files.
  abbrev pub GaveOwn : Member F → Seen → Type 0
  GaveOwn (Works f) after = (name : List ℕ) (came : Fetched) → IsGiven name came (given_of f) → MayHelp (string_bytes f.helper.dir) name came (record { before = g.seen f.helper.was.value; after = after })
  GaveOwn (Idle h) after = Unit {0}

  -- the members that ended, with what went through their lanes and as they came back
  abbrev pub CameBackEach : List ℕ → List (Member F) → List (Option HelperLanes) → List Seen → Type 0
  CameBackEach dir [] [] [] = Unit {0}
  CameBackEach dir (m ∷ ms) (l ∷ ls) (s ∷ ss) = HelpedBy dir l (was_of g m) s × GaveOwn m s × IsAskedIn m l × CameBackEach dir ms ls ss
  CameBackEach dir ms ls ss = ⊥

-- A helper with its thread, as the document's side has it.
use Rattle.std.specs.Prelude.{◌≡◌, ℕ, List, []}
use Rattle.std.specs.String.{string_bytes}
use Rattle.atomic_table.specs.Seated.{TableId}
use Rattle.outside.specs.declared.traits.Outside as Outside
use Rattle.preload.specs.declared.helper.FetcherLanes.{FetcherLanes}
use Rattle.preload.specs.declared.helper.Parting.{Parting}
use Rattle.preload.specs.declared.helper.Parting.TheVariants.{Done, Unused}
use Rattle.preload.specs.declared.helper.Seat.{Seat}
use Rattle.preload.specs.declared.helper.Seat.TheVariants.{There, Idle, Ended}
use Rattle.preload.specs.declared.helper.Helper.{Helper}
use Rattle.preload.specs.Fetching.{FetchedAll}

module _ {F : Type 0} (g : Outside.Ghosts F) where
  -- it has fetched over the lanes that it was given, or hands all back as it was
  abbrev pub Kept : List ℕ → F → FetcherLanes → Parting F → Type 0
  Kept dir helper lanes (Done f ends) = (ends.asked.lane ≡ lanes.asked.lane) × (ends.answers.lane ≡ lanes.answers.lane) × FetchedAll dir (g.seen helper) (g.seen f) ends.asked.taken ends.answers.put
  Kept dir helper lanes (Unused f l) = (f ≡ helper) × (l.asked ≡ lanes.asked) × (l.answers ≡ lanes.answers)

  abbrev pub asked_lane : Seat F → TableId
  asked_lane (There child) = child.promise.lanes.value.asked.lane
  asked_lane (Idle f lanes) = lanes.asked.lane
  asked_lane (Ended f ends) = ends.asked.lane

  abbrev pub answers_lane : Seat F → TableId
  answers_lane (There child) = child.promise.lanes.value.answers.lane
  answers_lane (Idle f lanes) = lanes.answers.lane
  answers_lane (Ended f ends) = ends.answers.lane

  -- It began as it was, with no name taken.
  abbrev pub IsSeated : List ℕ → F → Seat F → Type 0
  IsSeated dir was (There child) =
      (child.promise.helper.value ≡ was) × (string_bytes child.promise.dir.value ≡ dir) × (child.promise.lanes.value.asked.taken ≡ []) × (child.promise.lanes.value.answers.put ≡ [])
  IsSeated dir was (Idle f lanes) = (f ≡ was) × (lanes.asked.taken ≡ []) × (lanes.answers.put ≡ [])
  IsSeated dir was (Ended f ends) = FetchedAll dir (g.seen was) (g.seen f) ends.asked.taken ends.answers.put

  -- it is at the other ends of the document's lanes
  pub record IsWorking (dir : List ℕ) (h : Helper F) : Type 0 where
    pub seated : IsSeated dir h.was.value h.seat
    pub asked : asked_lane h.seat ≡ h.ask.lane
    pub answers : answers_lane h.seat ≡ h.answers.lane
    pub folder : string_bytes h.dir ≡ dir

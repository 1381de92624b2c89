-- Where the parser's side is: over which lanes, and how it stands.
use Rattle.std.specs.Prelude.{◌≡◌, []}
use Rattle.atomic_table.specs.Seated.{TableId}
use Rattle.speculation.specs.declared.in_force.InForce as InForce
use Rattle.parser_thread.specs.declared.seat.Seat.{Seat}
use Rattle.parser_thread.specs.declared.seat.Seat.TheVariants.{There, Here, Ended}
use Rattle.parser_thread.specs.Answers.{Worked}
use Rattle.parser_thread.specs.Sides.{Stands}

module _ {E : Type 0} (g : InForce.Ghosts E) where
  -- the lanes of its requests and of its replies
  abbrev pub asked_lane : Seat E g → TableId
  asked_lane (There child) = child.promise.lanes.value.asked.lane
  asked_lane (Here side) = side.asked.lane
  asked_lane (Ended ends) = ends.asked.lane

  abbrev pub answers_lane : Seat E g → TableId
  answers_lane (There child) = child.promise.lanes.value.answers.lane
  answers_lane (Here side) = side.answers.lane
  answers_lane (Ended ends) = ends.answers.lane

  -- in a thread of its own it began with the first request; in this one it goes on or has ended
  abbrev pub IsSeated : Seat E g → Type 0
  IsSeated (There child) = (child.promise.lanes.value.asked.taken ≡ []) × (child.promise.lanes.value.answers.put ≡ [])
  IsSeated (Here side) = Stands g side
  IsSeated (Ended ends) = Worked g ends.asked.taken ends.answers.put

  -- it is at the other ends of these lanes
  abbrev pub IsAt : TableId → TableId → Seat E g → Type 0
  IsAt asked answers seat = (asked_lane seat ≡ asked) × (answers_lane seat ≡ answers) × IsSeated seat

-- A measure of what is to come, by which the events come to an end.
use Rattle.std.specs.Prelude.{◌≡◌, ◌≤◌, ◌<◌, ◌+◌, ◌*◌, ℕ, length, Option, Some, None}
use Rattle.core_definitions.specs.declared.event.Event.{Event}
use Rattle.core_definitions.specs.declared.event.Event.TheVariants.{Send, Pick, Give, Take, Do, Arrive}
use Rattle.core_definitions.specs.Core.{Request, Core}
use Rattle.core_steps.specs.Sides.{left_to_do}

abbrev pub in_hand : Option Request → ℕ
in_hand None = 0
in_hand (Some r) = 1

-- the pieces to be sent, and what is under way: of each the events that are to come
abbrev pub steps_to_come : Core → ℕ
steps_to_come c = 4 * length c.desk.to_send + 3 * length c.requests + 2 * in_hand c.work.hand + length c.replies

-- no more is left to do, and fewer events are to come before that
abbrev pub NearsDo : Core → Core → Type 0
NearsDo c c' = (left_to_do c'.desk ≤ left_to_do c.desk) × (steps_to_come c' < steps_to_come c)

-- A Do leaves less to do, an arrival as much.
abbrev pub IsNearer : Event → Core → Core → Type 0
IsNearer Send c c' = NearsDo c c'
IsNearer Pick c c' = NearsDo c c'
IsNearer Give c c' = NearsDo c c'
IsNearer Take c c' = NearsDo c c'
IsNearer Do c c' = left_to_do c'.desk < left_to_do c.desk
IsNearer (Arrive name) c c' = left_to_do c'.desk ≡ left_to_do c.desk

-- the same of Do alone
abbrev pub LeavesLess : Event → Core → Core → Type 0
LeavesLess Send c c' = Unit {0}
LeavesLess Pick c c' = Unit {0}
LeavesLess Give c c' = Unit {0}
LeavesLess Take c c' = Unit {0}
LeavesLess Do c c' = left_to_do c'.desk < left_to_do c.desk
LeavesLess (Arrive name) c c' = Unit {0}

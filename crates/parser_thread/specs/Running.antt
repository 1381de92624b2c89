-- The parser's side at work, as the document's side sees it.
use Rattle.std.specs.Prelude.{◌≡◌}
use Rattle.speculation.specs.declared.in_force.InForce as InForce
use Rattle.parser_thread.specs.declared.running.ParserThread.{ParserThread}
use Rattle.parser_thread.specs.Seats.{IsAt}

module _ {E G : Type 0} (g : InForce.Ghosts E) where
  -- it is at the other ends of the document's lanes, and works with the entities in force
  abbrev pub IsRunning : ParserThread E G g → Type 0
  IsRunning t = IsAt g t.ask.lane t.replies.lane t.seat × (t.table ≡ g.entities)

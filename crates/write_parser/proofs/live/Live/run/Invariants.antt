use Rattle.write_parser.specs.Steps.{LogsMade, IsGoing, Moves, frames_of, weight}
use Rattle.write_parser.proofs.live.Live.run.Given as goal

abbrev pub invariant-texts : goal.invariant-texts
invariant-texts l = record {
  going : IsGoing l.self;
  moves : Moves l.table l.fn.self (frames_of l.fn.nesting) l.self (frames_of l.nesting);
  logged : LogsMade l.table l.fn.self (frames_of l.fn.nesting) l.self (frames_of l.nesting) l.fn.log l.log;
}

abbrev pub decreases-texts : goal.decreases-texts
decreases-texts l = weight l.self (frames_of l.nesting)

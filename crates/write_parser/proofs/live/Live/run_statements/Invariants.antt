use Rattle.write_parser.specs.Steps.{LogsMade, IsGoing, Moves, frames_of, steps_of}
use Rattle.write_parser.proofs.live.Live.run_statements.Given as goal

abbrev pub invariant-steps : goal.invariant-steps
invariant-steps l = record {
  going : IsGoing l.self;
  moves : Moves l.table l.fn.self (frames_of l.fn.nesting) l.self (frames_of l.nesting);
  logged : LogsMade l.table l.fn.self (frames_of l.fn.nesting) l.self (frames_of l.nesting) l.fn.log l.log;
}

abbrev pub decreases-steps : goal.decreases-steps
decreases-steps l = steps_of (frames_of l.nesting)

use Rattle.std.proofs.Common.{◌≤◌, false, []}
use Rattle.write_parser.specs.Parsing.{IsServed}
use Rattle.write_parser.specs.Writing.{LeadsTo, Stands, left_to_do}
use Rattle.write_parser.specs.Steps.{LogsMade, view_of, weight, StaysAt}
use Rattle.write_parser.proofs.live.Live.feed.Given as goal

abbrev pub invariant-scripts : goal.invariant-scripts
invariant-scripts l = record {
  served : IsServed l.self.machine l.self.doc;
  leads : LeadsTo l.table (Stands (view_of l.fn.self false)) (view_of l.self false);
  stays : StaysAt l.fn.self.halted l.fn.self.pending l.fn.self l.self;
  less : left_to_do (view_of l.self false) ≤ left_to_do (view_of l.fn.self false);
  logged : LogsMade l.table l.fn.self [] l.self [] l.fn.log l.log;
}

abbrev pub decreases-scripts : goal.decreases-scripts
decreases-scripts l = weight l.self []

use Rattle.std.proofs.Common.{◌≡◌, ◌≤◌, ◌+◌, length, IsTrue}
use Rattle.std.specs.String.{string_bytes}
use Rattle.page_turns.specs.Along.{Goes}
use Rattle.page_turns.specs.Cuts.{CutAt}
use Rattle.page_turns.specs.Messages.{TakenSoFar, TellsOn}
use Rattle.page_turns.specs.Scripts.{folder_with}
use Rattle.page_turns.specs.Turns.{Holds, turns_to_come}
use Rattle.page_turns.specs.Watched.{Follows}
use Rattle.page_turns.proofs.page.take_turns.Given as goal

abbrev pub invariant-turns : goal.invariant-turns
invariant-turns g l =
    let sink = g.K.Sink in
    let now = g.F.Outside.seen in
    let other = g.L.Counterpart in
    record {
      holds : Holds l.job.table.now l.job.ahead (folder_with (string_bytes l.job.dir) (g.P.Prefetch.given l.early)) (now l.fn.files) (now l.files) (sink.taken l.fn.out) (sink.taken l.out) l.reader (other.load l.lanes) l.doc;
      cuts : CutAt (length l.fn.room) (now l.fn.files) (now l.files) l.reader l.doc.journal.pieces l.doc.journal.ending;
      room : length l.room ≡ length l.fn.room;
      goes : Goes (g.P.Prefetch.given l.early) (other.put l.lanes) l.doc;
      taken : TakenSoFar (other.taken l.lanes) l.doc.journal.events;
      tells : TellsOn g.E.InForce.entities (other.put l.fn.lanes) (other.put l.lanes) (other.taken l.fn.lanes) (other.taken l.lanes) (other.ordered l.fn.lanes) (other.ordered l.lanes);
      crew : g.P.Prefetch.crew l.early ≡ g.P.Prefetch.crew l.fn.early;
      faults : sink.faults l.fn.out ≤ sink.faults l.out;
      watches : g.W.Watch.watches l.watch ≡ g.W.Watch.watches l.fn.watch;
      count : g.W.Watch.count l.watch ≡ g.W.Watch.count l.fn.watch;
      follows : IsTrue (g.W.Watch.watches l.fn.watch) → Follows l.doc (g.W.Watch.doc l.watch) (g.W.Watch.shown l.watch);
    }

abbrev pub decreases-turns : goal.decreases-turns
decreases-turns g l = turns_to_come l.reader (g.L.Counterpart.load l.lanes) l.doc + g.P.Prefetch.to_come l.early

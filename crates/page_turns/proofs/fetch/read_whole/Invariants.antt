use Rattle.std.proofs.Common.{◌≤◌, ◌+◌, ◌-◌, [], ◌∷◌, vec_len}
use Rattle.outside.specs.Outside.{Begun, KeepsOthers}
use Rattle.page_turns.specs.Given.{NoFault, file_at, AreRead}
use Rattle.page_turns.proofs.CallLemmas.{IsReadOn}
use Rattle.page_turns.proofs.fetch.read_whole.Given as goal

abbrev pub invariant-reads : goal.invariant-reads
invariant-reads g l =
    let now = g.F.Outside.seen in
    record {
      bound : vec_len l.bytes ≤ l.limit + 1;
      others : KeepsOthers l.port (now l.fn.files) (now l.files);
      begun : Begun ((now l.fn.files).begun l.port) ((now l.files).begun l.port) (l.path ∷ []);
      no_fault : NoFault l.port (now l.fn.files) (now l.files);
      calls : IsReadOn l.port l.path (now l.fn.files) (now l.files) (vec_len l.bytes);
      read : AreRead (file_at (now l.fn.files) l.path) ((now l.files).left l.port) l.bytes.items;
    }

abbrev pub decreases-reads : goal.decreases-reads
decreases-reads g l = l.limit + 1 - vec_len l.bytes

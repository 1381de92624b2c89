use Rattle.std.proofs.Common.{◌≡◌, false, [], take}
use Rattle.outside.specs.Outside.{KeepsOthers}
use Rattle.outside.specs.declared.traits.Port.TheVariants.{Script}
use Rattle.page_batch.specs.Rounds.{NoneAwaits, FetchesMore}
use Rattle.page_batch.proofs.rounds.fetch_awaited.Given as goal

abbrev pub invariant-loop-slot : goal.invariant-loop-slot
invariant-loop-slot g l =
    let now = g.F.Outside.seen in
    record {
      fetched : FetchesMore [] l.dir (now l.initial.files) (now l.files) l.initial.table l.table;
      none : l.waits ≡ false → NoneAwaits (take l.slot-index l.slots);
      others : KeepsOthers Script (now l.initial.files) (now l.files);
    }

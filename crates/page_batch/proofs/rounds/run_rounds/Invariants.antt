use Rattle.std.proofs.Common.{[]}
use Rattle.outside.specs.Outside.{KeepsOthers}
use Rattle.outside.specs.declared.traits.Port.TheVariants.{Script}
use Rattle.page_batch.specs.Rounds.{RunsAll, FetchesMore}
use Rattle.page_batch.proofs.rounds.run_rounds.Given as goal

abbrev pub invariant-loop : goal.invariant-loop
invariant-loop g l =
    let now = g.F.Outside.seen in
    record {
      ran : RunsAll l.initial.table l.table l.initial.slots l.slots;
      fetched : FetchesMore [] l.dir (now l.initial.files) (now l.files) l.initial.table l.table;
      others : KeepsOthers Script (now l.initial.files) (now l.files);
    }

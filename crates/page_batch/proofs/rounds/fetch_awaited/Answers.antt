use Rattle.std.proofs.Common.{[], sym, arith, rules}
use Rattle.std.proofs.lemmas.Bool.{OnFalse_at}
use Rattle.outside.proofs.KeepsLemmas.{keeps-same, keeps-then}
use Rattle.outside.specs.declared.traits.Port.TheVariants.{Script}
use Rattle.page_turns.proofs.LineLemmas.{on_err}
use Rattle.page_batch.proofs.FetchLemmas.{more-none}
use Rattle.page_batch.proofs.RoundLemmas.{on-false, none-more, none-all, fetched-on, spent-on}
use Rattle.page_batch.proofs.rounds.fetch_awaited.Goals as goal

pub loop-slot-init : goal.loop-slot-init
loop-slot-init g c =
    let now = g.F.Outside.seen c.args.files.now in record { fetched = more-none [] c.args.dir.now now c.args.table.now; none = λ is. tt; others = keeps-same Script now }

pub loop-slot-preserved : goal.loop-slot-preserved
loop-slot-preserved g c =
    let at = g.F.Outside.seen in
    let i = c.loop-slot.invariant in
    record {
      fetched = fetched-on c.args.dir.now (at c.args.files.now) (at c.loop-slot.files) (at c.fetch_for.new.files) c.args.table.now c.loop-slot.table c.fetch_for.new.table i.others c.in_ok-here.ensures.fetches.others i.fetched [] c.in_ok-here.ensures.fetches.fetched;
      none = λ q. let both = OnFalse_at q c.in_ok-here.ensures.none in none-more c.args.slots.now c.loop-slot.slot-index c.slot-item.result c.loop-slot-test.true c.slot-item.is (i.none both.0) both.1;
      others = keeps-then Script (at c.args.files.now) (at c.loop-slot.files) (at c.fetch_for.new.files) i.others c.in_ok-here.ensures.fetches.others;
    }

pub returns-in_err-here-clause-fetches : goal.returns-in_err-here-clause-fetches
returns-in_err-here-clause-fetches g c =
    let at = g.F.Outside.seen in
    let i = c.loop-slot.invariant in
    let here = c.in_err-here.ensures.fetches in
    record {
      fetched = search rules;
      spent = on_err _ _ (spent-on c.args.dir.now (at c.args.files.now) (at c.loop-slot.files) (at c.fetch_for.new.files) c.args.table.now c.loop-slot.table c.fetch_for.new.table i.others here.others i.fetched here.spent);
      others = keeps-then Script (at c.args.files.now) (at c.loop-slot.files) (at c.fetch_for.new.files) i.others here.others;
    }

pub returns-clause-none : goal.returns-clause-none
returns-clause-none g c = on-false c.loop-slot.waits _ (λ q. none-all c.args.slots.now c.loop-slot.slot-index c.loop-slot-test.false (c.loop-slot.invariant.none q))

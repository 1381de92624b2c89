use Rattle.std.proofs.Common.{[], rules}
use Rattle.std.proofs.lemmas.Bool.{OnFalse_at}
use Rattle.outside.proofs.KeepsLemmas.{keeps-same, keeps-then}
use Rattle.outside.specs.declared.traits.Port.TheVariants.{Script}
use Rattle.page_turns.proofs.LineLemmas.{on_err}
use Rattle.page_batch.proofs.FetchLemmas.{more-none}
use Rattle.page_batch.proofs.SlotLemmas.{runs-none}
use Rattle.page_batch.proofs.RoundLemmas.{ran-on, fetched-on, spent-on}
use Rattle.page_batch.proofs.rounds.run_rounds.Goals as goal

pub loop-init : goal.loop-init
loop-init g c =
    let now = g.F.Outside.seen c.args.files.now in record { ran = runs-none c.args.table.now c.args.slots.now; fetched = more-none [] c.args.dir.now now c.args.table.now; others = keeps-same Script now }

pub loop-preserved : goal.loop-preserved
loop-preserved g c =
    let at = g.F.Outside.seen in
    let i = c.loop.invariant in
    record {
      ran = ran-on [] c.args.dir.now (at c.loop.files) (at c.fetch_awaited.new.files) c.args.table.now c.loop.table c.fetch_awaited.new.table c.args.slots.now c.loop.slots c.run_round.new.slots i.ran c.run_round.ensures c.in_ok-fetch_awaited.ensures.fetches.fetched;
      fetched = fetched-on c.args.dir.now (at c.args.files.now) (at c.loop.files) (at c.fetch_awaited.new.files) c.args.table.now c.loop.table c.fetch_awaited.new.table i.others c.in_ok-fetch_awaited.ensures.fetches.others i.fetched [] c.in_ok-fetch_awaited.ensures.fetches.fetched;
      others = keeps-then Script (at c.args.files.now) (at c.loop.files) (at c.fetch_awaited.new.files) i.others c.in_ok-fetch_awaited.ensures.fetches.others;
    }

pub returns-then-not-branch-clause-ran : goal.returns-then-not-branch-clause-ran
returns-then-not-branch-clause-ran g c =
    let at = g.F.Outside.seen in
    ran-on [] c.args.dir.now (at c.loop.files) (at c.fetch_awaited.new.files) c.args.table.now c.loop.table c.fetch_awaited.new.table c.args.slots.now c.loop.slots c.run_round.new.slots c.loop.invariant.ran c.run_round.ensures c.in_ok-fetch_awaited.ensures.fetches.fetched

pub returns-then-not-branch-clause-none : goal.returns-then-not-branch-clause-none
returns-then-not-branch-clause-none g c = OnFalse_at c.if-not-branch.true c.in_ok-fetch_awaited.ensures.none

pub returns-then-not-branch-clause-fetches : goal.returns-then-not-branch-clause-fetches
returns-then-not-branch-clause-fetches g c =
    let at = g.F.Outside.seen in
    let i = c.loop.invariant in
    let more = c.in_ok-fetch_awaited.ensures.fetches in
    record {
      fetched = fetched-on c.args.dir.now (at c.args.files.now) (at c.loop.files) (at c.fetch_awaited.new.files) c.args.table.now c.loop.table c.fetch_awaited.new.table i.others more.others i.fetched [] more.fetched;
      spent = search rules;
      others = keeps-then Script (at c.args.files.now) (at c.loop.files) (at c.fetch_awaited.new.files) i.others more.others;
    }

pub returns-in_err-fetch_awaited-clause-fetches : goal.returns-in_err-fetch_awaited-clause-fetches
returns-in_err-fetch_awaited-clause-fetches g c =
    let at = g.F.Outside.seen in
    let i = c.loop.invariant in
    let more = c.in_err-fetch_awaited.ensures.fetches in
    record {
      fetched = search rules;
      spent = on_err _ _ (spent-on c.args.dir.now (at c.args.files.now) (at c.loop.files) (at c.fetch_awaited.new.files) c.args.table.now c.loop.table c.fetch_awaited.new.table i.others more.others i.fetched more.spent);
      others = keeps-then Script (at c.args.files.now) (at c.loop.files) (at c.fetch_awaited.new.files) i.others more.others;
    }

pub returns-clause-fetches : goal.returns-clause-fetches
returns-clause-fetches g c = record { fetched = search rules; spent = ([], c.loop.invariant.fetched); others = c.loop.invariant.others }

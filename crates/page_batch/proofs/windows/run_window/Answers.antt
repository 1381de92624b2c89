use Rattle.std.proofs.Common.{List, map, length, sym, ap, subst, arith, rules}
use Rattle.std.specs.String.{string_bytes}
use Rattle.std.specs.List.{AllByRecursion}
use Rattle.page_turns.proofs.LineLemmas.{on_err}
use Rattle.page_batch.specs.Slots.{Slotted}
use Rattle.page_batch.specs.Windows.{files_in, IsNew, ReadsFront}
use Rattle.page_batch.proofs.RunLemmas.{stops-unread, window-fits, window-some}
use Rattle.page_batch.proofs.windows.run_window.Goals as goal

pub run_slots-ran-requires-clause-fits : goal.run_slots-ran-requires-clause-fits
run_slots-ran-requires-clause-fits g c = let same = ap length c.as_mut_slice.ensures.value in omega (arith, same, c.in_ok-slots.ensures.fits)

pub returns-in_err-slots-clause-ends : goal.returns-in_err-slots-clause-ends
returns-in_err-slots-clause-ends g c =
    let at = g.F.Outside.seen in
    record {
      ran = search rules;
      stopped = on_err _ _ (stops-unread g.E.InForce.entities c.args.dir.now (map string_bytes c.args.paths.now) (at c.args.files.now) (at c.read_window.new.files) c.args.table.now (g.K.Sink.taken c.args.out.now) c.in_err-slots.ensures.spent);
    }

pub returns-clause-fits : goal.returns-clause-fits
returns-clause-fits g c =
    let same = ap length c.as_mut_slice.ensures.value in window-fits c.run_slots-ran.result (length c.as_mut_slice.result.now) (length c.args.paths.now) (omega (arith, same, c.in_ok-slots.ensures.fits)) c.run_slots-ran.ensures.count

pub returns-clause-some : goal.returns-clause-some
returns-clause-some g c =
    let same = ap length c.as_mut_slice.ensures.value in
    window-some c.run_slots-ran.result (length c.as_mut_slice.result.now) (length c.args.paths.now) (λ filled. let there = c.in_ok-slots.ensures.some filled in omega (arith, same, there)) c.run_slots-ran.ensures.count

pub returns-clause-ends : goal.returns-clause-ends
returns-clause-ends g c =
    let at = g.F.Outside.seen in
    let same = sym c.as_mut_slice.ensures.value in
    c.run_slots-ran.ensures.ends (at c.args.files.now)
    (subst (λ (l : List Slotted). ReadsFront (map string_bytes c.args.paths.now) (files_in l) (at c.args.files.now) (at c.read_window.new.files)) same c.in_ok-slots.ensures.read)
    (subst (AllByRecursion IsNew) same c.in_ok-slots.ensures.unused)

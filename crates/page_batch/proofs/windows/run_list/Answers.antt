use Rattle.std.proofs.Common.{◌≡◌, ◌≤◌, ◌<◌, ◌-◌, ◌++◌, [], List, ℕ, map, length, take, drop, refl, sym, ap, subst, ◌∙◌, arith}
use Rattle.std.specs.String.{string_bytes}
use Rattle.std.proofs.lemmas.List.{length-map, length-drop, drop-map, take_rest}
use Rattle.std.proofs.lemmas.Bool.{eqb-true, eqb-false}
use Rattle.page_turns.specs.Scripts.{Met}
use Rattle.page_turns.proofs.LineLemmas.{on_err}
use Rattle.page_batch.specs.Windows.{RunsWindow}
use Rattle.page_batch.proofs.WindowLemmas.{window-none, window-then}
use Rattle.page_batch.proofs.FrontLemmas.{some-there}
use Rattle.page_batch.proofs.ListLemmas.{list-more, list-cut, list-all, list-unfinished}
use Rattle.page_batch.proofs.windows.run_list.Goals as goal

pub windows-init : goal.windows-init
windows-init g c =
    let now = g.F.Outside.seen c.args.files.now in
    let t = g.K.Sink.taken c.args.out.now in
    record {
      done = [];
      is = refl;
      ran = subst (λ (m : Met). RunsWindow g.E.InForce.entities c.args.dir.now [] now now [] m t t) (sym c.new-table.ensures) (window-none g.E.InForce.entities c.args.dir.now now [] t);
      faults = omega arith;
    }

pub windows-preserved : goal.windows-preserved
windows-preserved g c =
    let at = g.F.Outside.seen in
    let taken = g.K.Sink.taken in
    let i = c.windows.invariant in
    let n = c.in_ok-count.count in
    let rest = map string_bytes c.windows.rest.now in
    let behind = take (length c.windows.rest.now - n) (drop n c.windows.rest.now) in
    let next : map string_bytes behind ≡ drop n rest = ap (map string_bytes) (take_rest c.windows.rest.now n) ∙ sym (drop-map string_bytes n c.windows.rest.now) in
    record {
      done = i.done ++ take n rest;
      is = list-more (map string_bytes c.args.paths.now) i.done rest (map string_bytes behind) n i.is next;
      ran = window-then g.E.InForce.entities c.args.dir.now i.done (take n rest) (at c.args.files.now) (at c.windows.files) (at c.run_window.new.files) [] c.windows.table c.run_window.new.table (taken c.args.out.now) (taken c.windows.out) (taken c.run_window.new.out) i.ran
          c.in_ok-count.ensures.ends.ran;
      faults = omega (arith, i.faults, c.in_ok-count.ensures.faults.never_less);
    }

pub windows-smaller : goal.windows-smaller
windows-smaller g c =
    let filled : 0 < length c.windows.rest.now = some-there _ (eqb-false (length c.windows.rest.now) 0 (sym c.is_empty.ensures ∙ c.windows-test.true)) in
    let more = c.in_ok-count.ensures.some filled in
    let cut = length-drop c.in_ok-count.count c.windows.rest.now in
    let same = ap length (take_rest c.windows.rest.now c.in_ok-count.count) in
    omega (arith, filled, more, cut, same)

pub returns-in_err-count-clause-in_part : goal.returns-in_err-count-clause-in_part
returns-in_err-count-clause-in_part g c =
    let at = g.F.Outside.seen in
    let taken = g.K.Sink.taken in
    let i = c.windows.invariant in
    on_err _ _ (list-cut g.E.InForce.entities c.args.entities.now c.requires c.args.dir.now (map string_bytes c.args.paths.now) i.done (map string_bytes c.windows.rest.now) i.is (at c.args.files.now) (at c.windows.files) c.windows.table (taken c.args.out.now)
    (taken c.windows.out) i.ran (at c.run_window.new.files) c.run_window.new.table (taken c.run_window.new.out) c.in_err-count.ensures.ends.stopped)

pub returns-in_err-finish-clause-in_part : goal.returns-in_err-finish-clause-in_part
returns-in_err-finish-clause-in_part g c =
    let at = g.F.Outside.seen in
    let taken = g.K.Sink.taken in
    let i = c.windows.invariant in
    let none : length (map string_bytes c.windows.rest.now) ≡ 0 = length-map c.windows.rest.now string_bytes ∙ eqb-true (length c.windows.rest.now) 0 (sym c.is_empty.ensures ∙ c.windows-test.false) in
    on_err _ _ (list-unfinished g.E.InForce.entities c.args.entities.now c.requires c.args.dir.now (map string_bytes c.args.paths.now) i.done (map string_bytes c.windows.rest.now) i.is (at c.args.files.now) (at c.windows.files) c.windows.table (taken c.args.out.now)
    (taken c.windows.out) i.ran none (taken c.finish.new.self) c.finish.ensures.taken)

pub returns-clause-all : goal.returns-clause-all
returns-clause-all g c =
    let at = g.F.Outside.seen in
    let taken = g.K.Sink.taken in
    let i = c.windows.invariant in
    let none : length (map string_bytes c.windows.rest.now) ≡ 0 = length-map c.windows.rest.now string_bytes ∙ eqb-true (length c.windows.rest.now) 0 (sym c.is_empty.ensures ∙ c.windows-test.false) in
    list-all g.E.InForce.entities c.args.entities.now c.requires c.args.dir.now (map string_bytes c.args.paths.now) i.done (map string_bytes c.windows.rest.now) i.is (at c.args.files.now) (at c.windows.files) c.windows.table (taken c.args.out.now) (taken c.windows.out)
    i.ran none (taken c.finish.new.self) c.finish.ensures.taken

use Rattle.std.proofs.Common.{map, length, take, refl, sym, ◌∙◌, rules}
use Rattle.std.specs.String.{string_bytes}
use Rattle.std.proofs.lemmas.List.{length-take-le, take-map}
use Rattle.page_turns.proofs.LineLemmas.{on_err}
use Rattle.page_batch.proofs.SlotLemmas.{runs-count}
use Rattle.page_batch.proofs.RunLemmas.{stops-running, ran-counted, stops-counted}
use Rattle.page_batch.proofs.windows.run_slots.Goals as goal

pub write_window-requires : goal.write_window-requires
write_window-requires g c =
    length-take-le (length c.args.slots.now) c.args.paths.now c.requires.fits ∙ sym (runs-count c.args.table.now c.run_rounds.new.table c.args.slots.now c.run_rounds.new.slots c.in_ok-run_rounds.ensures.ran)

pub returns-in_err-run_rounds-clause-ends : goal.returns-in_err-run_rounds-clause-ends
returns-in_err-run_rounds-clause-ends g c = λ before read fresh.
    let at = g.F.Outside.seen in
    let fetches = c.in_err-run_rounds.ensures.fetches in
    record {
      ran = search rules;
      stopped = on_err _ _ (stops-running g.E.InForce.entities c.args.dir.now (map string_bytes c.args.paths.now) c.args.slots.now c.run_rounds.new.slots c.args.table.now c.run_rounds.new.table before (at c.args.files.now) (at c.run_rounds.new.files)
          read fresh fetches.others (g.K.Sink.taken c.args.out.now) fetches.spent);
    }

pub returns-in_err-write_window-clause-ends : goal.returns-in_err-write_window-clause-ends
returns-in_err-write_window-clause-ends g c = λ before read fresh.
    let at = g.F.Outside.seen in
    let taken = g.K.Sink.taken in
    let n = length c.args.slots.now in
    let fetches = c.in_ok-run_rounds.ensures.fetches in
    record {
      ran = search rules;
      stopped = on_err _ _ (stops-counted g.E.InForce.entities c.args.dir.now (map string_bytes c.args.paths.now) c.args.slots.now c.run_rounds.new.slots c.args.table.now c.run_rounds.new.table before (at c.args.files.now) (at c.run_rounds.new.files)
          read fresh fetches.others n refl (map string_bytes (take n c.args.paths.now)) (sym (take-map string_bytes n c.args.paths.now)) c.run_rounds.new.slots refl
          (taken c.args.out.now) (taken c.write_window.new.out) c.in_ok-run_rounds.ensures.ran fetches.fetched c.in_err-write_window.ensures.front);
    }

pub returns-clause-ends : goal.returns-clause-ends
returns-clause-ends g c = λ before read fresh.
    let at = g.F.Outside.seen in
    let taken = g.K.Sink.taken in
    let n = length c.args.slots.now in
    let fetches = c.in_ok-run_rounds.ensures.fetches in
    record {
      ran = ran-counted g.E.InForce.entities c.args.dir.now (map string_bytes c.args.paths.now) c.args.slots.now c.run_rounds.new.slots c.args.table.now c.run_rounds.new.table before (at c.args.files.now) (at c.run_rounds.new.files)
          read fresh fetches.others n refl (map string_bytes (take n c.args.paths.now)) (sym (take-map string_bytes n c.args.paths.now)) c.run_rounds.new.slots refl
          (taken c.args.out.now) (taken c.write_window.new.out) c.in_ok-run_rounds.ensures.ran fetches.fetched c.in_ok-write_window.ensures.written;
      stopped = search rules;
    }

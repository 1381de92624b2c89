use Rattle.std.proofs.Common.{◌≡◌, ◌≤◌, ◌<◌, ◌++◌, List, ℕ, map, length, take, get_or, sym, ap, subst, ◌∙◌, arith}
use Rattle.std.specs.String.{string_bytes}
use Rattle.std.proofs.lemmas.List.{length-map, get_or-map}
use Rattle.page_turns.specs.Taken.{Took, TookFront}
use Rattle.page_turns.proofs.LineLemmas.{on_err}
use Rattle.page_batch.specs.Parts.{page_line, status_line}
use Rattle.page_batch.specs.Windows.{written_of}
use Rattle.page_batch.proofs.FrontLemmas.{writes-none, writes-at, cuts-at, stops-at, writes-whole}
use Rattle.page_batch.proofs.windows.write_window.Goals as goal

pub loop-at-init : goal.loop-at-init
loop-at-init g c = record { written = writes-none g.E.InForce.entities (g.K.Sink.taken c.args.out.now); faults = omega arith }

pub loop-at-preserved : goal.loop-at-preserved
loop-at-preserved g c =
    let taken = g.K.Sink.taken in
    let i = c.loop-at.invariant in
    let path = c.index-paths-at.result in
    let part = c.in-Some.part.now in
    let there : c.loop-at.at < length c.args.slots.now = omega (arith, c.loop-at-test.true) in
    let len : length (map string_bytes c.args.paths.now) ≡ length c.args.slots.now = length-map c.args.paths.now string_bytes ∙ c.requires in
    let within : c.loop-at.at < length c.args.paths.now = omega (arith, there, c.requires) in
    let here : string_bytes path ≡ get_or (map string_bytes c.args.paths.now) c.loop-at.at (string_bytes path) =
    sym (get_or-map string_bytes c.args.paths.now c.loop-at.at path (string_bytes path) within ∙ ap string_bytes (sym c.index-paths-at.is)) in
    let took : Took (taken c.loop-at.out) (taken c.write_part.new.out) (written_of (string_bytes path) part) =
    subst (λ (x : List ℕ). Took (taken c.loop-at.out) (taken c.write_part.new.out) (page_line (string_bytes path) ++ x ++ status_line part.number)) c.as_slice.ensures.value
    (subst (λ (x : List ℕ). Took (taken c.loop-at.out) (taken c.write_part.new.out) (page_line x ++ c.as_slice.result.now ++ status_line part.number)) c.as_str.ensures.value c.in_ok-write_part.ensures.took) in
    record {
      written = writes-at g.E.InForce.entities (map string_bytes c.args.paths.now) c.args.slots.now c.loop-at.at len (taken c.args.out.now) (taken c.loop-at.out) i.written (string_bytes path) c.index-slots-at.result part there here c.index-slots-at.is c.in-Some.ensures
          (taken c.write_part.new.out) took;
      faults = omega (arith, i.faults, c.in_ok-write_part.ensures.faults.never_less);
    }

pub returns-in_default-clause-front : goal.returns-in_default-clause-front
returns-in_default-clause-front g c =
    let i = c.loop-at.invariant in
    let there : c.loop-at.at < length c.args.slots.now = omega (arith, c.loop-at-test.true) in
    stops-at g.E.InForce.entities (map string_bytes c.args.paths.now) c.args.slots.now c.loop-at.at (length-map c.args.paths.now string_bytes ∙ c.requires) (g.K.Sink.taken c.args.out.now) (g.K.Sink.taken c.loop-at.out) i.written there

pub returns-in_err-write_part-clause-front : goal.returns-in_err-write_part-clause-front
returns-in_err-write_part-clause-front g c =
    let taken = g.K.Sink.taken in
    let i = c.loop-at.invariant in
    let path = c.index-paths-at.result in
    let part = c.in-Some.part.now in
    let there : c.loop-at.at < length c.args.slots.now = omega (arith, c.loop-at-test.true) in
    let len : length (map string_bytes c.args.paths.now) ≡ length c.args.slots.now = length-map c.args.paths.now string_bytes ∙ c.requires in
    let within : c.loop-at.at < length c.args.paths.now = omega (arith, there, c.requires) in
    let here : string_bytes path ≡ get_or (map string_bytes c.args.paths.now) c.loop-at.at (string_bytes path) =
    sym (get_or-map string_bytes c.args.paths.now c.loop-at.at path (string_bytes path) within ∙ ap string_bytes (sym c.index-paths-at.is)) in
    let front : TookFront (taken c.loop-at.out) (taken c.write_part.new.out) (written_of (string_bytes path) part) =
    subst (λ (x : List ℕ). TookFront (taken c.loop-at.out) (taken c.write_part.new.out) (page_line (string_bytes path) ++ x ++ status_line part.number)) c.as_slice.ensures.value
    (subst (λ (x : List ℕ). TookFront (taken c.loop-at.out) (taken c.write_part.new.out) (page_line x ++ c.as_slice.result.now ++ status_line part.number)) c.as_str.ensures.value c.in_err-write_part.ensures.front) in
    on_err _ _ (cuts-at g.E.InForce.entities (map string_bytes c.args.paths.now) c.args.slots.now c.loop-at.at len (taken c.args.out.now) (taken c.loop-at.out) i.written (string_bytes path) c.index-slots-at.result part there here c.index-slots-at.is c.in-Some.ensures
    (taken c.write_part.new.out) front)

pub returns-clause-written : goal.returns-clause-written
returns-clause-written g c =
    let i = c.loop-at.invariant in
    writes-whole g.E.InForce.entities (map string_bytes c.args.paths.now) c.args.slots.now c.loop-at.at (g.K.Sink.taken c.args.out.now) (g.K.Sink.taken c.loop-at.out) (length-map c.args.paths.now string_bytes ∙ c.requires) (omega (arith, c.loop-at-test.false)) i.written

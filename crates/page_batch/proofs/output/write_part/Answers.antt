use Rattle.std.proofs.Common.{subst, ◌∙◌}
use Rattle.page_turns.specs.Taken.{Took, TookFront}
use Rattle.page_turns.proofs.LineLemmas.{on_err}
use Rattle.page_batch.specs.Parts.{page_line, status_line}
use Rattle.page_batch.proofs.OutputLemmas.{took-three, front-third, front-second, front-first}
use Rattle.page_batch.proofs.output.write_part.Goals as goal

pub returns-clause-took : goal.returns-clause-took
returns-clause-took g c =
    let taken = g.K.Sink.taken in
    took-three (taken c.args.out.now) (taken c.write_all.new.out) (taken c.write_all-2.new.out) (taken c.write_all-3.new.out) (page_line c.args.path.now) c.args.text.now (status_line c.args.number)
    (subst (Took (taken c.args.out.now) (taken c.write_all.new.out)) (c.deref.ensures.value ∙ c.in_ok-head.ensures) c.in_ok-write_all.ensures.ok) c.in_ok-write_all-2.ensures.ok
    (subst (Took (taken c.write_all-2.new.out) (taken c.write_all-3.new.out)) (c.deref-2.ensures.value ∙ c.in_ok-foot.ensures) c.in_ok-write_all-3.ensures.ok)

pub returns-in_err-write_all-clause-front : goal.returns-in_err-write_all-clause-front
returns-in_err-write_all-clause-front g c =
    let taken = g.K.Sink.taken in
    on_err _ _ (front-first (taken c.args.out.now) (taken c.write_all.new.out) (page_line c.args.path.now) c.args.text.now (status_line c.args.number)
    (subst (TookFront (taken c.args.out.now) (taken c.write_all.new.out)) (c.deref.ensures.value ∙ c.in_ok-head.ensures) c.in_err-write_all.ensures.err))

pub returns-in_err-write_all-2-clause-front : goal.returns-in_err-write_all-2-clause-front
returns-in_err-write_all-2-clause-front g c =
    let taken = g.K.Sink.taken in
    on_err _ _ (front-second (taken c.args.out.now) (taken c.write_all.new.out) (taken c.write_all-2.new.out) (page_line c.args.path.now) c.args.text.now (status_line c.args.number)
    (subst (Took (taken c.args.out.now) (taken c.write_all.new.out)) (c.deref.ensures.value ∙ c.in_ok-head.ensures) c.in_ok-write_all.ensures.ok) c.in_err-write_all-2.ensures.err)

pub returns-in_err-write_all-3-clause-front : goal.returns-in_err-write_all-3-clause-front
returns-in_err-write_all-3-clause-front g c =
    let taken = g.K.Sink.taken in
    on_err _ _ (front-third (taken c.args.out.now) (taken c.write_all.new.out) (taken c.write_all-2.new.out) (taken c.write_all-3.new.out) (page_line c.args.path.now) c.args.text.now (status_line c.args.number)
    (subst (Took (taken c.args.out.now) (taken c.write_all.new.out)) (c.deref.ensures.value ∙ c.in_ok-head.ensures) c.in_ok-write_all.ensures.ok) c.in_ok-write_all-2.ensures.ok
    (subst (TookFront (taken c.write_all-2.new.out) (taken c.write_all-3.new.out)) (c.deref-2.ensures.value ∙ c.in_ok-foot.ensures) c.in_err-write_all-3.ensures.err))

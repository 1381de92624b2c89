use Rattle.std.proofs.Common.{◌∙◌, ap, sym, subst, flat_map}
use Rattle.core_steps.specs.Sides.{Shown}
use Rattle.core_definitions.specs.Desk.{Desk}
use Rattle.core_steps.specs.Changing.{LogsDo}
use Rattle.serial.specs.Output.{line_text}
use Rattle.core_definitions.specs.declared.event.Event.TheVariants as event
use Rattle.page_turns.specs.Taken.{Took, TookFront}
use Rattle.page_turns.proofs.LineLemmas.{on_err, on_ok, ok_weaker, err_weaker}
use Rattle.page_turns.proofs.StepLemmas.{stays_spent, stays_journaled, ran_on, ran_cut, stays_ran}
use Rattle.page_turns.proofs.AlongLemmas.{did_none, did_same, did_given}
use Rattle.page_turns.proofs.page.do_and_write.Goals as goal

pub returns-clause-ok : goal.returns-clause-ok
returns-clause-ok g c =
    let t = g.K.Sink.taken c.args.out.now in
    let t' = g.K.Sink.taken c.write_lines.new.out in
    ok_weaker _ _ _ (λ took. ran_on t t' c.args.doc.now c.act.new.self c.take_lines.new.self c.in_ok-lines.lines c.in_ok-act.ensures.others c.in_ok-lines.ensures.lines c.in_ok-lines.ensures.taken c.in_ok-act.ensures.does c.in_ok-act.ensures.less
    (subst (λ ls. Took t t' (flat_map line_text ls)) c.as_slice.ensures took)) c.write_lines.ensures.took

pub returns-clause-err : goal.returns-clause-err
returns-clause-err g c =
    let t = g.K.Sink.taken c.args.out.now in
    let t' = g.K.Sink.taken c.write_lines.new.out in
    err_weaker _ _ _ (λ took. ran_cut t t' c.args.doc.now c.act.new.self c.take_lines.new.self c.in_ok-lines.lines c.in_ok-act.ensures.others c.in_ok-lines.ensures.lines c.in_ok-lines.ensures.taken
    (subst (λ ls. TookFront t t' (flat_map line_text ls)) c.as_slice.ensures took)) c.write_lines.ensures.front

pub returns-in_err-act-clause-stays : goal.returns-in_err-act-clause-stays
returns-in_err-act-clause-stays g c = on_err _ _ (stays_spent c.args.doc.now c.act.new.self c.in_err-act.ensures.err)

pub returns-in_err-lines-clause-stays : goal.returns-in_err-lines-clause-stays
returns-in_err-lines-clause-stays g c = on_err _ _ (stays_journaled event.Do c.act.new.self.desk c.args.doc.now c.take_lines.new.self (c.in_err-lines.ensures.err ∙ c.in_ok-act.ensures.others))

pub returns-clause-stays : goal.returns-clause-stays
returns-clause-stays g c =
    let t = g.K.Sink.taken c.args.out.now in
    let t' = g.K.Sink.taken c.write_lines.new.out in
    on_err _ _ (stays_ran t t' c.args.doc.now c.act.new.self c.take_lines.new.self c.in_ok-lines.lines c.in_ok-act.ensures.others c.in_ok-lines.ensures.lines c.in_ok-lines.ensures.taken)

pub returns-in_err-act-clause-did : goal.returns-in_err-act-clause-did
returns-in_err-act-clause-did g c = did_none _ _ c.in_err-act.ensures.err

pub returns-in_err-lines-clause-did : goal.returns-in_err-lines-clause-did
returns-in_err-lines-clause-did g c = did_same _ _ _ c.in_ok-act.ensures.does c.in_ok-act.ensures.others c.in_err-lines.ensures.err

pub returns-clause-did : goal.returns-clause-did
returns-clause-did g c = did_given _ c.act.new.self _ _ c.in_ok-act.ensures.does c.in_ok-act.ensures.others c.in_ok-lines.ensures.taken

pub returns-clause-logged : goal.returns-clause-logged
returns-clause-logged g c =
    let old = c.args.doc.now in
    on_ok _ _ (subst (λ (d : Desk). LogsDo old.entities old.journal.fetches old.desk d c.args.log.now c.act.new.log) (sym (ap (λ (z : Shown). z.desk) c.in_ok-lines.ensures.taken))
    c.in_ok-act.ensures.logged)

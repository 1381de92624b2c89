use Rattle.std.proofs.Common.{subst}
use Rattle.standard.specs.Entities.{longest}
use Rattle.entity_table.specs.Held.{Holds}
use Rattle.tok_refs.proofs.NameRow.{step-at_end, step-at_other, none_goes_on, IfOk-row}
use Rattle.tok_refs.proofs.named.walked_row.Goals as goal

pub returns-in-InputEnd : goal.returns-in-InputEnd
returns-in-InputEnd c =
    let es = c.args.table.now in
    let held = c.args.held in
    let holds : Holds es c.over-cursor.result held = subst (Holds es c.over-cursor.result) c.as_str.ensures c.over-cursor.ensures in
    IfOk-row _ _ _ es c.args.back held c.args.class c.args.c
    (step-at_end es c.args.back held c.args.class c.args.c c.in-InputEnd.is)
    (c.end_of_name.ensures (longest held es) (c.best.ensures es held holds))

pub returns-in-Stop : goal.returns-in-Stop
returns-in-Stop c =
    let es = c.args.table.now in
    let held = c.args.held in
    let holds : Holds es c.over-cursor.result held = subst (Holds es c.over-cursor.result) c.as_str.ensures c.over-cursor.ensures in
    IfOk-row _ _ _ es c.args.back held c.args.class c.args.c
    (step-at_other es c.args.back held c.args.class c.args.c c.in_default.not-InputEnd (none_goes_on _ c.in-Stop.best _ c.in-Stop.is (c.push.ensures.more held holds)))
    (c.end_of_name-in-Stop.ensures (longest held es) (c.in-Stop.ensures.stop held holds))

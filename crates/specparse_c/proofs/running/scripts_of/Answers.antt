use Rattle.std.proofs.Common.{◌≡◌, List, take, ap, ◌∙◌}
use Rattle.std.proofs.lemmas.List.{take_more, take_all}
use Rattle.std.proofs.lemmas.List.Elements.{Contains-get_or}
use Rattle.std.proofs.lemmas.Result.{err_from_is_err_and}
use Rattle.serial.specs.Scripts.{missing}
use Rattle.memory_runner.specs.Runs.{scripts_in}
use Rattle.html_document.specs.declared.spans.FlatAttribute.{FlatAttribute}
use Rattle.specparse_c.specs.Runs.{scripts_given}
use Rattle.specparse_c.proofs.RunLemmas.{more-scripts, fails-scripts}
use Rattle.specparse_c.proofs.running.scripts_of.Goals as goal

pub loop-row-init : goal.loop-row-init
loop-row-init c = λ name. c.new-all.ensures name

pub loop-row-preserved : goal.loop-row-preserved
loop-row-preserved c =
    let k = c.loop-row.row-index in
    more-scripts (λ name. missing) c.args.bytes.now c.args.rows.now k _ (scripts_in c.loop-row.all) (scripts_in c.add_script.new.all) (take_more c.args.rows.now k _ c.loop-row-test.true)
    c.loop-row.invariant c.in_ok-add_script.ensures.added

pub returns-in_err-add_script-clause-failure : goal.returns-in_err-add_script-clause-failure
returns-in_err-add_script-clause-failure c =
    let p = err_from_is_err_and c.from_residual.result c.from_residual.ensures.1 in
    rw (p.1, p.2)
    (fails-scripts c.args.bytes.now c.args.rows.now _ _ (Contains-get_or c.args.rows.now c.loop-row.row-index _ c.loop-row-test.true) c.in_err-add_script.ensures.failure)

pub returns-clause-scripts : goal.returns-clause-scripts
returns-clause-scripts c = λ name.
    let all : take c.loop-row.row-index c.args.rows.now ≡ c.args.rows.now = take_all c.loop-row.row-index c.args.rows.now c.loop-row-test.false in
    c.loop-row.invariant name ∙ ap (λ (l : List FlatAttribute). scripts_given c.args.bytes.now l name) all

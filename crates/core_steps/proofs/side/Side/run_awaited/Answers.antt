use Rattle.std.proofs.Common.{rules, ◌≡◌, ◌∙◌, List, Option, OnOk, sym, ap, subst}
use Rattle.std.specs.Str.{chars}
use Rattle.serial.specs.Statements.{statements}
use Rattle.serial.specs.Scripts.{Fetched, got, missing, faulted, file_statements}
use Rattle.serial.specs.declared.script.Statement.{Statement}
use Rattle.write_parser.specs.Made.{at_view, MadeByText, LogsBy}
use Rattle.core_steps.specs.Acting.{met}
use Rattle.core_steps.specs.Changing.{ReachesView, MadeByFile}
use Rattle.core_steps.specs.declared.side.Side.{Side}
use Rattle.core_steps.proofs.Logged.{side-leaves, behind-text, file-made, faulted-made, missed-made}
use Rattle.core_steps.proofs.Scripts.{ran-holding}
use Rattle.core_steps.proofs.side.Side.run_awaited.Goals as goal
use Rattle.core_steps.proofs.side.Side.run_awaited.Goals.{in-None-16, in-Some+in-Missing-1}

pub settle-requires : goal.settle-requires
settle-requires c =
    ran-holding c.args.name.now c.args.held c.args.self.now c.requires c.as_slice.result.now (statements (chars c.as_str-in-Some-Got.result.now)) c.run_script.new.self
    (ap (λ t. statements (chars t)) c.as_str-in-Some-Got.ensures.value ∙ c.in_ok-text-in-Some-Got.ensures) c.in_ok-run_script-in-Some-Got.ensures.run

pub returns-in_ok-run_script-in-Some-Got-clause-logged : goal.returns-in_ok-run_script-in-Some-Got-clause-logged
returns-in_ok-run_script-in-Some-Got-clause-logged c =
    let old = c.args.self.now in
    let there : met old c.args.name.now ≡ got c.as_slice.result.now = search rules in
    let is : statements (chars c.as_str-in-Some-Got.result.now) ≡ file_statements c.as_slice.result.now =
    ap (λ t. statements (chars t)) c.as_str-in-Some-Got.ensures.value ∙ c.in_ok-text-in-Some-Got.ensures in
    file-made c.settle.result c.args.name.now old (got c.as_slice.result.now) c.settle.new.self.writer c.args.log.now c.settle.new.log there
    (subst (λ (text : Option (List Statement)). OnOk c.settle.result (LogsBy (λ more. ReachesView (MadeByText old.table text (at_view old.writer)) more c.settle.new.self.writer) c.args.log.now
    c.settle.new.log)) is
    (behind-text c.settle.result old.table (at_view c.run_script.new.self) c.settle.new.self.writer c.args.log.now c.run_script.new.log c.settle.new.log
    (statements (chars c.as_str-in-Some-Got.result.now)) old.writer.halted (at_view old.writer) c.requires.halted c.in_ok-run_script-in-Some-Got.ensures.logged c.settle.ensures.logged))

pub returns-in-Some-Faulted-clause-logged : goal.returns-in-Some-Faulted-clause-logged
returns-in-Some-Faulted-clause-logged c =
    let old = c.args.self.now in
    let there : met old c.args.name.now ≡ faulted = search rules in
    subst (λ (f : Fetched). LogsBy (λ more. ReachesView (MadeByFile f old.table (at_view old.writer)) more c.end_parse.new.self.writer) c.args.log.now c.args.log.now) (sym there)
    (faulted-made old.table old.writer c.end_parse.new.self.writer c.args.log.now (side-leaves old c.end_parse.new.self (ap (λ (s : Side). s.writer) c.end_parse.ensures)))

pub returns-in_ok-miss-in-None-clause-logged : goal.returns-in_ok-miss-in-None-clause-logged
returns-in_ok-miss-in-None-clause-logged c =
    let old = c.args.self.now in
    elim c.in-None-1.branch [
      | in-None-16 w ↦
          file-made c.settle-in-None.result c.args.name.now old missing c.settle-in-None.new.self.writer c.args.log.now c.settle-in-None.new.log (search rules)
          (missed-made c.settle-in-None.result c.args.name.now _ old c.miss.new.self c.settle-in-None.new.self.writer c.args.log.now c.settle-in-None.new.log w.self-is c.requires.halted c.requires.pending
          c.in_ok-miss-in-None.ensures.missed c.settle-in-None.ensures.logged)
      | in-Some+in-Missing-1 w ↦
          file-made c.settle-in-None.result c.args.name.now old missing c.settle-in-None.new.self.writer c.args.log.now c.settle-in-None.new.log (search rules)
          (missed-made c.settle-in-None.result c.args.name.now _ old c.miss.new.self c.settle-in-None.new.self.writer c.args.log.now c.settle-in-None.new.log w.self-is c.requires.halted c.requires.pending
          c.in_ok-miss-in-None.ensures.missed c.settle-in-None.ensures.logged)
    ]

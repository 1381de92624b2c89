use Rattle.std.proofs.Common.{◌∙◌, ap, refl}
use Rattle.html_types.specs.declared.instruction.Stop.TheVariants as stop
use Rattle.speculation.specs.declared.batch.Halt.TheVariants as halt
use Rattle.core_steps.specs.declared.side.Side.{Side}
use Rattle.core_steps.specs.Acting.{runs_there}
use Rattle.core_steps.proofs.Logged.{met_doc, executed-made}
use Rattle.core_steps.proofs.Ready.{runs-batch}
use Rattle.core_steps.proofs.side.Side.run_batch.Goals as goal

pub returns-in-At-InputEnd-clause-runs : goal.returns-in-At-InputEnd-clause-runs
returns-in-At-InputEnd-clause-runs c =
    runs-batch c.args.self.now c.execute_batch.new.self c.in_ok-execute_batch.field-0 c.in_ok-execute_batch.ensures.executed c.execute_batch.new.self (halt.At stop.InputEnd)
    (c.in-At-InputEnd.is ∙ ap halt.At c.in-At-InputEnd.field-0-is) refl

pub returns-in_ok-meet_end_tag-in-At-Script-clause-runs : goal.returns-in_ok-meet_end_tag-in-At-Script-clause-runs
returns-in_ok-meet_end_tag-in-At-Script-clause-runs c =
    runs-batch c.args.self.now c.execute_batch.new.self c.in_ok-execute_batch.field-0 c.in_ok-execute_batch.ensures.executed c.meet_end_tag.new.self (halt.At (stop.Script c.in-At-Script.id))
    (c.in-At-Script.is ∙ ap halt.At c.in-At-Script.field-0-is) c.in_ok-meet_end_tag-in-At-Script.ensures.met

pub returns-in-At-Deep-clause-runs : goal.returns-in-At-Deep-clause-runs
returns-in-At-Deep-clause-runs c =
    runs-batch c.args.self.now c.execute_batch.new.self c.in_ok-execute_batch.field-0 c.in_ok-execute_batch.ensures.executed c.end_parse.new.self (halt.At stop.Deep)
    (c.in-At-Deep.is ∙ ap halt.At c.in-At-Deep.field-0-is) c.end_parse.ensures

pub returns-in-Over-clause-runs : goal.returns-in-Over-clause-runs
returns-in-Over-clause-runs c =
    runs-batch c.args.self.now c.execute_batch.new.self c.in_ok-execute_batch.field-0 c.in_ok-execute_batch.ensures.executed c.end_parse-in-Over.new.self (halt.Over c.in-Over.end)
    c.in-Over.is c.end_parse-in-Over.ensures

-- the end of a batch leaves the document as it is

pub returns-in-At-InputEnd-clause-logged : goal.returns-in-At-InputEnd-clause-logged
returns-in-At-InputEnd-clause-logged c = executed-made c.args.self.now c.execute_batch.new.self c.execute_batch.new.self c.in_ok-execute_batch.field-0 c.args.log.now c.execute_batch.new.log c.in_ok-execute_batch.ensures.executed refl c.in_ok-execute_batch.ensures.logged

pub returns-in_ok-meet_end_tag-in-At-Script-clause-logged : goal.returns-in_ok-meet_end_tag-in-At-Script-clause-logged
returns-in_ok-meet_end_tag-in-At-Script-clause-logged c =
    executed-made c.args.self.now c.execute_batch.new.self c.meet_end_tag.new.self c.in_ok-execute_batch.field-0 c.args.log.now c.execute_batch.new.log c.in_ok-execute_batch.ensures.executed
    (met_doc (runs_there c.in-At-Script.id c.execute_batch.new.self) c.in-At-Script.id c.execute_batch.new.self c.meet_end_tag.new.self c.in_ok-meet_end_tag-in-At-Script.ensures.met) c.in_ok-execute_batch.ensures.logged

pub returns-in-At-Deep-clause-logged : goal.returns-in-At-Deep-clause-logged
returns-in-At-Deep-clause-logged c =
    executed-made c.args.self.now c.execute_batch.new.self c.end_parse.new.self c.in_ok-execute_batch.field-0 c.args.log.now c.execute_batch.new.log c.in_ok-execute_batch.ensures.executed (ap (λ (s : Side). s.writer.doc) c.end_parse.ensures) c.in_ok-execute_batch.ensures.logged

pub returns-in-Over-clause-logged : goal.returns-in-Over-clause-logged
returns-in-Over-clause-logged c =
    executed-made c.args.self.now c.execute_batch.new.self c.end_parse-in-Over.new.self c.in_ok-execute_batch.field-0 c.args.log.now c.execute_batch.new.log c.in_ok-execute_batch.ensures.executed (ap (λ (s : Side). s.writer.doc) c.end_parse-in-Over.ensures) c.in_ok-execute_batch.ensures.logged

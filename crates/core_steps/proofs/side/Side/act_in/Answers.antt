use Rattle.std.proofs.Common.{OnOk, IsTrue, true≢false, sym, subst}
use Rattle.core_definitions.specs.Desk.{can_do}
use Rattle.write_parser.specs.Made.{LogsBy}
use Rattle.core_steps.specs.declared.stage.Stage.{Stage}
use Rattle.core_steps.specs.Sides.{desk_of}
use Rattle.core_steps.specs.Acting.{at_stage}
use Rattle.core_steps.specs.Changing.{MadeIn}
use Rattle.core_steps.proofs.side.Side.act_in.Goals as goal

pub returns-in-Free-clause-logged : goal.returns-in-Free-clause-logged
returns-in-Free-clause-logged c =
    subst (λ (t : Stage). OnOk c.run_batch.result (LogsBy (λ more. MadeIn t c.args.self.now more c.run_batch.new.self) c.args.log.now c.run_batch.new.log)) (sym c.in-Free.is) c.run_batch.ensures.logged

pub returns-in-Tagged-clause-logged : goal.returns-in-Tagged-clause-logged
returns-in-Tagged-clause-logged c =
    subst (λ (t : Stage). OnOk c.run_tagged.result (LogsBy (λ more. MadeIn t c.args.self.now more c.run_tagged.new.self) c.args.log.now c.run_tagged.new.log)) (sym c.in-Tagged.is) c.run_tagged.ensures.logged

pub returns-in-Waits-clause-logged : goal.returns-in-Waits-clause-logged
returns-in-Waits-clause-logged c =
    subst (λ (t : Stage). OnOk c.run_awaited.result (LogsBy (λ more. MadeIn t c.args.self.now more c.run_awaited.new.self) c.args.log.now c.run_awaited.new.log)) (sym c.in-Waits.is) c.run_awaited.ensures.logged

-- nothing is to be done
pub returns-in-Done-clause-logged : goal.returns-in-Done-clause-logged
returns-in-Done-clause-logged c =
    absurd (true≢false (sym (subst (λ (t : Stage). IsTrue (can_do (desk_of (at_stage t c.args.self.now)))) c.in-Done.is c.requires.can)))

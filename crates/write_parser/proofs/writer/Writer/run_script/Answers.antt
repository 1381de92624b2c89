use Rattle.std.proofs.Common.{◌≡◌, false, None, sym, subst, ◌∙◌}
use Rattle.std.specs.Str.{chars}
use Rattle.serial.specs.Statements.{statements}
use Rattle.write_parser.specs.Made.{at_view, MadeUnless, LogsBy}
use Rattle.write_parser.specs.Writing.{View, HasRun}
use Rattle.write_parser.specs.Steps.{view_of}
use Rattle.write_parser.proofs.StatementLemmas.{halted-some, halted-none}
use Rattle.write_parser.proofs.MadeLemmas.{unless-refused, unless-going}
use Rattle.write_parser.proofs.LevelLemmas.{text-runs}
use Rattle.write_parser.proofs.writer.Writer.run_script.Goals as goal

pub returns-clause-run : goal.returns-clause-run
returns-clause-run c =
    let on : c.self.inside.live.halted ≡ None = halted-none c.self.inside.live.halted (sym c.is_some.ensures ∙ c.if-is_some.false) in
    subst (λ v. HasRun c.args.table.now v.halted v (view_of c.run_text.new.self false) (statements (chars c.args.text.now))) c.self.view_is
    (subst (λ h. HasRun c.args.table.now h (view_of c.self.inside.live c.self.inside.spent) (view_of c.run_text.new.self false) (statements (chars c.args.text.now))) (sym on)
    (text-runs c.args.table.now (chars c.args.text.now) c.self.inside.live c.self.inside.spent c.run_text.new.self c.in_ok-run_text.ensures.does))

pub returns-then-is_some-clause-logged : goal.returns-then-is_some-clause-logged
returns-then-is_some-clause-logged c =
    let refused = halted-some c.self.inside.live.halted (sym c.is_some.ensures ∙ c.if-is_some.true) in
    subst (λ (v : View). LogsBy (λ more. MadeUnless v.halted c.args.table.now (statements (chars c.args.text.now)) (at_view v) more (at_view v)) c.args.log.now c.args.log.now) c.self.view_is
    (unless-refused c.args.table.now (statements (chars c.args.text.now)) c.self.inside.live.halted refused.0 (at_view (view_of c.self.inside.live c.self.inside.spent)) c.args.log.now refused.1)

pub returns-clause-logged : goal.returns-clause-logged
returns-clause-logged c =
    let on : c.self.inside.live.halted ≡ None = halted-none c.self.inside.live.halted (sym c.is_some.ensures ∙ c.if-is_some.false) in
    subst (λ (v : View). LogsBy (λ more. MadeUnless v.halted c.args.table.now (statements (chars c.args.text.now)) (at_view v) more (at_view (view_of c.run_text.new.self false))) c.args.log.now
    c.run_text.new.log) c.self.view_is
    (unless-going c.args.table.now (statements (chars c.args.text.now)) c.self.inside.live.halted (at_view (view_of c.self.inside.live c.self.inside.spent))
    (at_view (view_of c.run_text.new.self false)) c.args.log.now c.run_text.new.log on c.in_ok-run_text.ensures.logged)

use Rattle.std.proofs.Common.{refl}
use Rattle.std.proofs.lemmas.Result.{IfOk-weaker}
use Rattle.outside.specs.Memory.{files_of}
use Rattle.page_runner.specs.Making.{IsRunOf}
use Rattle.page_runner.proofs.MakingLemmas.{never-rose, run-over}
use Rattle.page_runner.proofs.making.parse_made.Goals as goal

pub returns : goal.returns
returns g c =
    IfOk-weaker c.run_of-run.result _ (IsRunOf c.args.words) (λ run tells.
    run-over c.args.words c.requires.count _ _ (files_of c.args.files.now) refl c.requires.files.page_is c.requires.files.scripts never-rose never-rose _ _
    c.args.table.now _ _ _ _ run c.requires.table.0 c.in_ok-from_str.ensures.ok c.in_ok-from_str-2.ensures.ok c.page_on_two-report.ensures.answer c.page_on_two-report.ensures.reports tells) c.run_of-run.ensures

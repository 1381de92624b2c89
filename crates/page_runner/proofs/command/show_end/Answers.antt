use Rattle.std.proofs.Common.{length}
use Rattle.std.proofs.lemmas.Result.{IfOk-weaker}
use Rattle.page_runner.proofs.MannerLemmas.{finished_with, refused_with}
use Rattle.page_runner.proofs.command.show_end.Goals as goal

pub returns-in-Finished : goal.returns-in-Finished
returns-in-Finished c = IfOk-weaker c.show_finished.result _ _ (λ bytes is. finished_with _ (length c.args.seen.now) c.args.outcome c.args.doc.now.tree bytes.items c.in-Finished.is is) c.show_finished.ensures

pub returns-in-Refused : goal.returns-in-Refused
returns-in-Refused c = IfOk-weaker c.show_outcome.result _ _ (λ bytes is. refused_with _ (length c.args.seen.now) c.args.outcome _ c.args.doc.now.tree bytes.items c.in-Refused.is is) c.show_outcome.ensures

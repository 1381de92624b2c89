use Rattle.std.proofs.Common.{◌∙◌, ap, subst, Err, IsTrue}
use Rattle.outside.specs.Outside.{Rose}
use Rattle.parse_machine.specs.declared.end.End.TheVariants as end
use Rattle.page_runner.specs.Answers.{is_finished}
use Rattle.page_runner.proofs.RunLemmas.{gives_failure, gives_all, failure_unfinished}
use Rattle.page_runner.proofs.making.end_finished.Goals as goal

pub returns-in-Err-clause-gives : goal.returns-in-Err-clause-gives
returns-in-Err-clause-gives g c = rw c.status_for.ensures (gives_failure c.in-Err.failure _ _ _ _ (λ is. c.write_tally.ensures.write (c.in-Err.is ∙ ap Err is)) c.in-Err.ensures.err)

pub returns-in-Err-clause-clean : goal.returns-in-Err-clause-clean
returns-in-Err-clause-clean g c e = absurd (failure_unfinished c.in-Err.failure (subst (λ s. IsTrue (is_finished s)) c.status_for.ensures e))

pub returns-in-Ok-clause-gives : goal.returns-in-Ok-clause-gives
returns-in-Ok-clause-gives g c = gives_all end.Finished (Rose (g.K.Sink.faults c.args.out.now) (g.K.Sink.faults c.write_tally.new.out)) _ _ _ c.in-Ok.ensures.ok

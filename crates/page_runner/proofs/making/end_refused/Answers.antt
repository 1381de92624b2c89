use Rattle.std.proofs.Common.{[]}
use Rattle.outside.specs.Outside.{Rose}
use Rattle.page_runner.proofs.RunLemmas.{gives_write_fault}
use Rattle.page_runner.proofs.MakingLemmas.{gives-refusal}
use Rattle.page_runner.proofs.making.end_refused.Goals as goal

pub returns-in-Ok-clause-gives : goal.returns-in-Ok-clause-gives
returns-in-Ok-clause-gives g c = gives-refusal c.args.outcome (Rose (g.K.Sink.faults c.args.out.now) (g.K.Sink.faults c.finish.new.self)) (g.K.Sink.taken c.args.out.now) (g.K.Sink.taken c.finish.new.self) c.requires c.finish.ensures.taken

pub returns-in-Err-clause-gives : goal.returns-in-Err-clause-gives
returns-in-Err-clause-gives g c = gives_write_fault (Rose (g.K.Sink.faults c.args.out.now) (g.K.Sink.faults c.finish.new.self)) (g.K.Sink.taken c.args.out.now) (g.K.Sink.taken c.finish.new.self) (c.args.outcome, []) c.in-Err.ensures.faults_rose c.finish.ensures.taken

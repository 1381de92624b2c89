use Rattle.std.proofs.Common.{[]}
use Rattle.outside.specs.Outside.{Rose}
use Rattle.page_runner.specs.declared.status.Status.TheVariants as status
use Rattle.page_runner.proofs.RunLemmas.{gives_read_fault, gives_write_fault}
use Rattle.page_runner.proofs.command.end_at_fault.Goals as goal

pub returns-in-Ok-clause-gives : goal.returns-in-Ok-clause-gives
returns-in-Ok-clause-gives g c = gives_read_fault (Rose (g.K.Sink.faults c.args.out.now) (g.K.Sink.faults c.finish.new.self)) (g.K.Sink.taken c.args.out.now) (g.K.Sink.taken c.finish.new.self) c.finish.ensures.taken

pub returns-in-Err-clause-gives : goal.returns-in-Err-clause-gives
returns-in-Err-clause-gives g c = gives_write_fault (Rose (g.K.Sink.faults c.args.out.now) (g.K.Sink.faults c.finish.new.self)) (g.K.Sink.taken c.args.out.now) (g.K.Sink.taken c.finish.new.self) (status.ReadFault, []) c.in-Err.ensures.faults_rose c.finish.ensures.taken

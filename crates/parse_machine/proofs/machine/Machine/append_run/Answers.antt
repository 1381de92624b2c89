use Rattle.standard.specs.Parser.{parser}
use Rattle.parse_machine.proofs.Runs.{none_taken}
use Rattle.parse_machine.proofs.Tags.{appended-if}
use Rattle.parse_machine.proofs.machine.Machine.append_run.Goals as goal

pub returns-then-self-clause-parsed : goal.returns-then-self-clause-parsed
returns-then-self-clause-parsed c ops = none_taken c.args.text.now c.args.from c.args.self.now ops

pub returns-clause-parsed : goal.returns-clause-parsed
returns-clause-parsed c = rw (← c.self.view_is)
    (appended-if c.args.text.now c.args.from (parser c.self.inside.tokenizer.state c.self.inside.after_cr c.self.inside.builder) c.append.new.self.state c.append.result
    c.utf8.text c.requires c.if-self.false c.append.ensures.onward c.append.ensures.led c.append.ensures.no_cr)
